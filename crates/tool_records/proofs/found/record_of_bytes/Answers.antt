use Rattle.std.proofs.Common.{sym}
use Rattle.tool_records.proofs.Storing.{too_long, read_of_unit}
use Rattle.tool_records.proofs.found.record_of_bytes.Goals as goal

pub returns-then-bytes-gt16777216 : goal.returns-then-bytes-gt16777216
returns-then-bytes-gt16777216 c = sym (too_long c.args.unit.now c.args.bytes.now c.if-bytes-gt16777216.true)

pub returns : goal.returns
returns c =
    read_of_unit c.args.unit.now c.args.bytes.now c.in_ok-found.found c.of_unit.result c.if-bytes-gt16777216.false
    c.in_ok-found.ensures.spelled c.of_unit.ensures
