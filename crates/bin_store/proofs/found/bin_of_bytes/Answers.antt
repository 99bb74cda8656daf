use Rattle.std.proofs.Common.{sym}
use Rattle.bin_store.proofs.StoredBins.{too_long, read_of_unit, spelled_of_unit}
use Rattle.bin_store.proofs.found.bin_of_bytes.Goals as goal

pub returns-then-bytes-gt16777216-clause-is : goal.returns-then-bytes-gt16777216-clause-is
returns-then-bytes-gt16777216-clause-is c = sym (too_long c.args.unit.now c.args.bytes.now c.if-bytes-gt16777216.true)

pub returns-clause-is : goal.returns-clause-is
returns-clause-is c =
    read_of_unit c.args.unit.now c.args.bytes.now c.in_ok-found.found c.of_unit.result c.if-bytes-gt16777216.false
    c.in_ok-found.ensures.spelled c.of_unit.ensures

pub returns-clause-fits : goal.returns-clause-fits
returns-clause-fits c =
    spelled_of_unit c.args.unit.now c.args.bytes.now c.in_ok-found.found c.of_unit.result c.in_ok-found.ensures.spelled
    c.of_unit.ensures
