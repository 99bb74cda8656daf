use Rattle.std.proofs.Common.{rules}
use Rattle.row_fields.proofs.Owners.{unit_taken}
use Rattle.row_fields.proofs.fields.Fields.unit.Goals as goal

pub returns : goal.returns
returns c = λ made.
    unit_taken c.args.home.now c.in-Some.unit.now _ made _ _ (c.in-Some.ensures made) c.in_ok-from_bytes.ensures
    (search rules)
