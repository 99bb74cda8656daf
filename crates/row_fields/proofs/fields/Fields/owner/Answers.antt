use Rattle.row_fields.proofs.Owners.{unit_owned}
use Rattle.row_fields.proofs.fields.Fields.owner.Goals as goal

pub returns-in-Some-2 : goal.returns-in-Some-2
returns-in-Some-2 c = λ made.
    unit_owned c.args.home.now c.in-Some-2.unit made _ _ _ c.in-Some.kind c.in-2.is (c.in-Some.ensures made)
    ((rw c.in-Some-2.is at c.in_ok-unit-in-2.ensures) made)
