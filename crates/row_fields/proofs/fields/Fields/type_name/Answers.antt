use Rattle.row_fields.proofs.Owners.{name_taken}
use Rattle.row_fields.proofs.fields.Fields.type_name.Goals as goal

pub returns : goal.returns
returns c = λ made.
    name_taken c.args.home.now _ made _ _ _ _ _ ((rw c.in-Some.is at c.in_ok-owner.ensures) made)
    (c.in-Some-number.ensures made) (c.in-Some-number-2.ensures made) (c.in-Some-flag.ensures made)
