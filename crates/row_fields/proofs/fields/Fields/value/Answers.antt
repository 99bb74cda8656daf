use Rattle.row_fields.proofs.Listed.{value_taken}
use Rattle.row_fields.proofs.fields.Fields.value.Goals as goal

pub returns : goal.returns
returns c = value_taken c.in-Some.name.now c.in_ok-name.name c.in-Some-status.status c.in-Some-part.place
    c.args.self.now c.text.new.self c.status.new.self c.part.new.self c.in-Some.ensures c.in-Some-status.ensures
    c.in-Some-part.ensures c.in_ok-name.ensures
