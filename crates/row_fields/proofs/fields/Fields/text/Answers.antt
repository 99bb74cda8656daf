use Rattle.row_fields.proofs.Numbers.{text_never}
use Rattle.row_fields.proofs.fields.Fields.text.Goals as goal

pub returns-then-text-len : goal.returns-then-text-len
returns-then-text-len c =
    text_never _ _ _ c.in_ok-len.len c.in_ok-text.text.now c.in_ok-len.ensures c.in_ok-text.ensures c.if-text-len.true
