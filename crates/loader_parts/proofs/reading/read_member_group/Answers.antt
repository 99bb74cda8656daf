use Rattle.loader_parts.proofs.Steps.{unread}
use Rattle.loader_parts.proofs.reading.read_member_group.Goals as goal

pub returns-in_err-is_frozen-clause-gives : goal.returns-in_err-is_frozen-clause-gives
returns-in_err-is_frozen-clause-gives g c = λ files is.
    unread c.from_residual.result c.in_err-is_frozen.field-0.0 _ _ c.from_residual.ensures.1
    (c.in_err-is_frozen.ensures.gives files is)
