use Rattle.cm_bytes.proofs.Fields.{list_again, list_takes}
use Rattle.cm_bytes.proofs.laws.list_is_exact.Goals as goal

pub returns-clause-again : goal.returns-clause-again
returns-clause-again g c = list_again

pub returns-clause-spelled : goal.returns-clause-spelled
returns-clause-spelled g c =
    λ item_of item_at law bytes xs rest h e.
    let read = list_takes item_of item_at (λ x. Unit {0}) law bytes xs rest h e in (read.takes.parts, read.count)
