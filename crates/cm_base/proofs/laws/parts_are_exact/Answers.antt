use Rattle.cm_base.proofs.FileLemmas.{get-store_part, get-project_part}
use Rattle.cm_base.proofs.laws.parts_are_exact.Goals as goal

pub returns-clause-store : goal.returns-clause-store
returns-clause-store c = get-store_part

pub returns-clause-project : goal.returns-clause-project
returns-clause-project c = get-project_part
