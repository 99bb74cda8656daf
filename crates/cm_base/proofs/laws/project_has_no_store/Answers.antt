use Rattle.cm_base.proofs.FileLemmas.{project_apart}
use Rattle.cm_base.proofs.laws.project_has_no_store.Goals as goal

pub returns : goal.returns
returns c = project_apart
