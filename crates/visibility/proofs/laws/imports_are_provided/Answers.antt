use Rattle.visibility.proofs.ImportLaws.{imports_provided}
use Rattle.visibility.proofs.laws.imports_are_provided.Goals as goal

pub returns : goal.returns
returns c = imports_provided
