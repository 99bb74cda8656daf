use Rattle.sml_syntax.proofs.ReadUnit.{unit_spelled}
use Rattle.sml_syntax.proofs.laws.code_is_spelled_so.Goals as goal

pub returns : goal.returns
returns c = unit_spelled
