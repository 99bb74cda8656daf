use Rattle.member_deriving.proofs.Naming.{built_in_have_none}
use Rattle.member_deriving.proofs.laws.built_in_classes_have_no_tool.Goals as goal

pub returns : goal.returns
returns c = built_in_have_none
