use Rattle.module_parser.proofs.UnitLaws.{one_diagnostic}
use Rattle.module_parser.proofs.laws.a_text_has_one_first_diagnostic.Goals as goal

pub returns : goal.returns
returns c = one_diagnostic
