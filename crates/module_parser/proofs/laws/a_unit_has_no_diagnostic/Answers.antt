use Rattle.module_parser.proofs.UnitLaws.{unit_or_diagnostic}
use Rattle.module_parser.proofs.laws.a_unit_has_no_diagnostic.Goals as goal

pub returns : goal.returns
returns c = unit_or_diagnostic
