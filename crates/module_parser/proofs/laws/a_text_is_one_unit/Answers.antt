use Rattle.module_parser.proofs.UnitLaws.{one_unit}
use Rattle.module_parser.proofs.laws.a_text_is_one_unit.Goals as goal

pub returns : goal.returns
returns c = one_unit
