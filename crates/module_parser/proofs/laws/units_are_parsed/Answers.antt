use Rattle.module_parser.proofs.UnitLaws.{units_are_parsed}
use Rattle.module_parser.proofs.laws.units_are_parsed.Goals as goal

pub returns : goal.returns
returns c = units_are_parsed
