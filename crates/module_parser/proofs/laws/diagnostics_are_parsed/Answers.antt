use Rattle.module_parser.proofs.UnitLaws.{diagnostics_are_parsed}
use Rattle.module_parser.proofs.laws.diagnostics_are_parsed.Goals as goal

pub returns : goal.returns
returns c = diagnostics_are_parsed
