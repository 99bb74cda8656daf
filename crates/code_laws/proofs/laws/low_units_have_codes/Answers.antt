use Rattle.code_laws.proofs.Units.{low_units}
use Rattle.code_laws.proofs.laws.low_units_have_codes.Goals as goal

pub returns : goal.returns
returns c = low_units
