use Rattle.level_laws.proofs.UnitLevels.{units_nest}
use Rattle.level_laws.proofs.laws.units_nest_at_most_128.Goals as goal

pub returns : goal.returns
returns c = units_nest
