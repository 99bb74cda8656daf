use Rattle.cm_conditions.proofs.NestsOnce.{in_one_way}
use Rattle.cm_conditions.proofs.laws.lines_nest_in_one_way.Goals as goal

pub returns-clause-one : goal.returns-clause-one
returns-clause-one c = in_one_way
