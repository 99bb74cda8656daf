use Rattle.plan_laws.proofs.Taking.{takes_each}
use Rattle.plan_laws.proofs.laws.a_build_takes_each_source.Goals as goal

pub returns : goal.returns
returns c = takes_each
