use Rattle.grammars.proofs.SumHeights.{sum_measured}
use Rattle.grammars.proofs.toy.laws.sums_keep_their_limit.Goals as goal

pub returns : goal.returns
returns c = sum_measured c.args.limit
