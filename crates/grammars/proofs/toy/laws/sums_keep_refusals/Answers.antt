use Rattle.grammars.specs.Sums.{level}
use Rattle.grammars.proofs.SumLimits.{sums_wider}
use Rattle.grammars.proofs.Wider.{keeps_refusals}
use Rattle.grammars.proofs.toy.laws.sums_keep_refusals.Goals as goal

pub returns : goal.returns
returns c =
    keeps_refusals (level c.args.limit).sum (level c.args.wider).sum
    (sums_wider c.args.limit c.args.wider c.requires)
