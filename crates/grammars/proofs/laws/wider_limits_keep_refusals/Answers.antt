use Rattle.grammars.proofs.Wider.{keeps_refusals}
use Rattle.grammars.proofs.laws.wider_limits_keep_refusals.Goals as goal

pub returns : goal.returns
returns g c = keeps_refusals g.W.Widened.limited g.W.Widened.wider g.W.Widened.widens
