use Rattle.std.proofs.Common.{ap, ◌∙◌, ◌++◌}
use Rattle.signature_parts.proofs.including.append.Goals as goal

pub loop-name-init : goal.loop-name-init
loop-name-init c =
    ap (λ names. c.args.bound.now ++ names)
    (c.into_iter-name-iterator.ensures.into_iter_gives.0 ∙ c.into_vec-name-items.ensures)
