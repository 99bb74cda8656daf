use Rattle.std.proofs.Common.{◌≡◌, map}
use Rattle.initial_basis.specs.Phrases.{applied}
use Rattle.initial_basis.proofs.phrases.product.Given as goal

-- the parts so far are those that were yielded
abbrev pub invariant-loop-part : goal.invariant-loop-part
invariant-loop-part l = l.parts ≡ map (λ part. applied l.names part.now) l.yielded
