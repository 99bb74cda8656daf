use Rattle.std.proofs.Common.{◌≡◌, map}
use Rattle.path_anchors.proofs.parts.parts_of.Given as goal

-- the components so far are those that were yielded
abbrev pub invariant-loop-part : goal.invariant-loop-part
invariant-loop-part l = l.parts ≡ map (λ part. part.now) l.yielded
