use Rattle.std.proofs.Common.{◌≡◌, drop}
use Rattle.path_anchors.specs.Names.{walked}
use Rattle.path_anchors.proofs.parts.walk.Given as goal

-- where the components that are left lead from here is where all of them lead
abbrev pub invariant-loop-part : goal.invariant-loop-part
invariant-loop-part l = walked l.here (drop l.part-index l.parts) ≡ walked l.fn.here l.fn.parts
