use Rattle.std.proofs.Common.{◌≡◌, ◌++◌, drop, map}
use Rattle.skeletons.specs.Skeletons.{spot}
use Rattle.skeletons.proofs.unit_skeleton.add_spots.Given as goal

-- the names so far, and those that are left
abbrev pub invariant-loop-bind : goal.invariant-loop-bind
invariant-loop-bind g l =
    let bound = g.T.Bound.bound in
    l.found ++ map (λ bind. spot l.space (bound bind)) (drop l.bind-index l.binds)
    ≡ l.fn.found ++ map (λ bind. spot l.fn.space (bound bind)) l.fn.binds
