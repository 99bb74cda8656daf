use Rattle.std.proofs.Common.{◌≡◌, map, drop}
use Rattle.skeletons.specs.Scopes.{joined}
use Rattle.skeletons.specs.Skeletons.{sig_bound}
use Rattle.skeletons.specs.Walks.{noted}
use Rattle.skeletons.proofs.walk_unit.walk_sigs.Given as goal

-- what is noted, and the bindings that are left
abbrev pub invariant-loop-bind : goal.invariant-loop-bind
invariant-loop-bind l =
    noted l.walk (joined (map sig_bound (drop l.bind-index l.binds))).uses
    ≡ noted l.fn.walk (joined (map sig_bound l.fn.binds)).uses
