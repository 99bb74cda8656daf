use Rattle.std.proofs.Common.{◌≡◌, map, drop}
use Rattle.skeletons.specs.Scopes.{joined}
use Rattle.skeletons.specs.Skeletons.{fun_binding}
use Rattle.skeletons.specs.Walks.{declared, bound}
use Rattle.skeletons.proofs.walk_unit.walk_fun_binds.Given as goal

-- the names that are bound, and those that are left
abbrev pub invariant-loop-bind : goal.invariant-loop-bind
invariant-loop-bind l =
    bound l.walk (joined (map fun_binding (drop l.bind-index l.binds))).binds
    ≡ declared l.fn.walk (joined (map fun_binding l.fn.binds))
