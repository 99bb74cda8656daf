use Rattle.std.proofs.Common.{◌≡◌, ◌++◌, drop, map}
use Rattle.bare_forms.specs.Units.{bare_functor}
use Rattle.derived_forms.proofs.unit.to_functors.Given as goal

-- what is made, and the items that are left
abbrev pub invariant-loop-bind : goal.invariant-loop-bind
invariant-loop-bind l = l.made ++ map bare_functor (drop l.bind-index l.binds) ≡ map bare_functor l.binds
