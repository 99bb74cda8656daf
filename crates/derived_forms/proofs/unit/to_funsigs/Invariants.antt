use Rattle.std.proofs.Common.{◌≡◌, ◌++◌, drop, map}
use Rattle.bare_forms.specs.Units.{bare_funsig}
use Rattle.derived_forms.proofs.unit.to_funsigs.Given as goal

-- what is made, and the items that are left
abbrev pub invariant-loop-bind : goal.invariant-loop-bind
invariant-loop-bind l = l.made ++ map bare_funsig (drop l.bind-index l.binds) ≡ map bare_funsig l.binds
