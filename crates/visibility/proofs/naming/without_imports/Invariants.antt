use Rattle.std.proofs.Common.{◌≡◌, [], map, take}
use Rattle.visibility.proofs.naming.without_imports.Given as goal

-- no imports of the units so far
abbrev pub invariant-loop-unit : goal.invariant-loop-unit
invariant-loop-unit l = l.wanted.items ≡ map (λ unit. []) (take l._unit-index l.units)
