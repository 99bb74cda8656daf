use Rattle.std.proofs.Common.{◌≡◌, map, drop}
use Rattle.unification.specs.Types.{occurs_any}
use Rattle.unification.specs.Plain.{type_of, types_of}
use Rattle.unification.proofs.plain.+stands_in.Given as goal

abbrev pub invariant-stands_in_any-loop-ty : goal.invariant-stands_in_any-loop-ty
invariant-stands_in_any-loop-ty l =
    occurs_any l.fn.variable (types_of (map type_of (drop l.ty-index l.fn.types)))
    ≡ occurs_any l.fn.variable (types_of (map type_of l.fn.types))
