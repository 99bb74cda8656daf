use Rattle.std.proofs.Common.{◌≡◌, map, drop}
use Rattle.unification.specs.Types.{require_all}
use Rattle.unification.specs.Plain.{type_of, types_of, variables_of, marked_by}
use Rattle.unification.proofs.marking.+require.Given as goal

abbrev pub invariant-require_all-loop-ty : goal.invariant-require_all-loop-ty
invariant-require_all-loop-ty l =
    require_all (variables_of l.fn.kinds).rigid (types_of (map type_of (drop l.ty-index l.fn.types)))
    (marked_by l.marked (variables_of l.fn.kinds).marks)
    ≡ require_all (variables_of l.fn.kinds).rigid (types_of (map type_of l.fn.types))
    (marked_by l.fn.marked (variables_of l.fn.kinds).marks)
