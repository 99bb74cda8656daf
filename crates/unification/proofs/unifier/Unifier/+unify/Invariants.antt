use Rattle.std.proofs.Common.{◌≡◌, ◌+◌, ◌*◌, map, drop}
use Rattle.unification.specs.Unification.{unify_in, unify_all}
use Rattle.unification.specs.Plain.{type_of, types_of, state_of}
use Rattle.unification.proofs.unifier.Unifier.+unify.Given as goal

abbrev pub decreases-unify_below : goal.decreases-unify_below
decreases-unify_below l = 4 * l.deep

abbrev pub decreases-unify_left : goal.decreases-unify_left
decreases-unify_left l = 4 * l.deep + 3

abbrev pub decreases-unify_whole : goal.decreases-unify_whole
decreases-unify_whole l = 4 * l.deep + 2

abbrev pub decreases-unify_parts : goal.decreases-unify_parts
decreases-unify_parts l = 4 * l.deep + 1

abbrev pub invariant-unify_parts-loop-t : goal.invariant-unify_parts-loop-t
invariant-unify_parts-loop-t l =
    unify_all (unify_in l.fn.deep) (types_of (map type_of (drop l.t-index l.fn.ts))) (types_of (map type_of l.others))
    (state_of l.self)
    ≡ unify_all (unify_in l.fn.deep) (types_of (map type_of l.fn.ts)) (types_of (map type_of l.fn.us))
    (state_of l.fn.self)
