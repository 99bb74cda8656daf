use Rattle.std.proofs.Common.{◌≡◌, ◌++◌, map, drop}
use Rattle.unification.specs.Types.{put}
use Rattle.unification.specs.Unification.{single}
use Rattle.unification.specs.Plain.{type_of}
use Rattle.unification.proofs.plain.+substitute.Given as goal

abbrev pub invariant-substitute_all-loop-ty : goal.invariant-substitute_all-loop-ty
invariant-substitute_all-loop-ty l =
    map type_of l.new
    ++ map (λ t. put (single l.fn.by.variable (type_of l.fn.by.to)) (type_of t)) (drop l.ty-index l.fn.types)
    ≡ map (λ t. put (single l.fn.by.variable (type_of l.fn.by.to)) (type_of t)) l.fn.types
