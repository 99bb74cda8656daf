use Rattle.std.proofs.Common.{◌≡◌, drop}
use Rattle.unification.specs.Types.{Ty, put}
use Rattle.unification.specs.Plain.{type_of, bound_by}
use Rattle.unification.proofs.unifier.Unifier.whole.Given as goal

abbrev pub invariant-loop-binding : goal.invariant-loop-binding
invariant-loop-binding l =
    put (bound_by (drop l.binding-index l.fn.self.bindings) Ty.Var) (type_of l.whole)
    ≡ put (bound_by l.fn.self.bindings Ty.Var) (type_of l.fn.ty)
