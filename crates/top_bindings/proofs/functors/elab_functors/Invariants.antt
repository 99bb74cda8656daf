use Rattle.std.proofs.Common.{map, drop}
use Rattle.unit_semantics.specs.UnitPhrases.{fun_phrase}
use Rattle.sml_modules.specs.Graphs.{functor_at, HasFunctor}
use Rattle.structure_elab.specs.Moments.{moment}
use Rattle.top_bindings.specs.Bindings.{fun_name, infer_functor}
use Rattle.top_bindings.proofs.Rows.{RowsSoFar}
use Rattle.top_bindings.proofs.Sorts.{functors_kind}
use Rattle.top_bindings.proofs.functors.elab_functors.Given as goal

-- what was bound so far, and the bindings that are left
abbrev pub invariant-loop-bind : goal.invariant-loop-bind
invariant-loop-bind l =
    RowsSoFar fun_name infer_functor functor_at HasFunctor functors_kind (moment l.fn.g l.fn.t l.fn.top)
    (moment l.g l.t l.top) (map fun_phrase l.binds) (map fun_phrase (drop l.bind-index l.binds)) l.fn.made l.made
