use Rattle.std.proofs.Common.{map, drop}
use Rattle.unit_semantics.specs.UnitPhrases.{funsig_phrase}
use Rattle.sml_modules.specs.Graphs.{functor_at, HasFunctor}
use Rattle.structure_elab.specs.Moments.{moment}
use Rattle.top_bindings.specs.Bindings.{funsig_name, infer_funsig}
use Rattle.top_bindings.proofs.Rows.{RowsSoFar}
use Rattle.top_bindings.proofs.Sorts.{funsigs_kind}
use Rattle.top_bindings.proofs.funsigs.elab_funsigs.Given as goal

-- what was bound so far, and the bindings that are left
abbrev pub invariant-loop-bind : goal.invariant-loop-bind
invariant-loop-bind l =
    RowsSoFar funsig_name infer_funsig functor_at HasFunctor funsigs_kind (moment l.fn.g l.fn.t l.fn.top)
    (moment l.g l.t l.top) (map funsig_phrase l.binds) (map funsig_phrase (drop l.bind-index l.binds)) l.fn.made l.made
