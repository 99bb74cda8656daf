use Rattle.std.proofs.Common.{map, drop}
use Rattle.unit_semantics.specs.UnitPhrases.{sig_bind_phrase}
use Rattle.sml_modules.specs.Graphs.{signature_at, HasSignature}
use Rattle.structure_elab.specs.Moments.{moment}
use Rattle.top_bindings.specs.Bindings.{sig_name, infer_sig_bind}
use Rattle.top_bindings.proofs.Rows.{RowsSoFar}
use Rattle.top_bindings.proofs.Sorts.{signatures_kind}
use Rattle.top_bindings.proofs.signatures.elab_signatures.Given as goal

-- what was bound so far, and the bindings that are left
abbrev pub invariant-loop-bind : goal.invariant-loop-bind
invariant-loop-bind l =
    RowsSoFar sig_name infer_sig_bind signature_at HasSignature signatures_kind (moment l.fn.g l.fn.t l.fn.top)
    (moment l.g l.t l.top) (map sig_bind_phrase l.binds) (map sig_bind_phrase (drop l.bind-index l.binds)) l.fn.made l.made
