use Rattle.std.proofs.Common.{ap, map, List}
use Rattle.sml_trees.specs.declared.sig_exp.SigBind.{SigBind}
use Rattle.unit_semantics.specs.UnitPhrases.{sig_bind_phrase}
use Rattle.sml_modules.specs.Graphs.{signature_at, HasSignature}
use Rattle.sml_types.proofs.Frames.{drop_past}
use Rattle.type_phrases.proofs.PartsRead.{passed_on, drop_item}
use Rattle.structure_elab.specs.Moments.{moment}
use Rattle.top_bindings.specs.Bindings.{sig_name, infer_sig_bind, AreSignatureRows}
use Rattle.top_bindings.proofs.Rows.{rows_begin, rows_ready, rows_next, rows_fail, rows_end}
use Rattle.top_bindings.proofs.Sorts.{signatures_kind}
use Rattle.top_bindings.proofs.signatures.elab_signatures.Goals as goal

pub loop-bind-init : goal.loop-bind-init
loop-bind-init c =
    rows_begin sig_name infer_sig_bind signature_at HasSignature signatures_kind
    (moment c.args.g.now c.args.t.now c.args.top.now) (map sig_bind_phrase c.args.binds.now) c.args.made.now c.requires.ready
    c.requires.made

pub is_ready_top-requires : goal.is_ready_top-requires
is_ready_top-requires c =
    λ k. rows_ready sig_name infer_sig_bind signature_at HasSignature signatures_kind c.loop-bind.invariant k

pub bind_signature-requires-clause-made : goal.bind_signature-requires-clause-made
bind_signature-requires-clause-made c = c.loop-bind.invariant.rows_there

pub loop-bind-preserved : goal.loop-bind-preserved
loop-bind-preserved c =
    rows_next sig_name infer_sig_bind signature_at HasSignature signatures_kind c.loop-bind.invariant
    (ap (λ (binds : List SigBind). map sig_bind_phrase binds)
    (drop_item c.args.binds.now c.loop-bind.bind-index c.bind-item.result c.loop-bind-test.true c.bind-item.is))
    c.in_ok-bind_signature.ensures

pub returns-in_err-bind_signature : goal.returns-in_err-bind_signature
returns-in_err-bind_signature c =
    passed_on (AreSignatureRows (moment c.args.g.now c.args.t.now c.args.top.now) (map sig_bind_phrase c.args.binds.now)
    c.args.made.now c.bind_signature.new.made
    (moment c.bind_signature.new.g c.bind_signature.new.t c.bind_signature.new.top)) c.from_residual.result
    c.in_err-bind_signature.field-0.0 c.from_residual.ensures.1
    (rows_fail sig_name infer_sig_bind signature_at HasSignature signatures_kind c.loop-bind.invariant
    (ap (λ (binds : List SigBind). map sig_bind_phrase binds)
    (drop_item c.args.binds.now c.loop-bind.bind-index c.bind-item.result c.loop-bind-test.true c.bind-item.is))
    c.in_err-bind_signature.ensures)

pub returns : goal.returns
returns c =
    rows_end sig_name infer_sig_bind signature_at HasSignature signatures_kind c.loop-bind.invariant
    (ap (λ (binds : List SigBind). map sig_bind_phrase binds)
    (drop_past c.args.binds.now c.loop-bind.bind-index c.loop-bind-test.false))
