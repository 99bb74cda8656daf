use Rattle.std.proofs.Common.{refl}
use Rattle.cm_base.specs.declared.fault.Fault.TheVariants as fault
use Rattle.unit_semantics.specs.UnitPhrases.{sig_bind_phrase}
use Rattle.sml_modules.specs.Graphs.{signature_at, HasSignature}
use Rattle.type_phrases.proofs.PartsRead.{passed_on}
use Rattle.structure_elab.specs.Moments.{moment}
use Rattle.top_bindings.specs.Bindings.{sig_name, infer_sig_bind, IsSignatureRow}
use Rattle.top_bindings.proofs.Rows.{bind_first, bind_second, bind_memory, bind_done}
use Rattle.top_bindings.proofs.Sorts.{signatures_kind}
use Rattle.top_bindings.proofs.signatures.bind_signature.Goals as goal

pub returns-in_err-check_signature : goal.returns-in_err-check_signature
returns-in_err-check_signature c =
    passed_on (IsSignatureRow (moment c.args.g.now c.args.t.now c.args.top.now) (sig_bind_phrase c.args.bind.now) c.args.made.now
    c.args.made.now (moment c.args.g.now c.args.t.now c.args.top.now)) c.from_residual.result
    c.in_err-check_signature.field-0.0 c.from_residual.ensures.1
    (bind_first sig_name infer_sig_bind signature_at HasSignature signatures_kind
    {m0 = moment c.args.g.now c.args.t.now c.args.top.now} (sig_bind_phrase c.args.bind.now) c.args.made.now c.args.made.now
    c.in_err-check_signature.ensures)

pub returns-in_err-sig : goal.returns-in_err-sig
returns-in_err-sig c =
    passed_on (IsSignatureRow (moment c.args.g.now c.args.t.now c.args.top.now) (sig_bind_phrase c.args.bind.now) c.args.made.now
    c.args.made.now (moment c.signature_in.new.g c.signature_in.new.t c.signature_in.new.top))
    c.from_residual-in_err-sig.result c.in_err-sig.field-0.0 c.from_residual-in_err-sig.ensures.1
    (bind_second sig_name infer_sig_bind signature_at HasSignature signatures_kind (sig_bind_phrase c.args.bind.now) c.args.made.now
    c.args.made.now c.requires.ready.there c.in_ok-check_signature.ensures c.in_err-sig.ensures)

pub returns-in_err-copy : goal.returns-in_err-copy
returns-in_err-copy c =
    passed_on (IsSignatureRow (moment c.args.g.now c.args.t.now c.args.top.now) (sig_bind_phrase c.args.bind.now) c.args.made.now
    c.args.made.now (moment c.signature_in.new.g c.signature_in.new.t c.signature_in.new.top))
    c.from_residual-in_err-copy.result fault.NoMemory c.from_residual-in_err-copy.ensures.1
    (bind_memory sig_name infer_sig_bind signature_at HasSignature signatures_kind (sig_bind_phrase c.args.bind.now) c.args.made.now
    c.args.made.now c.in_ok-sig.ensures)

pub returns-in_err-bind : goal.returns-in_err-bind
returns-in_err-bind c =
    passed_on (IsSignatureRow (moment c.args.g.now c.args.t.now c.args.top.now) (sig_bind_phrase c.args.bind.now) c.args.made.now
    c.bind.new.self (moment c.signature_in.new.g c.signature_in.new.t c.signature_in.new.top))
    c.from_residual-in_err-bind.result fault.NoMemory c.from_residual-in_err-bind.ensures.1
    (bind_memory sig_name infer_sig_bind signature_at HasSignature signatures_kind (sig_bind_phrase c.args.bind.now) c.args.made.now
    c.bind.new.self c.in_ok-sig.ensures)

pub returns : goal.returns
returns c =
    bind_done sig_name infer_sig_bind signature_at HasSignature signatures_kind (sig_bind_phrase c.args.bind.now) c.args.made.now
    c.bind.new.self _ c.requires.ready.there c.in_ok-check_signature.ensures c.in_ok-sig.ensures
    c.requires.made c.in_ok-copy.ensures c.in_ok-bind.ensures.ok
