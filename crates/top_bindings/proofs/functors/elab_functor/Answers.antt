use Rattle.cm_base.specs.declared.fault.Fault.TheVariants as fault
use Rattle.sml_modules.proofs.Keeping.{keeps, extends_self}
use Rattle.std.proofs.Common.{refl}
use Rattle.module_semantics.specs.SignatureNames.{opened}
use Rattle.unit_semantics.specs.UnitPhrases.{fun_phrase}
use Rattle.unit_semantics.specs.UnitInference.{infer_body}
use Rattle.unification.specs.Unification.{depth}
use Rattle.structure_elab.specs.Moments.{moment}
use Rattle.structure_elab.proofs.Chains.{passed, there_kept}
use Rattle.module_rules.proofs.Renewing.{grows_may}
use Rattle.top_bindings.proofs.Bodies.{parts_there, param_first, param_memory, param_done, ready_with}
use Rattle.top_bindings.proofs.functors.elab_functor.Goals as goal

pub signature_in-requires : goal.signature_in-requires
signature_in-requires c = c.requires.there

pub read_sig-requires : goal.read_sig-requires
read_sig-requires c = c.in_ok-sig.ensures.has

pub open_signature-requires : goal.open_signature-requires
open_signature-requires c = c.in_ok-sig.ensures.has

pub is_ready_with-requires : goal.is_ready_with-requires
is_ready_with-requires c = λ k. ready_with {m0 = moment c.args.g.now c.args.t.now c.args.top.now}
    (fun_phrase c.args.bind.now).param (fun_phrase c.args.bind.now).param_sig c.in_ok-inside.inside
    c.open_signature.new.g c.requires c.in_ok-sig.ensures c.in_ok-inside.ensures.ok k

pub elab_body-requires-clause-param : goal.elab_body-requires-clause-param
elab_body-requires-clause-param c = c.in_ok-inside.ensures.ok.keeps.has_env c.in_ok-param.param.env
    c.in_ok-param.ensures.there

pub elab_body-requires-clause-inside : goal.elab_body-requires-clause-inside
elab_body-requires-clause-inside c = c.in_ok-inside.ensures.ok.there

pub returns-in_err-sig : goal.returns-in_err-sig
returns-in_err-sig c =
    passed c.from_residual.result c.in_err-sig.field-0.0 c.from_residual.ensures.1
    (param_first (fun_phrase c.args.bind.now).param_sig
    (λ home top p inside. infer_body depth home top (fun_phrase c.args.bind.now) p inside) c.in_err-sig.ensures)

pub returns-in_err-param : goal.returns-in_err-param
returns-in_err-param c =
    passed c.from_residual-in_err-param.result fault.NoMemory c.from_residual-in_err-param.ensures.1
    (param_memory (fun_phrase c.args.bind.now).param_sig
    (λ home top p inside. infer_body depth home top (fun_phrase c.args.bind.now) p inside) c.signature_in.new.g
    (keeps c.signature_in.new.g c.signature_in.new.g (extends_self c.signature_in.new.g)) refl c.requires.there
    c.in_ok-sig.ensures)

pub returns-in_err-inside : goal.returns-in_err-inside
returns-in_err-inside c =
    passed c.from_residual-in_err-inside.result fault.NoMemory c.from_residual-in_err-inside.ensures.1
    (param_memory (fun_phrase c.args.bind.now).param_sig
    (λ home top p inside. infer_body depth home top (fun_phrase c.args.bind.now) p inside) c.open_signature.new.g
    (grows_may c.signature_in.new.g c.open_signature.new.g c.in_err-inside.ensures.err).keeps
    (grows_may c.signature_in.new.g c.open_signature.new.g c.in_err-inside.ensures.err).home c.requires.there
    c.in_ok-sig.ensures)

pub returns : goal.returns
returns c =
    param_done (fun_phrase c.args.bind.now).param_sig
    (λ home top p inside. infer_body depth home top (fun_phrase c.args.bind.now) p inside) c.in_ok-param.param
    c.in_ok-inside.inside c.open_signature.new.g c.requires.there c.in_ok-sig.ensures
    (there_kept {new = moment c.signature_in.new.g c.signature_in.new.t c.signature_in.new.top}
    c.requires.there c.in_ok-sig.ensures.goes c.in_ok-sig.ensures.left)
    c.in_ok-param.ensures.parts c.in_ok-param.ensures.there c.in_ok-inside.ensures.ok c.elab_body.ensures
