use Rattle.std.proofs.Common.{refl}
use Rattle.cm_base.specs.declared.fault.Fault.TheVariants as fault
use Rattle.semantic_objects.specs.Environments.{empty_env, with_structure}
use Rattle.sml_modules.specs.Graphs.{env_at}
use Rattle.module_semantics.specs.SigPhrases.{sig_phrase}
use Rattle.module_semantics.specs.SignatureInference.{signature_of}
use Rattle.unit_semantics.specs.StructureInference.{core_scope}
use Rattle.structure_elab.specs.Moments.{moment}
use Rattle.structure_elab.proofs.Chains.{passed, memory, passes_top}
use Rattle.structure_elab.proofs.Entering.{over_same}
use Rattle.structure_elab.proofs.Steps.{under_stops, under_done}
use Rattle.top_bindings.proofs.funsigs.signature_with_param.Goals as goal

pub signature_in-requires : goal.signature_in-requires
signature_in-requires c = (c.in_ok-enter.ensures c.args.g.now c.requires.env).there c.requires.there

pub returns-in_err-enter : goal.returns-in_err-enter
returns-in_err-enter c =
    passed c.from_residual.result fault.NoMemory c.from_residual.ensures.1
    (memory (passes_top (moment c.args.g.now c.args.t.now c.args.top.now) c.enter.new.top))

pub returns-in_err-made : goal.returns-in_err-made
returns-in_err-made c =
    passed c.from_residual-in_err-made.result c.in_err-made.field-0.0 c.from_residual-in_err-made.ensures.1
    (under_stops (with_structure c.args.param.now.text (env_at c.args.g.now c.args.env) empty_env)
    (λ home top st. signature_of top.signatures (core_scope home top) (sig_phrase c.args.sig.now) st)
    (c.in_ok-enter.ensures c.args.g.now c.requires.env) c.in_err-made.ensures)

pub returns : goal.returns
returns c =
    under_done (with_structure c.args.param.now.text (env_at c.args.g.now c.args.env) empty_env)
    (λ home top st. signature_of top.signatures (core_scope home top) (sig_phrase c.args.sig.now) st)
    (c.in_ok-enter.ensures c.args.g.now c.requires.env) (λ m top. refl) c.in_ok-made.ensures
    (c.leave.ensures c.args.top.now c.mark-before.ensures.is
    (over_same (c.in_ok-enter.ensures c.args.g.now c.requires.env).over c.in_ok-made.ensures.left))
