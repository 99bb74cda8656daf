use Rattle.std.proofs.Common.{refl, ◌∙◌}
use Rattle.cm_base.specs.declared.fault.Fault.TheVariants as fault
use Rattle.type_phrases.specs.Inferred.{scope_in}
use Rattle.signature_parts.proofs.Elaborated.{grows_items, spec_passed, spec_fails, spec_memory, spec_bound}
use Rattle.signature_elab.proofs.leaves.types.Goals as goal

pub returns-in_err-elab_types : goal.returns-in_err-elab_types
returns-in_err-elab_types g c =
    spec_passed c.from_residual.result c.in_err-elab_types.field-0.0 c.from_residual.ensures.1
    (spec_fails c.in_err-elab_types.field-0.0
    (λ w read. c.in_err-elab_types.ensures.infers (scope_in c.args.g.now w read c.args.scope.now) refl)
    c.in_err-elab_types.ensures.keeps
    (grows_items c.args.g.now c.elab_types.new.g c.in_err-elab_types.ensures.items c.in_err-elab_types.ensures.home))

pub returns-in_err-bind_since : goal.returns-in_err-bind_since
returns-in_err-bind_since g c =
    spec_passed c.from_residual-in_err-bind_since.result fault.NoMemory c.from_residual-in_err-bind_since.ensures.1
    (spec_memory c.in_ok-elab_types.ensures.keeps
    (grows_items c.args.g.now c.elab_types.new.g c.in_ok-elab_types.ensures.items c.in_ok-elab_types.ensures.home))

pub returns : goal.returns
returns g c =
    spec_bound (λ w read. c.in_ok-elab_types.ensures.infers (scope_in c.args.g.now w read c.args.scope.now) refl)
    c.in_ok-elab_types.ensures.keeps
    (grows_items c.args.g.now c.elab_types.new.g c.in_ok-elab_types.ensures.items c.in_ok-elab_types.ensures.home)
    refl c.in_ok-elab_types.ensures.front c.in_ok-elab_types.ensures.structures c.requires.envs c.requires.scope
    (λ graph first e. c.in_ok-bind_since.ensures.ok graph first (c.mark-before.ensures ∙ e))
