use Rattle.std.proofs.Common.{◌∙◌}
use Rattle.cm_base.specs.declared.fault.Fault.TheVariants as fault
use Rattle.signature_parts.proofs.Elaborated.{grows_self, spec_passed, spec_fails, spec_memory, spec_bound}
use Rattle.signature_elab.proofs.leaves.vals.Goals as goal

pub returns-in_err-elab_vals : goal.returns-in_err-elab_vals
returns-in_err-elab_vals g c =
    spec_passed c.from_residual.result c.in_err-elab_vals.field-0.0 c.from_residual.ensures.1
    (spec_fails c.in_err-elab_vals.field-0.0 c.in_err-elab_vals.ensures.infers c.in_err-elab_vals.ensures.keeps
    (grows_self c.args.g.now))

pub returns-in_err-bind_since : goal.returns-in_err-bind_since
returns-in_err-bind_since g c =
    spec_passed c.from_residual-in_err-bind_since.result fault.NoMemory c.from_residual-in_err-bind_since.ensures.1
    (spec_memory c.in_ok-elab_vals.ensures.keeps (grows_self c.args.g.now))

pub returns : goal.returns
returns g c =
    spec_bound c.in_ok-elab_vals.ensures.infers c.in_ok-elab_vals.ensures.keeps (grows_self c.args.g.now)
    c.in_ok-elab_vals.ensures.scope c.in_ok-elab_vals.ensures.front c.in_ok-elab_vals.ensures.structures
    c.requires.envs c.requires.scope
    (λ graph first e. c.in_ok-bind_since.ensures.ok graph first (c.mark-before.ensures ∙ e))
