use Rattle.std.proofs.Common.{refl, ◌∙◌}
use Rattle.std.specs.Prelude.{Ok, Err}
use Rattle.cm_base.specs.declared.fault.Fault.TheVariants as fault
use Rattle.type_phrases.specs.Inferred.{progress, scope_in}
use Rattle.type_phrases.proofs.Keeping.{keeps_all}
use Rattle.signature_specs.specs.Specs.{signature_so_far}
use Rattle.datatype_specs.specs.Replicas.{infer_replication_spec}
use Rattle.signature_parts.proofs.Elaborated.{grows_self, spec_passed, spec_fails, spec_memory, spec_bound}
use Rattle.signature_elab.proofs.Chaining.{answers_with}
use Rattle.signature_elab.proofs.leaves.replication.Goals as goal

pub returns-in_err-elab_replication_spec : goal.returns-in_err-elab_replication_spec
returns-in_err-elab_replication_spec g c =
    spec_passed c.from_residual.result c.in_err-elab_replication_spec.field-0.0 c.from_residual.ensures.1
    (spec_fails c.in_err-elab_replication_spec.field-0.0
    (λ w read. answers_with
    (infer_replication_spec (scope_in c.args.g.now w read c.args.scope.now) c.args.name.now c.args.long.now
    (signature_so_far c.args.g.now c.args.made.now)) (progress c.args.t.now c.args.g.now)
    (λ (done : Unit {0}). signature_so_far c.args.g.now c.elab_replication_spec.new.made)
    (Err c.in_err-elab_replication_spec.field-0.0) (c.in_err-elab_replication_spec.ensures.infers w read))
    (keeps_all c.args.t.now) (grows_self c.args.g.now))

pub returns-in_err-bind_since : goal.returns-in_err-bind_since
returns-in_err-bind_since g c =
    spec_passed c.from_residual-in_err-bind_since.result fault.NoMemory c.from_residual-in_err-bind_since.ensures.1
    (spec_memory (keeps_all c.args.t.now) (grows_self c.args.g.now))

pub returns : goal.returns
returns g c =
    spec_bound
    (λ w read. answers_with
    (infer_replication_spec (scope_in c.args.g.now w read c.args.scope.now) c.args.name.now c.args.long.now
    (signature_so_far c.args.g.now c.args.made.now)) (progress c.args.t.now c.args.g.now)
    (λ (done : Unit {0}). signature_so_far c.args.g.now c.elab_replication_spec.new.made)
    (Ok tt) (c.in_ok-elab_replication_spec.ensures.infers w read))
    (keeps_all c.args.t.now) (grows_self c.args.g.now) refl c.in_ok-elab_replication_spec.ensures.front
    c.in_ok-elab_replication_spec.ensures.structures c.requires.envs c.requires.scope
    (λ graph first e. c.in_ok-bind_since.ensures.ok graph first (c.mark-before.ensures ∙ e))
