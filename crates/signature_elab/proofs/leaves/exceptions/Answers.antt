use Rattle.std.proofs.Common.{map, ◌∙◌}
use Rattle.std.specs.Prelude.{Ok, Err}
use Rattle.cm_base.specs.declared.fault.Fault.TheVariants as fault
use Rattle.bare_phrases.specs.PhraseOf.{con_phrase}
use Rattle.module_semantics.specs.SignatureInference.{infer_exception_specs}
use Rattle.type_phrases.specs.Inferred.{scope_in}
use Rattle.signature_specs.specs.Specs.{signature_so_far}
use Rattle.signature_parts.proofs.Elaborated.{grows_self, spec_passed, spec_fails, spec_memory, spec_bound}
use Rattle.signature_elab.proofs.Chaining.{answers_making}
use Rattle.signature_elab.proofs.leaves.exceptions.Goals as goal

pub returns-in_err-elab_exception_specs : goal.returns-in_err-elab_exception_specs
returns-in_err-elab_exception_specs g c =
    spec_passed c.from_residual.result c.in_err-elab_exception_specs.field-0.0 c.from_residual.ensures.1
    (spec_fails c.in_err-elab_exception_specs.field-0.0
    (λ w read. answers_making c.args.g.now c.args.t.now c.elab_exception_specs.new.t
    c.in_err-elab_exception_specs.ensures.makes.state
    (infer_exception_specs (scope_in c.args.g.now w read c.args.scope.now) (map con_phrase c.args.cons.now)
    (signature_so_far c.args.g.now c.args.made.now))
    (λ (done : Unit {0}). signature_so_far c.args.g.now c.elab_exception_specs.new.made)
    (Err c.in_err-elab_exception_specs.field-0.0) (c.in_err-elab_exception_specs.ensures.infers w read))
    c.in_err-elab_exception_specs.ensures.makes.keeps (grows_self c.args.g.now))

pub returns-in_err-bind_since : goal.returns-in_err-bind_since
returns-in_err-bind_since g c =
    spec_passed c.from_residual-in_err-bind_since.result fault.NoMemory c.from_residual-in_err-bind_since.ensures.1
    (spec_memory c.in_ok-elab_exception_specs.ensures.makes.keeps (grows_self c.args.g.now))

pub returns : goal.returns
returns g c =
    spec_bound
    (λ w read. answers_making c.args.g.now c.args.t.now c.elab_exception_specs.new.t
    c.in_ok-elab_exception_specs.ensures.makes.state
    (infer_exception_specs (scope_in c.args.g.now w read c.args.scope.now) (map con_phrase c.args.cons.now)
    (signature_so_far c.args.g.now c.args.made.now))
    (λ (done : Unit {0}). signature_so_far c.args.g.now c.elab_exception_specs.new.made)
    (Ok tt) (c.in_ok-elab_exception_specs.ensures.infers w read))
    c.in_ok-elab_exception_specs.ensures.makes.keeps (grows_self c.args.g.now)
    c.in_ok-elab_exception_specs.ensures.scope c.in_ok-elab_exception_specs.ensures.front
    c.in_ok-elab_exception_specs.ensures.structures c.requires.envs c.requires.scope
    (λ graph first e. c.in_ok-bind_since.ensures.ok graph first (c.mark-before.ensures ∙ e))
