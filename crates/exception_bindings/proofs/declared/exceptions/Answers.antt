use Rattle.std.proofs.Common.{sym, ap, ◌∙◌, map}
use Rattle.std.specs.Prelude.{IfOk}
use Rattle.cm_base.specs.declared.fault.Fault.TheVariants as fault
use Rattle.sml_modules.specs.Graphs.{env_at}
use Rattle.sml_modules.specs.declared.id.EnvId.{EnvId}
use Rattle.bare_phrases.specs.Phrases.{DecPhrase}
use Rattle.bare_phrases.specs.PhraseOf.{ex_phrase}
use Rattle.static_semantics.specs.Inferring.{gives}
use Rattle.static_semantics.specs.DatatypeInference.{exceptions_of}
use Rattle.core_soundness.specs.Following.{DeclaresByRules}
use Rattle.type_phrases.specs.Inferred.{Answers, progress}
use Rattle.type_phrases.proofs.PartsRead.{passed_on}
use Rattle.type_phrases.proofs.Steps.{still_refused}
use Rattle.exception_bindings.specs.Exceptions.{env_of_values, declared_in}
use Rattle.exception_bindings.proofs.Binding.{entries_alone, exceptions_there}
use Rattle.exception_bindings.proofs.declared.exceptions.Goals as goal

pub returns-in_err-values-clause-infers : goal.returns-in_err-values-clause-infers
returns-in_err-values-clause-infers c =
    let want = exceptions_of (declared_in c.args.g.now c.args.t.now c.args.env c.args.vars.now)
    (map ex_phrase c.args.binds.now) in
    passed_on (λ r. Answers want (env_at c.args.g.now) r) c.from_residual.result
    c.in_err-values.field-0.0 c.from_residual.ensures.1
    (still_refused want env_of_values (env_at c.args.g.now) c.in_err-values.field-0.0
    c.in_err-values.ensures.infers)

pub returns-in_err-made-clause-infers : goal.returns-in_err-made-clause-infers
returns-in_err-made-clause-infers c =
    passed_on (λ r. Answers (exceptions_of (declared_in c.args.g.now c.args.t.now c.args.env c.args.vars.now)
    (map ex_phrase c.args.binds.now)) (env_at c.make_env.new.self) r) c.from_residual-in_err-made.result
    fault.NoMemory c.from_residual-in_err-made.ensures.1 tt

pub returns-clause-infers : goal.returns-clause-infers
returns-clause-infers c =
    c.in_ok-values.ensures.infers
    ∙ ap gives (sym (c.in_ok-made.ensures.ok.stands
    ∙ entries_alone c.args.g.now c.new-structures.result c.new-types.result c.in_ok-values.values
    c.new-structures.ensures c.new-types.ensures))

pub returns-in_err-values-clause-sound : goal.returns-in_err-values-clause-sound
returns-in_err-values-clause-sound c = λ at firm.
    passed_on (λ r. IfOk r (λ (id : EnvId). DeclaresByRules (declared_in c.args.g.now c.args.t.now c.args.env c.args.vars.now)
    (DecPhrase.Exceptions (map ex_phrase c.args.binds.now) at) (progress c.args.t.now c.args.g.now)
    (env_at c.args.g.now id, progress c.declared_values.new.t c.args.g.now))) c.from_residual.result
    c.in_err-values.field-0.0 c.from_residual.ensures.1 tt

pub returns-in_err-made-clause-sound : goal.returns-in_err-made-clause-sound
returns-in_err-made-clause-sound c = λ at firm.
    passed_on (λ r. IfOk r (λ (id : EnvId). DeclaresByRules (declared_in c.args.g.now c.args.t.now c.args.env c.args.vars.now)
    (DecPhrase.Exceptions (map ex_phrase c.args.binds.now) at) (progress c.args.t.now c.args.g.now)
    (env_at c.make_env.new.self id, progress c.declared_values.new.t c.make_env.new.self)))
    c.from_residual-in_err-made.result fault.NoMemory c.from_residual-in_err-made.ensures.1 tt

pub returns-clause-sound : goal.returns-clause-sound
returns-clause-sound c = λ at firm.
    exceptions_there c.args.g.now c.make_env.new.self c.args.t.now c.declared_values.new.t
    (declared_in c.args.g.now c.args.t.now c.args.env c.args.vars.now)
    (map ex_phrase c.args.binds.now) at c.in_ok-made.made
    (c.in_ok-values.ensures.infers
    ∙ ap gives (sym (c.in_ok-made.ensures.ok.stands
    ∙ entries_alone c.args.g.now c.new-structures.result c.new-types.result c.in_ok-values.values
    c.new-structures.ensures c.new-types.ensures))) firm c.in_ok-values.ensures.same c.in_ok-made.ensures.ok.made
