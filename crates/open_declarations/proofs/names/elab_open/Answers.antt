use Rattle.std.proofs.Common.{sym, ap, ◌∙◌}
use Rattle.semantic_objects.specs.Environments.{empty_env}
use Rattle.static_semantics.specs.Inferring.{gives}
use Rattle.static_semantics.specs.CoreInference.{infer_open}
use Rattle.core_scopes.specs.Marks.{env_of_made}
use Rattle.type_phrases.specs.Inferred.{Answers, scope_in}
use Rattle.type_phrases.proofs.PartsRead.{passed_on}
use Rattle.type_phrases.proofs.Steps.{still_refused}
use Rattle.open_declarations.specs.Opened.{opened_env}
use Rattle.open_declarations.proofs.names.elab_open.Goals as goal

pub returns-in_err-envs-clause-infers : goal.returns-in_err-envs-clause-infers
returns-in_err-envs-clause-infers g c = λ t read.
    let want = infer_open (scope_in c.args.g.now t read c.args.scope.now) c.args.longs.now empty_env in
    passed_on (λ r. Answers want (env_of_made c.args.g.now read) r) c.from_residual.result c.in_err-envs.field-0.0
    c.from_residual.ensures.1
    (still_refused want (opened_env c.args.g.now) (env_of_made c.args.g.now read) c.in_err-envs.field-0.0
    (c.in_err-envs.ensures.infers t read))

pub returns-clause-infers : goal.returns-clause-infers
returns-clause-infers g c = λ t read.
    c.in_ok-envs.ensures.infers t read ∙ ap gives (sym (c.in_ok-made.ensures.env read))
