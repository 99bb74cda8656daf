use Rattle.std.proofs.Common.{refl, sym, ap, ◌∙◌, subst, Some, None, [], ◌∷◌}
use Rattle.std.specs.Prelude.{Err}
use Rattle.std.specs.List.{join_with_byte}
use Rattle.semantic_objects.specs.Environments.{Env, types, empty_env}
use Rattle.static_semantics.specs.Inferring.{Answer, gives, found_at, long_at}
use Rattle.static_semantics.specs.DatatypeInference.{with_datatype}
use Rattle.core_scopes.specs.Scopes.{seen}
use Rattle.core_scopes.specs.Marks.{env_of_made}
use Rattle.type_phrases.specs.Inferred.{Answers, scope_in}
use Rattle.type_phrases.proofs.Steps.{refused}
use Rattle.type_bindings.proofs.Replicating.{replica_is, replication_is}
use Rattle.type_bindings.proofs.replication.replicate.Goals as goal

pub returns-in_ok-replica-in-Some-clause-infers : goal.returns-in_ok-replica-in-Some-clause-infers
returns-in_ok-replica-in-Some-clause-infers g c = λ t read.
    replication_is c.args.g.now t read c.args.scope.now c.args.name.now c.args.long.now (Some c.in-Some.found)
    (sym c.in-Some.is ∙ c.in_ok-found.ensures read
    ∙ ap (λ parts. found_at types parts (seen c.args.g.now read c.args.scope.now)) c.as_slice.ensures)
    ∙ ap gives (ap (λ n. with_datatype n c.in-Some.found empty_env) (sym c.in_ok-copy-in-Some.ensures)
    ∙ sym (replica_is c.args.g.now read c.in_ok-copy-in-Some.field-0 c.in-Some.found
    c.in_ok-replica-in-Some.field-0 c.in_ok-replica-in-Some.ensures))

pub returns-in-None-clause-infers : goal.returns-in-None-clause-infers
returns-in-None-clause-infers g c = λ t read.
    subst (λ (w : Answer Env). Answers w (env_of_made c.args.g.now read) (Err c.unknown.result))
    (sym (replication_is c.args.g.now t read c.args.scope.now c.args.name.now c.args.long.now None
    (sym c.in-None.is ∙ c.in_ok-found.ensures read
    ∙ ap (λ parts. found_at types parts (seen c.args.g.now read c.args.scope.now)) c.as_slice.ensures)))
    (refused c.args.g.now (scope_in c.args.g.now t read c.args.scope.now) 30 (long_at c.args.long.now)
    (join_with_byte 46 c.args.long.now.parts ∷ []) (env_of_made c.args.g.now read) c.unknown.result refl
    c.unknown.ensures)
