use Rattle.std.proofs.Common.{sym, ap, ◌∙◌, subst, Option, Some, None, ◌∷◌, [], refl}
use Rattle.std.specs.Prelude.{Err}
use Rattle.std.specs.List.{join_with_byte}
use Rattle.semantic_objects.specs.Environments.{Env, structures}
use Rattle.sml_modules.specs.Graphs.{env_at}
use Rattle.static_semantics.specs.Inferring.{known, found_at, long_at}
use Rattle.core_scopes.specs.Scopes.{seen}
use Rattle.core_scopes.proofs.Pathing.{finds_is, any_reading}
use Rattle.type_phrases.specs.Inferred.{Answers, scope_in}
use Rattle.type_phrases.proofs.Steps.{refused}
use Rattle.open_declarations.proofs.names.found_env.Goals as goal

pub returns-in-Some-clause-infers : goal.returns-in-Some-clause-infers
returns-in-Some-clause-infers g c = λ t read.
    let env = seen c.args.g.now read c.args.scope.now in
    let sc = scope_in c.args.g.now t read c.args.scope.now in
    let there = finds_is c.args.g.now (found_at structures c.as_slice.result.now env) c.in_ok-env.field-0
    (Some c.in-Some.env) c.in-Some.is (c.in_ok-env.ensures read) in
    ap (λ ps. known sc c.args.long.now (found_at structures ps env)) (sym c.as_slice.ensures)
    ∙ ap (known sc c.args.long.now) there.1

pub returns-in-Some-clause-there : goal.returns-in-Some-clause-there
returns-in-Some-clause-there g c =
    (finds_is c.args.g.now (found_at structures c.as_slice.result.now (seen c.args.g.now any_reading c.args.scope.now))
    c.in_ok-env.field-0 (Some c.in-Some.env) c.in-Some.is (c.in_ok-env.ensures any_reading)).0

pub returns-in-None-clause-infers : goal.returns-in-None-clause-infers
returns-in-None-clause-infers g c = λ t read.
    let env = seen c.args.g.now read c.args.scope.now in
    let sc = scope_in c.args.g.now t read c.args.scope.now in
    let there = finds_is c.args.g.now (found_at structures c.as_slice.result.now env) c.in_ok-env.field-0
    None c.in-None.is (c.in_ok-env.ensures read) in
    subst (λ (o : Option Env). Answers (known sc c.args.long.now o) (env_at c.args.g.now) (Err c.unknown.result))
    (sym (ap (λ ps. found_at structures ps env) (sym c.as_slice.ensures) ∙ there))
    (refused c.args.g.now sc 30 (long_at c.args.long.now) (join_with_byte 46 c.args.long.now.parts ∷ [])
    (env_at c.args.g.now) c.unknown.result refl c.unknown.ensures)
