use Rattle.std.proofs.Common.{sym, ap, ◌∙◌, subst, Option, Some, None, ◌∷◌, []}
use Rattle.std.specs.Prelude.{Err}
use Rattle.std.specs.List.{join_with_byte}
use Rattle.semantic_objects.specs.Environments.{Env, structures}
use Rattle.sml_modules.specs.Graphs.{env_at}
use Rattle.static_semantics.specs.Inferring.{known, found_at, long_at}
use Rattle.core_scopes.specs.Scopes.{seen}
use Rattle.core_scopes.proofs.Pathing.{finds_is}
use Rattle.type_phrases.specs.Inferred.{Answers}
use Rattle.type_phrases.proofs.Steps.{refused}
use Rattle.pattern_elab.specs.Scopes.{own_entry}
use Rattle.module_scopes.proofs.looking.named_structure.Goals as goal

pub returns-in-Some-clause-answers : goal.returns-in-Some-clause-answers
returns-in-Some-clause-answers c inner h =
    let env = seen c.args.g.now own_entry c.args.scope.now in
    let there = finds_is c.args.g.now (found_at structures c.as_slice.result.now env) c.in_ok-env.field-0
    (Some c.in-Some.env) c.in-Some.is (c.in_ok-env.ensures own_entry) in
    ap (λ ps. known inner c.args.long.now (found_at structures ps env)) (sym c.as_slice.ensures)
    ∙ ap (known inner c.args.long.now) there.1

pub returns-in-Some-clause-there : goal.returns-in-Some-clause-there
returns-in-Some-clause-there c =
    (finds_is c.args.g.now (found_at structures c.as_slice.result.now (seen c.args.g.now own_entry c.args.scope.now))
    c.in_ok-env.field-0 (Some c.in-Some.env) c.in-Some.is (c.in_ok-env.ensures own_entry)).0

pub returns-in-None-clause-answers : goal.returns-in-None-clause-answers
returns-in-None-clause-answers c inner h =
    let env = seen c.args.g.now own_entry c.args.scope.now in
    let there = finds_is c.args.g.now (found_at structures c.as_slice.result.now env) c.in_ok-env.field-0
    None c.in-None.is (c.in_ok-env.ensures own_entry) in
    subst (λ (o : Option Env). Answers (known inner c.args.long.now o) (env_at c.args.g.now) (Err c.unknown.result))
    (sym (ap (λ ps. found_at structures ps env) (sym c.as_slice.ensures) ∙ there))
    (refused c.args.g.now inner 30 (long_at c.args.long.now) (join_with_byte 46 c.args.long.now.parts ∷ [])
    (env_at c.args.g.now) c.unknown.result h c.unknown.ensures)
