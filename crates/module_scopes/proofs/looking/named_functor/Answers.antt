use Rattle.std.proofs.Common.{◌≡◌, sym, ap, subst, Option, Some, None, ◌∷◌, []}
use Rattle.std.specs.Prelude.{Err}
use Rattle.semantic_objects.specs.Tables.{entry}
use Rattle.semantic_objects.specs.Environments.{Functor}
use Rattle.sml_modules.specs.Graphs.{functor_at, FindsFunctor}
use Rattle.static_semantics.specs.Inferring.{known, name_at}
use Rattle.module_semantics.specs.SignatureInference.{single}
use Rattle.type_phrases.specs.Inferred.{Answers}
use Rattle.type_phrases.proofs.Steps.{refused}
use Rattle.module_scopes.specs.Tops.{top_seen}
use Rattle.module_scopes.proofs.looking.named_functor.Goals as goal

pub returns-in-Some-clause-answers : goal.returns-in-Some-clause-answers
returns-in-Some-clause-answers c inner h =
    let there : FindsFunctor c.args.g.now (entry c.args.name.now.text (top_seen c.args.g.now c.args.top.now).functors)
    (Some c.in-Some.fun) = subst (FindsFunctor c.args.g.now
    (entry c.args.name.now.text (top_seen c.args.g.now c.args.top.now).functors)) c.in-Some.is c.in_ok-fun.ensures in
    ap (known inner (single c.args.name.now)) there.1

pub returns-in-Some-clause-there : goal.returns-in-Some-clause-there
returns-in-Some-clause-there c =
    let there : FindsFunctor c.args.g.now (entry c.args.name.now.text (top_seen c.args.g.now c.args.top.now).functors)
    (Some c.in-Some.fun) = subst (FindsFunctor c.args.g.now
    (entry c.args.name.now.text (top_seen c.args.g.now c.args.top.now).functors)) c.in-Some.is c.in_ok-fun.ensures in
    there.0

pub returns-in-None-clause-answers : goal.returns-in-None-clause-answers
returns-in-None-clause-answers c inner h =
    let none : entry c.args.name.now.text (top_seen c.args.g.now c.args.top.now).functors ≡ None =
    subst (FindsFunctor c.args.g.now
    (entry c.args.name.now.text (top_seen c.args.g.now c.args.top.now).functors)) c.in-None.is c.in_ok-fun.ensures in
    subst (λ (o : Option Functor). Answers (known inner (single c.args.name.now) o) (functor_at c.args.g.now)
    (Err c.unknown_name.result)) (sym none)
    (refused c.args.g.now inner 30 (name_at c.args.name.now) (c.args.name.now.text ∷ [])
    (functor_at c.args.g.now) c.unknown_name.result h c.unknown_name.ensures)
