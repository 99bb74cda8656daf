use Rattle.std.proofs.Common.{sym, ap, subst, ◌∙◌, Option}
use Rattle.std.specs.Prelude.{Err}
use Rattle.std.specs.Option.{option_map}
use Rattle.type_nodes.specs.Tables.{type_of}
use Rattle.unification.specs.Types.{State}
use Rattle.unification.specs.Unification.{depth}
use Rattle.bare_phrases.specs.Phrases.{TyPhrase}
use Rattle.bare_phrases.specs.PhraseOf.{ty_phrase}
use Rattle.static_semantics.specs.Inferring.{with_types}
use Rattle.static_semantics.specs.PatternInference.{typed_variable}
use Rattle.type_phrases.specs.Inferred.{Answers, progress}
use Rattle.pattern_elab.specs.Scopes.{scope_of}
use Rattle.pattern_elab.proofs.Stepping.{passed_on}
use Rattle.pattern_elab.proofs.Scoping.{core_later}
use Rattle.pattern_elab.proofs.Joins.{typed_joins, typed_failed, unify_answers}
use Rattle.pattern_elab.proofs.typed.type_variable.Goals as goal

pub returns-in_ok-written-in-Some-clause-infers : goal.returns-in_ok-written-in-Some-clause-infers
returns-in_ok-written-in-Some-clause-infers c =
    let g = c.args.g.now in
    let sc = scope_of g c.args.scope.now in
    let t0 = c.args.t.now in
    let t1 = c.written_type.new.t in
    let t2 = c.unify_at.new.t in
    let x = c.args.variable in
    let w = c.in_ok-written-in-Some.written in
    let joins = typed_joins g c.args.scope.now c.args.at (ty_phrase c.in-Some.ty) (type_of t0 x) (type_of t1 x)
    (type_of t1 w)
    (progress t0 g) (progress t1 g) c.in_ok-written-in-Some.ensures.infers
    (c.in_ok-written-in-Some.ensures.ids.types x c.requires.has)
    (ap (λ (s : State). with_types s (progress t0 g)) c.in_ok-written-in-Some.ensures.state) in
    let is = ap (λ (o : Option TyPhrase). typed_variable depth sc c.args.at (type_of t0 x) o (progress t0 g))
    (ap (option_map ty_phrase) c.in-Some.is) in
    subst (λ m. Answers m (λ u. progress t2 g) c.unify_at.result) (sym (is ∙ joins))
    (unify_answers g c.args.scope.now c.args.at (type_of t1 x) (type_of t1 w) t1 t2 c.unify_at.result
    c.unify_at.ensures.answer)

pub returns-in_err-written-in-Some-clause-infers : goal.returns-in_err-written-in-Some-clause-infers
returns-in_err-written-in-Some-clause-infers c =
    let g = c.args.g.now in
    let sc = scope_of g c.args.scope.now in
    let t0 = c.args.t.now in
    let t1 = c.written_type.new.t in
    let x = c.args.variable in
    let e = c.in_err-written-in-Some.field-0.0 in
    passed_on (λ r. Answers (typed_variable depth sc c.args.at (type_of t0 x) (option_map ty_phrase c.args.ty.now)
    (progress t0 g)) (λ (u : Unit {0}). progress t1 g) r) c.from_residual.result e c.from_residual.ensures.1
    (subst (λ (o : Option TyPhrase). Answers (typed_variable depth sc c.args.at (type_of t0 x) o (progress t0 g))
    (λ (u : Unit {0}). progress t1 g) (Err e))
    (ap (option_map ty_phrase) (sym c.in-Some.is))
    (typed_failed sc c.args.at (ty_phrase c.in-Some.ty) (type_of t0 x) (progress t0 g) (type_of t1) (λ (u : Unit
    {0}). progress t1 g)
    e c.in_err-written-in-Some.ensures.infers))

pub returns-in_ok-written-in-Some-clause-core : goal.returns-in_ok-written-in-Some-clause-core
returns-in_ok-written-in-Some-clause-core c =
    core_later c.args.g.now c.written_type.new.t c.unify_at.new.t c.args.scope.now c.unify_at.ensures.ids
    (core_later c.args.g.now c.args.t.now c.written_type.new.t c.args.scope.now c.in_ok-written-in-Some.ensures.ids
    c.requires.scope)

pub returns-in_err-written-in-Some-clause-core : goal.returns-in_err-written-in-Some-clause-core
returns-in_err-written-in-Some-clause-core c =
    core_later c.args.g.now c.args.t.now c.written_type.new.t c.args.scope.now c.written_type.ensures.ids
    c.requires.scope
