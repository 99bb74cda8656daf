use Rattle.std.proofs.Common.{refl, map, subst}
use Rattle.bare_phrases.specs.PhraseOf.{rule_phrase, rules_of}
use Rattle.static_semantics.specs.CoreInference.{own_variables}
use Rattle.type_phrases.specs.Inferred.{Answers, progress}
use Rattle.type_phrases.proofs.Keeping.{keeps_later}
use Rattle.pattern_elab.specs.Scopes.{scope_of}
use Rattle.value_closing.specs.OwnVariables.{written_in_scope, AddsImplicit, EntersOwn}
use Rattle.value_closing.proofs.Closings.{passed_on}
use Rattle.value_closing.proofs.Entering.{own_failed, own_made}
use Rattle.value_closing.proofs.own.own_variables.Goals as goal

pub returns-in_err-own-clause-infers : goal.returns-in_err-own-clause-infers
returns-in_err-own-clause-infers c =
    passed_on (λ r. Answers (own_variables (scope_of c.args.g.now c.args.scope.now) c.args.tyvars.now
    (rules_of (map rule_phrase c.args.binds.now)) (rules_of (map rule_phrase c.args.recs.now))
    (progress c.args.t.now c.args.g.now)) (λ own. (own, progress c.list_variables.new.t c.args.g.now)) r)
    c.from_residual.result c.in_err-own.field-0.0 c.from_residual.ensures.1
    (own_failed (scope_of c.args.g.now c.args.scope.now) c.args.tyvars.now
    (rules_of (map rule_phrase c.args.binds.now)) (rules_of (map rule_phrase c.args.recs.now))
    (progress c.args.t.now c.args.g.now) (λ rows. (rows, progress c.list_variables.new.t c.args.g.now))
    (λ own. (own, progress c.list_variables.new.t c.args.g.now))
    c.in_err-own.field-0.0
    (c.in_err-own.ensures.listed (scope_of c.args.g.now c.args.scope.now) refl))

pub returns-in_err-enter-clause-ids : goal.returns-in_err-enter-clause-ids
returns-in_err-enter-clause-ids c =
    keeps_later c.args.t.now c.list_variables.new.t c.add_implicit.new.t c.in_ok-own.ensures.ids
    c.in_ok-add_implicit.ensures.ids

pub returns-clause-ok : goal.returns-clause-ok
returns-clause-ok c =
    subst (λ rows. EntersOwn c.args.g.now rows c.args.scope.now c.enter.new.scope) c.rows.ensures
    (c.in_ok-enter.ensures.ok c.args.g.now)

pub returns-clause-ids : goal.returns-clause-ids
returns-clause-ids c =
    keeps_later c.args.t.now c.list_variables.new.t c.add_implicit.new.t c.in_ok-own.ensures.ids
    c.in_ok-add_implicit.ensures.ids

pub returns-clause-infers : goal.returns-clause-infers
returns-clause-infers c =
    own_made c.args.g.now (scope_of c.args.g.now c.args.scope.now) c.args.tyvars.now
    (rules_of (map rule_phrase c.args.binds.now)) (rules_of (map rule_phrase c.args.recs.now))
    (progress c.args.t.now c.args.g.now) c.in_ok-texts.texts c.list_variables.new.t c.add_implicit.new.t
    c.in_ok-own.own c.add_implicit.new.rows
    (c.in_ok-own.ensures.listed (scope_of c.args.g.now c.args.scope.now) refl) c.in_ok-texts.ensures
    (subst (λ texts. AddsImplicit (written_in_scope c.args.scope.now) texts c.list_variables.new.t c.in_ok-own.own
    c.add_implicit.new.t c.add_implicit.new.rows) c.as_slice.ensures c.in_ok-add_implicit.ensures.added)
