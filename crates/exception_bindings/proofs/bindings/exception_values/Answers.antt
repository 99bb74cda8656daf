use Rattle.std.proofs.Common.{◌+◌, ◌≡◌, subst, ◌∙◌, map, drop, refl}
use Rattle.std.specs.Prelude.{Err}
use Rattle.semantic_objects.specs.declared.entry.ValueEntry.{ValueEntry}
use Rattle.bare_phrases.specs.PhraseOf.{ex_phrase}
use Rattle.static_semantics.specs.Inferring.{gives}
use Rattle.static_semantics.specs.DatatypeInference.{exception_of, exceptions_of}
use Rattle.type_phrases.specs.Inferred.{Answers, scope_in}
use Rattle.type_phrases.proofs.PartsRead.{passed_on, drop_item, drop_end}
use Rattle.exception_bindings.specs.Exceptions.{env_of_values}
use Rattle.exception_bindings.proofs.Binding.{exceptions_none, exceptions_more, name_refused, body_refused, exceptions_all, phrase_next, phrases_end}
use Rattle.exception_bindings.proofs.bindings.exception_values.Goals as goal

pub loop-exception-init : goal.loop-exception-init
loop-exception-init g c = record {
  same = refl;
  sofar = exceptions_none (λ read. scope_in c.args.g.now c.args.t.now read c.args.scope.now)
      (map ex_phrase c.args.binds.now) c.new-names.result c.new-made.result c.new-names.ensures c.new-made.ensures;
}

pub loop-exception-preserved : goal.loop-exception-preserved
loop-exception-preserved g c =
    let binds = c.args.binds.now in
    let i = c.loop-exception.exception-index in
    record {
      same = c.in_ok-entry.ensures.same ∙ c.loop-exception.invariant.same;
      sofar = exceptions_more (λ read. scope_in c.args.g.now c.args.t.now read c.args.scope.now) (map ex_phrase binds)
          (map ex_phrase (drop i binds)) (map ex_phrase (drop (i + 1) binds)) (ex_phrase c.exception-item.result)
          c.loop-exception.names c.bind.new.self c.loop-exception.made c.add.new.self c.in_ok-key.key c.in_ok-name.name
          c.in_ok-entry.entry c.loop-exception.invariant.sofar
          (phrase_next (drop i binds) (drop (i + 1) binds) c.exception-item.result
          (drop_item binds i c.exception-item.result c.loop-exception-test.true c.exception-item.is))
          (λ read. c.in_ok-check_name.ensures (scope_in c.args.g.now c.args.t.now read c.args.scope.now)
          c.loop-exception.made refl c.loop-exception.invariant.sofar.named)
          (λ read a. subst (λ u. exception_of (scope_in c.args.g.now u read c.args.scope.now)
          (ex_phrase c.exception-item.result).body ≡ gives c.in_ok-entry.entry) c.loop-exception.invariant.same
          (c.in_ok-entry.ensures.infers read a))
          c.in_ok-key.ensures c.in_ok-bind.ensures.ok c.in_ok-name.ensures c.in_ok-add.ensures.ok;
    }

pub returns-in_err-check_name-clause-infers : goal.returns-in_err-check_name-clause-infers
returns-in_err-check_name-clause-infers g c = λ read a.
    let binds = c.args.binds.now in
    let i = c.loop-exception.exception-index in
    let inner = scope_in c.args.g.now c.args.t.now read c.args.scope.now in
    passed_on (λ r. Answers (exceptions_of inner (map ex_phrase c.args.binds.now)) env_of_values r)
    c.from_residual.result c.in_err-check_name.field-0.0 c.from_residual.ensures.1
    (name_refused (λ read. scope_in c.args.g.now c.args.t.now read c.args.scope.now) (map ex_phrase binds)
    (map ex_phrase (drop i binds)) (map ex_phrase (drop (i + 1) binds)) (ex_phrase c.exception-item.result)
    c.loop-exception.names c.loop-exception.made c.in_err-check_name.field-0.0 c.loop-exception.invariant.sofar
    (phrase_next (drop i binds) (drop (i + 1) binds) c.exception-item.result
    (drop_item binds i c.exception-item.result c.loop-exception-test.true c.exception-item.is)) read a
    (c.in_err-check_name.ensures inner c.loop-exception.made refl c.loop-exception.invariant.sofar.named))

pub returns-in_err-entry-clause-infers : goal.returns-in_err-entry-clause-infers
returns-in_err-entry-clause-infers g c = λ read a.
    let binds = c.args.binds.now in
    let i = c.loop-exception.exception-index in
    let inner = scope_in c.args.g.now c.args.t.now read c.args.scope.now in
    passed_on (λ r. Answers (exceptions_of inner (map ex_phrase c.args.binds.now)) env_of_values r)
    c.from_residual-in_err-entry.result c.in_err-entry.field-0.0 c.from_residual-in_err-entry.ensures.1
    (body_refused (λ read. scope_in c.args.g.now c.args.t.now read c.args.scope.now) (map ex_phrase binds)
    (map ex_phrase (drop i binds)) (map ex_phrase (drop (i + 1) binds)) (ex_phrase c.exception-item.result)
    c.loop-exception.names c.loop-exception.made c.in_err-entry.field-0.0 c.loop-exception.invariant.sofar
    (phrase_next (drop i binds) (drop (i + 1) binds) c.exception-item.result
    (drop_item binds i c.exception-item.result c.loop-exception-test.true c.exception-item.is)) read a
    (c.in_ok-check_name.ensures inner c.loop-exception.made refl c.loop-exception.invariant.sofar.named)
    (subst (λ u. Answers {R = ValueEntry} (exception_of (scope_in c.args.g.now u read c.args.scope.now)
    (ex_phrase c.exception-item.result).body) (λ x. x) (Err c.in_err-entry.field-0.0)) c.loop-exception.invariant.same
    (c.in_err-entry.ensures.infers read a)))

pub returns-clause-infers : goal.returns-clause-infers
returns-clause-infers g c = λ read a.
    exceptions_all (λ read. scope_in c.args.g.now c.args.t.now read c.args.scope.now) (map ex_phrase c.args.binds.now)
    (map ex_phrase (drop c.loop-exception.exception-index c.args.binds.now)) c.loop-exception.names
    c.loop-exception.made c.loop-exception.invariant.sofar
    (phrases_end (drop c.loop-exception.exception-index c.args.binds.now)
    (drop_end c.args.binds.now c.loop-exception.exception-index c.loop-exception-test.false)) read a
