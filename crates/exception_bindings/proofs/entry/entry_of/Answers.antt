use Rattle.std.proofs.Common.{sym, subst}
use Rattle.semantic_objects.specs.declared.entry.ValueEntry.{ValueEntry}
use Rattle.bare_phrases.specs.PhraseOf.{ex_body_phrase}
use Rattle.static_semantics.specs.DatatypeInference.{exception_of}
use Rattle.type_phrases.specs.Inferred.{Answers, scope_in}
use Rattle.exception_bindings.proofs.entry.entry_of.Goals as goal

pub returns-in-Of-clause-infers : goal.returns-in-Of-clause-infers
returns-in-Of-clause-infers g c = λ read a.
    subst (λ b. Answers {R = ValueEntry} (exception_of (scope_in c.args.g.now c.args.t.now read c.args.scope.now)
    (ex_body_phrase b)) (λ x. x) c.entry_with.result) (sym c.in-Of.is) (c.entry_with.ensures.infers read)

pub returns-in-Copy-clause-infers : goal.returns-in-Copy-clause-infers
returns-in-Copy-clause-infers g c = λ read a.
    subst (λ b. Answers {R = ValueEntry} (exception_of (scope_in c.args.g.now c.args.t.now read c.args.scope.now)
    (ex_body_phrase b)) (λ x. x) c.copied_entry.result) (sym c.in-Copy.is)
    (c.copied_entry.ensures c.args.t.now read a)
