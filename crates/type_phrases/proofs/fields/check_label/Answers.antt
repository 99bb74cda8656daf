use Rattle.std.proofs.Common.{sym, subst, [], Some, None}
use Rattle.std.specs.Prelude.{Err}
use Rattle.static_semantics.specs.Inferring.{Answer, name_at}
use Rattle.type_phrases.specs.Inferred.{Answers}
use Rattle.type_phrases.proofs.Steps.{label_is, refused, refuses_at}
use Rattle.type_phrases.proofs.fields.check_label.Goals as goal

pub returns-in-None-clause-check : goal.returns-in-None-clause-check
returns-in-None-clause-check c = λ t inner home.
    label_is inner c.args.label.now t c.args.fields.now None (sym c.in-None.ensures)

pub returns-in-Some-clause-check : goal.returns-in-Some-clause-check
returns-in-Some-clause-check c = λ t inner home.
    subst (λ (w : Answer (Unit {0})). Answers {R = Unit {0}} w (λ u. tt) (Err c.refusal.result))
    (sym (label_is inner c.args.label.now t c.args.fields.now (Some c.in-Some.field-0.now) (sym c.in-Some.ensures)))
    (refused {R = Unit {0}} c.args.g.now inner 40 (name_at c.args.label.now) [] (λ u. tt) c.refusal.result home
    (refuses_at c.args.g.now 40 c.place_of.result (name_at c.args.label.now) c.new.result [] c.refusal.result
    c.place_of.ensures c.new.ensures c.refusal.ensures))
