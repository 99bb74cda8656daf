use Rattle.std.proofs.Common.{sym, ap, ◌∙◌, subst, []}
use Rattle.std.specs.Prelude.{Err}
use Rattle.std.specs.Option.{is_some}
use Rattle.static_semantics.specs.Inferring.{Answer, name_at, refuses_where}
use Rattle.type_phrases.specs.Inferred.{Answers}
use Rattle.type_phrases.proofs.Steps.{refused, refuses_at}
use Rattle.type_bindings.proofs.ListedSoFar.{named_before}
use Rattle.type_bindings.proofs.variables.check_new.Goals as goal

pub returns-in-None : goal.returns-in-None
returns-in-None c = λ inner home.
    ap (λ b. refuses_where b 40 inner (name_at c.args.name.now))
    (named_before c.args.rows.now c.args.name.now.text ∙ ap is_some (sym c.in-None.ensures))

pub returns-in-Some : goal.returns-in-Some
returns-in-Some c = λ inner home.
    subst (λ (w : Answer (Unit {0})). Answers {R = Unit {0}} w (λ u. tt) (Err c.refusal.result))
    (sym (ap (λ b. refuses_where b 40 inner (name_at c.args.name.now))
    (named_before c.args.rows.now c.args.name.now.text ∙ ap is_some (sym c.in-Some.ensures))))
    (refused {R = Unit {0}} c.args.g.now inner 40 (name_at c.args.name.now) [] (λ u. tt) c.refusal.result home
    (refuses_at c.args.g.now 40 c.place_of.result (name_at c.args.name.now) c.new.result [] c.refusal.result
    c.place_of.ensures c.new.ensures c.refusal.ensures))
