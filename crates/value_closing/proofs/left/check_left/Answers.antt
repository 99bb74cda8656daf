use Rattle.std.proofs.Common.{ap, ◌∙◌, subst}
use Rattle.type_nodes.specs.Tables.{state}
use Rattle.type_schemes.specs.Schemes.{MayBeFirstOf, is_left}
use Rattle.value_closing.specs.Closings.{ids_of, NamesAt}
use Rattle.value_closing.proofs.Closings.{left_fits, left_refused}
use Rattle.value_closing.proofs.left.check_left.Goals as goal

pub returns-in-None-clause-answer : goal.returns-in-None-clause-answer
returns-in-None-clause-answer c = λ inner home.
    left_fits inner c.args.at c.args.t.now (state c.args.since.now).next c.args.unclosed.now c.in_ok-ids.ids
    c.args.own.now (c.in_ok-ids.ensures ∙ ap ids_of c.rows.ensures)
    (subst (MayBeFirstOf (is_left c.args.t.now (state c.args.since.now).next c.args.unclosed.now) c.in_ok-ids.ids)
    c.in-None.is c.in_ok-left_since.ensures.left)

pub returns-clause-answer : goal.returns-clause-answer
returns-clause-answer c = λ inner home.
    left_refused c.args.g.now inner c.args.at c.args.t.now (state c.args.since.now).next c.args.unclosed.now
    c.in_ok-ids.ids c.args.own.now c.in-Some.place c.left_at.result home
    (c.in_ok-ids.ensures ∙ ap ids_of c.rows.ensures)
    (subst (MayBeFirstOf (is_left c.args.t.now (state c.args.since.now).next c.args.unclosed.now) c.in_ok-ids.ids)
    c.in-Some.is c.in_ok-left_since.ensures.left)
    (subst (λ rows. NamesAt c.args.g.now c.args.at rows c.in-Some.place c.left_at.result) c.rows-in-Some.ensures
    c.left_at.ensures)
