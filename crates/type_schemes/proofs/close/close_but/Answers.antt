use Rattle.std.proofs.Common.{ap, ◌∙◌}
use Rattle.unification.specs.Closing.{scheme_over}
use Rattle.type_nodes.specs.Tables.{state, whole}
use Rattle.type_schemes.specs.Numbering.{keeps}
use Rattle.type_schemes.proofs.Numbering.{numbered_has, numbers_but}
use Rattle.type_schemes.proofs.close.close_but.Goals as goal

pub reach_one-requires-clause-reached : goal.reach_one-requires-clause-reached
reach_one-requires-clause-reached c = c.new-reached.ensures.reached c.args.table.now

pub close-requires-clause-variables : goal.close-requires-clause-variables
close-requires-clause-variables c = numbered_has c.args.table.now c.reach_one.new.reached (keeps c.args.kept.now)
    c.in_ok-numbers.numbers.variables c.in_ok-reach_one.ensures.reached c.in_ok-numbers.ensures.variables

pub returns : goal.returns
returns c =
    let t = c.args.table.now in
    c.in_ok-close.ensures ∙ ap (λ vs. scheme_over vs (state t).marks (whole t c.args.ty))
    (numbers_but t c.reach_one.new.reached c.new-reached.result (keeps c.args.kept.now) c.args.ty
    c.in_ok-numbers.numbers.variables c.new-reached.ensures.none c.in_ok-reach_one.ensures.found c.in_ok-numbers.ensures.variables)
