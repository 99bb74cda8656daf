use Rattle.std.proofs.Common.{sym, subst, ◌∙◌}
use Rattle.type_schemes.specs.Heads.{IsHeadOf}
use Rattle.type_schemes.proofs.Reaching.{taken_variable, taken_passed, taken_opened}
use Rattle.type_schemes.proofs.reach.enter_head.Goals as goal

pub returns-in_ok-add_variable-in-Variable : goal.returns-in_ok-add_variable-in-Variable
returns-in_ok-add_variable-in-Variable c = taken_variable c.args.table.now c.args.id c.in-Variable.number c.args.reached.now
    c.add_variable.new.self c.args.steps.now (subst (IsHeadOf c.args.table.now c.args.id) c.in-Variable.is c.requires.head)
    c.in_ok-add_variable-in-Variable.ensures.reached c.in_ok-add_variable-in-Variable.ensures.found

pub returns-in-Some : goal.returns-in-Some
returns-in-Some c =
    let h = subst (IsHeadOf c.args.table.now c.args.id) c.in-Made.is c.requires.head in
    taken_passed c.args.table.now c.args.id c.in-Made.at _ c.args.reached.now c.args.steps.now
    c.requires.reached h.whole (sym c.of.ensures ∙ c.in-Some.is)

pub returns-in_ok-open-in-None : goal.returns-in_ok-open-in-None
returns-in_ok-open-in-None c =
    let h = subst (IsHeadOf c.args.table.now c.args.id) c.in-Made.is c.requires.head in
    taken_opened c.args.table.now c.args.id c.in-Made.at c.args.reached.now c.args.steps.now
    c.open.new.steps c.is_kept.ensures.kept c.requires.reached h.has h.whole c.in_ok-open-in-None.ensures
