use Rattle.std.proofs.Common.{subst}
use Rattle.sml_modules.specs.Adding.{StandsAt}
use Rattle.type_walks.proofs.Imaging.{on_ok}
use Rattle.environment_ages.proofs.Walking.{left}
use Rattle.environment_ages.proofs.walk.leave.Goals as goal

pub returns-then-branch : goal.returns-then-branch
returns-then-branch c = on_ok c.set.result c.set.ensures
    (λ s. left c.args.count c.args.g.now.items c.args.done.now c.set.new.self c.args.place c.in-Env.kept
    (subst (StandsAt c.args.g.now.items c.args.place) c.in-Env.is c.in-Some.ensures.node) c.requires
    (c.in_ok-are_tables_done-in-Env.ensures.structures c.if-branch.true)
    (c.in_ok-are_tables_done-in-Env.ensures.types c.if-branch.true)
    (c.in_ok-are_tables_done-in-Env.ensures.values c.if-branch.true) s)
