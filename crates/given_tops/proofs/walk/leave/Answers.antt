use Rattle.std.proofs.Common.{subst}
use Rattle.sml_modules.specs.Adding.{StandsAt}
use Rattle.type_walks.proofs.Imaging.{on_ok}
use Rattle.given_tops.specs.Names.{nodes_of}
use Rattle.given_tops.proofs.Walking.{left}
use Rattle.given_tops.proofs.walk.leave.Goals as goal

pub returns-then-branch : goal.returns-then-branch
returns-then-branch c = on_ok c.set.result c.set.ensures
    (λ s. left (nodes_of c.args.limits.now) c.args.g.now.items c.args.done.now c.set.new.self c.args.place c.in-Env.kept
    (subst (StandsAt c.args.g.now.items c.args.place) c.in-Env.is c.in-Some.ensures.node) c.requires
    c.in_ok-tables_rise-in-Env.ensures.structures c.in_ok-tables_rise-in-Env.ensures.types
    c.in_ok-tables_rise-in-Env.ensures.values
    (c.in_ok-are_tables_done-in-Env.ensures.structures c.if-branch.true)
    (c.in_ok-are_tables_done-in-Env.ensures.types c.if-branch.true)
    (c.in_ok-are_tables_done-in-Env.ensures.values c.if-branch.true) s)
