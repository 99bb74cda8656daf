use Rattle.std.proofs.Common.{subst}
use Rattle.sml_modules.specs.Adding.{StandsAt}
use Rattle.type_walks.proofs.Imaging.{on_ok}
use Rattle.given_tops.specs.Names.{nodes_of}
use Rattle.given_tops.proofs.Walking.{opened}
use Rattle.given_tops.proofs.walk.open.Goals as goal

pub returns-in_ok-enter_rows-in-Env-2 : goal.returns-in_ok-enter_rows-in-Env-2
returns-in_ok-enter_rows-in-Env-2 c = on_ok c.enter_rows-in-Env-2.result c.enter_rows-in-Env-2.ensures
    (λ h. opened (nodes_of c.args.limits.now) c.args.g.now.items c.args.root c.args.place c.in-Env.kept c.args.steps.now
    c.add.new.self c.enter_rows.new.steps c.enter_rows-in-Env.new.steps c.enter_rows-in-Env-2.new.steps
    (subst (StandsAt c.args.g.now.items c.args.place) c.in-Env.is c.in-Some.ensures.node) c.requires.asked
    c.requires.steps c.in_ok-add-in-Env.ensures.ok c.in_ok-enter_rows-in-Env.ensures
    c.in_ok-enter_rows-in-Env-2.ensures h)
