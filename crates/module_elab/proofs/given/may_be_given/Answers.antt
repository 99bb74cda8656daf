use Rattle.sml_modules.specs.Graphs.{top_at}
use Rattle.type_phrases.specs.Inferred.{progress}
use Rattle.module_elab.proofs.Giving.{given_then, given_not}
use Rattle.module_elab.proofs.given.may_be_given.Goals as goal

pub returns-then-branch : goal.returns-then-branch
returns-then-branch c = given_then c.args.g.now.home (top_at c.args.g.now c.args.given)
    (progress c.args.t.now c.args.g.now) _ c.knows_names_below.result c.in_ok-may_stand_in_front.ensures c.if-branch.true
    c.knows_names_below.ensures

pub returns-else-branch : goal.returns-else-branch
returns-else-branch c = given_not c.args.g.now.home (top_at c.args.g.now c.args.given)
    (progress c.args.t.now c.args.g.now) _ c.in_ok-may_stand_in_front.ensures c.if-branch.false
