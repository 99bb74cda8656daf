use Rattle.visibility.proofs.AllGroups.{group_refused, next_group}
use Rattle.visibility.proofs.naming.all_names.Goals as goal

pub returns-in_err-these : goal.returns-in_err-these
returns-in_err-these c =
    group_refused c.args.project.now c.args.skeletons.now c.args.defs.now c.as_slice-group-items.result.now
    c.loop-group.group-index c.loop-group.exports c.loop-group.wanted.items c.add_group.new.wanted.items
    c.in_err-these.field-0.0 c.from_residual-in_err-these.result c.as_slice-group-items.ensures c.loop-group-test.true
    c.from_residual-in_err-these.ensures.1 c.in_err-these.ensures c.loop-group.invariant

pub loop-group-preserved : goal.loop-group-preserved
loop-group-preserved c =
    next_group c.args.project.now c.args.skeletons.now c.args.defs.now c.as_slice-group-items.result.now c.loop-group.group-index
    c.loop-group.exports c.add.new.self c.loop-group.wanted.items c.add_group.new.wanted.items c.in_ok-these.these
    c.as_slice-group-items.ensures c.loop-group-test.true c.in_ok-these.ensures c.in_ok-add.ensures.ok c.loop-group.invariant
