use Rattle.std.proofs.Common.{◌-◌, ◌<◌, ◌≤◌, length, arith}
use Rattle.datatype_elab.specs.Wants.{need_in}
use Rattle.datatype_elab.proofs.Wanting.{walk_step, walk_ended}
use Rattle.datatype_elab.proofs.wants.walk.Goals as goal

pub loop-at-preserved : goal.loop-at-preserved
loop-at-preserved c =
    let at = c.loop-at.at in
    let some : 0 < at = c.loop-at-test.true in
    let all : at ≤ length c.args.nodes.now = c.loop-at.invariant.1 in (
      walk_step (need_in c.args.new.now) c.args.nodes.now at (at - 1) c.loop-at.marks c.step.new.marks c.args.found.now
          c.loop-at.found c.step.new.found c.requires.tree.nodes c.loop-at.invariant.0 (omega (arith, some))
          (omega (arith, some, all)) c.in_ok-step.ensures,
      omega (arith, all),
    )

pub returns : goal.returns
returns c =
    walk_ended (need_in c.args.new.now) c.args.nodes.now c.loop-at.at c.loop-at.marks c.args.found.now c.loop-at.found
    c.loop-at.invariant.0 c.loop-at-test.false
