use Rattle.std.proofs.Common.{◌+◌, drop, get_or}
use Rattle.semantic_objects.specs.declared.name.TyId.TheVariants as id
use Rattle.given_tops.specs.Names.{nodes_of}
use Rattle.given_tops.proofs.Looping.{item_left, none_left}
use Rattle.given_tops.proofs.Knowing.{args_next, args_fail, args_end}
use Rattle.given_tops.proofs.table.args_hold.Goals as goal

pub loop-part-preserved : goal.loop-part-preserved
loop-part-preserved c =
    let args = c.args.args.now in
    let items = c.as_slice-part-items.result.now in
    let i = c.loop-part.part-index in
    args_next c.args.t.now (nodes_of c.args.limits.now) args (drop i args) (drop (i + 1) args)
    (get_or items i (id.Variable 0)) _
    (item_left (id.Variable 0) args items i c.as_slice-part-items.ensures c.loop-part-test.true)
    c.in_ok-part_holds.ensures c.if-not-branch.false c.loop-part.invariant

pub returns-then-not-branch : goal.returns-then-not-branch
returns-then-not-branch c =
    let args = c.args.args.now in
    let items = c.as_slice-part-items.result.now in
    let i = c.loop-part.part-index in
    args_fail c.args.t.now (nodes_of c.args.limits.now) args (drop i args) (drop (i + 1) args)
    (get_or items i (id.Variable 0)) _
    (item_left (id.Variable 0) args items i c.as_slice-part-items.ensures c.loop-part-test.true)
    c.in_ok-part_holds.ensures c.if-not-branch.true c.loop-part.invariant

pub returns : goal.returns
returns c =
    let args = c.args.args.now in
    args_end c.args.t.now (nodes_of c.args.limits.now) args (drop c.loop-part.part-index args)
    (none_left args c.as_slice-part-items.result.now c.loop-part.part-index c.as_slice-part-items.ensures
    c.loop-part-test.false)
    c.loop-part.invariant
