use Rattle.std.proofs.Common.{◌+◌, drop, ap}
use Rattle.sml_types.specs.Looking.{ids_of}
use Rattle.given_tops.specs.Names.{nodes_of}
use Rattle.given_tops.proofs.Looping.{left_at, none_left}
use Rattle.given_tops.proofs.Knowing.{args_next, args_fail, args_end}
use Rattle.given_tops.proofs.table.fields_hold.Goals as goal

pub loop-field-preserved : goal.loop-field-preserved
loop-field-preserved c =
    let fields = c.args.fields.now in
    let items = c.as_slice-field-items.result.now in
    let i = c.loop-field.field-index in
    args_next c.args.t.now (nodes_of c.args.limits.now) (ids_of fields) (ids_of (drop i fields))
    (ids_of (drop (i + 1) fields)) c.field-item.result.part _
    (ap ids_of (left_at fields items i c.field-item.result c.as_slice-field-items.ensures c.loop-field-test.true
    c.field-item.is))
    c.in_ok-part_holds.ensures c.if-not-branch.false c.loop-field.invariant

pub returns-then-not-branch : goal.returns-then-not-branch
returns-then-not-branch c =
    let fields = c.args.fields.now in
    let items = c.as_slice-field-items.result.now in
    let i = c.loop-field.field-index in
    args_fail c.args.t.now (nodes_of c.args.limits.now) (ids_of fields) (ids_of (drop i fields))
    (ids_of (drop (i + 1) fields)) c.field-item.result.part _
    (ap ids_of (left_at fields items i c.field-item.result c.as_slice-field-items.ensures c.loop-field-test.true
    c.field-item.is))
    c.in_ok-part_holds.ensures c.if-not-branch.true c.loop-field.invariant

pub returns : goal.returns
returns c =
    let fields = c.args.fields.now in
    args_end c.args.t.now (nodes_of c.args.limits.now) (ids_of fields) (ids_of (drop c.loop-field.field-index fields))
    (ap ids_of (none_left fields c.as_slice-field-items.result.now c.loop-field.field-index
    c.as_slice-field-items.ensures c.loop-field-test.false))
    c.loop-field.invariant
