use Rattle.std.proofs.Common.{◌+◌, slice_get, ap, ◌∙◌}
use Rattle.semantic_objects.specs.declared.name.TyId.TheVariants as id
use Rattle.type_schemes.proofs.Items.{item_at}
use Rattle.type_schemes.proofs.flat.flat_nodes.Goals as goal

pub add_next-requires-clause-end : goal.add_next-requires-clause-end
add_next-requires-clause-end c =
    (c.requires.reached.ends c.loop-id.id-index _ (item_at c.args.reached.now.ids c.as_slice-id-items.result.now
    c.loop-id.id-index (id.Variable 0) c.as_slice-id-items.ensures c.loop-id-test.true)).1

pub add_next-requires-clause-next : goal.add_next-requires-clause-next
add_next-requires-clause-next c = ap (slice_get c.args.reached.now.ids) c.loop-id.invariant.counted
    ∙ item_at c.args.reached.now.ids c.as_slice-id-items.result.now c.loop-id.id-index (id.Variable 0)
    c.as_slice-id-items.ensures c.loop-id-test.true

pub loop-id-preserved : goal.loop-id-preserved
loop-id-preserved c = record {
  counted = c.in_ok-add_next.ensures.counted ∙ ap (λ n. n + 1) c.loop-id.invariant.counted;
  flat = c.in_ok-add_next.ensures.flat;
}
