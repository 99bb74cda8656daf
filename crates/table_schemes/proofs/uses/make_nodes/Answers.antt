use Rattle.std.proofs.Common.{◌≡◌, ◌+◌, refl, sym, ap, ◌∙◌, length, slice_get, Some}
use Rattle.type_nodes.proofs.Making.{length_snoc}
use Rattle.type_schemes.proofs.Adding.{adds_nothing, adds_then}
use Rattle.type_schemes.proofs.Items.{item_at}
use Rattle.table_schemes.specs.Meaning.{unfolded}
use Rattle.table_schemes.proofs.Later.{nodes_later}
use Rattle.table_schemes.proofs.Entering.{adds_keeps}
use Rattle.table_schemes.proofs.Instances.{made_nothing, made_have, node_next}
use Rattle.table_schemes.proofs.uses.make_nodes.Goals as goal

pub loop-node-init : goal.loop-node-init
loop-node-init c = record {
  counted = ap length c.new-ids.ensures;
  made = made_nothing c.args.table.now c.args.base (unfolded c.args.table.now c.args.nodes.now) c.new-ids.result c.new-ids.ensures;
  births = refl;
  state = refl;
  added = adds_nothing c.args.table.now;
}

pub make_node-requires-clause-node : goal.make_node-requires-clause-node
make_node-requires-clause-node c =
    let told = c.args.table.now in
    let nodes = c.args.nodes.now in
    let i = c.loop-node.node-index in
    let x = c.node-item.result in
    let at : slice_get nodes i ≡ Some x =
    item_at nodes c.as_slice-node-items.result.now i x c.as_slice-node-items.ensures c.loop-node-test.true
    ∙ ap Some (sym c.node-item.is) in
    (i, nodes_later told c.loop-node.table nodes (adds_keeps told c.loop-node.table c.loop-node.invariant.added) c.requires i x at)

pub make_node-requires-clause-ids : goal.make_node-requires-clause-ids
make_node-requires-clause-ids c =
    made_have c.loop-node.table c.args.base (unfolded c.args.table.now c.args.nodes.now) c.loop-node.ids c.loop-node.invariant.made

pub loop-node-preserved : goal.loop-node-preserved
loop-node-preserved c =
    let told = c.args.table.now in
    let old = c.loop-node.table in
    let new = c.make_node.new.table in
    let nodes = c.args.nodes.now in
    let i = c.loop-node.node-index in
    let x = c.node-item.result in
    let inv = c.loop-node.invariant in
    let more = c.in_ok-add.ensures.ok in
    let at : slice_get nodes i ≡ Some x =
    item_at nodes c.as_slice-node-items.result.now i x c.as_slice-node-items.ensures c.loop-node-test.true
    ∙ ap Some (sym c.node-item.is) in
    record {
      counted = ap length more ∙ length_snoc c.loop-node.ids c.in_ok-id.id ∙ ap (λ n. n + 1) inv.counted;
      made = node_next told old new c.args.base i nodes c.loop-node.ids c.add.new.self x c.in_ok-id.id c.requires at inv.added
          c.make_node.ensures.added inv.counted inv.made (c.in_ok-id.ensures.read (unfolded told nodes) inv.made) more;
      births = c.make_node.ensures.births ∙ inv.births;
      state = c.in_ok-id.ensures.state ∙ inv.state;
      added = adds_then told old new inv.added c.make_node.ensures.added;
    }
