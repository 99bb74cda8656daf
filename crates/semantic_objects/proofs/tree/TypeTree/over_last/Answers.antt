use Rattle.std.proofs.Common.{arith, refl, sym, subst, ap, ◌∙◌, ◌-◌, ◌++◌, ◌∷◌, []}
use Rattle.semantic_objects.specs.Nodes.{AreTree, root}
use Rattle.semantic_objects.proofs.Adding.{over_kept, over_nodes}
use Rattle.semantic_objects.proofs.tree.TypeTree.over_last.Goals as goal

pub from_nodes-requires : goal.from_nodes-requires
from_nodes-requires c =
    let tree : AreTree c.in_ok-nodes.nodes = subst AreTree (sym c.in_ok-nodes.ensures) c.last.invariant in
    over_nodes c.in_ok-nodes.nodes c.add_trees.new.nodes c.add-2.new.self c.args.symbol
    c.in_ok-places.places c.add.new.self (c.len-at.result - 1) c.args.parts.now c.requires.counted c.requires.rising
    tree (let k = c.len-at.ensures in let l = tree.some in omega (arith, k, l))
    c.in_ok-places.ensures c.in_ok-add.ensures.ok c.in_ok-add-2.ensures.ok

pub returns : goal.returns
returns c =
    let tree : AreTree c.in_ok-nodes.nodes = subst AreTree (sym c.in_ok-nodes.ensures) c.last.invariant in
    c.from_nodes.ensures
    ∙ over_kept c.in_ok-nodes.nodes c.add_trees.new.nodes c.add-2.new.self c.args.symbol c.in_ok-places.places
    c.add.new.self (c.len-at.result - 1) c.args.last c.args.parts.now (c.args.parts.now ++ c.args.last ∷ [])
    tree (let k = c.len-at.ensures in let l = tree.some in omega (arith, k, l))
    (ap root c.in_ok-nodes.ensures ∙ c.last.view_is) c.in_ok-places.ensures c.in_ok-add.ensures.ok
    c.in_ok-add-2.ensures.ok refl
