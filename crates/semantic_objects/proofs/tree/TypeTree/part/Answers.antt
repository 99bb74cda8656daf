use Rattle.std.proofs.Common.{◌≡◌, refl, subst, sym, length}
use Rattle.std.specs.Prelude.{IfOk}
use Rattle.semantic_objects.specs.declared.node.TypeNode.TheVariants as node
use Rattle.semantic_objects.specs.Nodes.{AreBelow}
use Rattle.semantic_objects.specs.Parts.{part_tree}
use Rattle.semantic_objects.proofs.Adding.{last_below, last_counted, last_rising, last_is, last_made}
use Rattle.semantic_objects.proofs.tree.TypeTree.part.Goals as goal

pub trees_of_places-requires-clause-within : goal.trees_of_places-requires-clause-within
trees_of_places-requires-clause-within c = subst (λ z. AreBelow (length z) c.in-Made.places)
    (sym c.as_slice-in-Made.ensures)
    (last_below c.self.inside.nodes c.as_slice.result.now c.len-last.result c.in-Made.symbol c.in-Made.places
    c.index-as_slice-last.result c.self.invariant c.as_slice.ensures c.len-last.ensures c.index-as_slice-last.is
    c.in-Made.is)

pub part_over-requires-clause-counted : goal.part_over-requires-clause-counted
part_over-requires-clause-counted c = last_counted c.self.inside.nodes c.as_slice.result.now
    c.as_slice-in-Made.result.now c.len-last.result c.in-Made.symbol c.in-Made.places c.index-as_slice-last.result
    c.in_ok-parts-in-Made.parts c.self.invariant c.as_slice.ensures c.len-last.ensures c.index-as_slice-last.is
    c.in-Made.is c.in_ok-parts-in-Made.ensures

pub part_over-requires-clause-rising : goal.part_over-requires-clause-rising
part_over-requires-clause-rising c = last_rising c.self.inside.nodes c.as_slice.result.now c.len-last.result
    c.in-Made.symbol c.in-Made.places c.index-as_slice-last.result c.self.invariant c.as_slice.ensures
    c.len-last.ensures c.index-as_slice-last.is c.in-Made.is

pub returns-in-Bound-clause-tree : goal.returns-in-Bound-clause-tree
returns-in-Bound-clause-tree c = last_is c.self.inside.nodes c.as_slice.result.now c.len-last.result
    (node.Bound c.in-Bound.i) c.index-as_slice-last.result c.args.self.now c.self.invariant c.as_slice.ensures
    c.len-last.ensures c.index-as_slice-last.is c.in-Bound.is c.self.view_is

pub returns-in-Free-clause-tree : goal.returns-in-Free-clause-tree
returns-in-Free-clause-tree c = last_is c.self.inside.nodes c.as_slice.result.now c.len-last.result
    (node.Free c.in-Free.n) c.index-as_slice-last.result c.args.self.now c.self.invariant c.as_slice.ensures
    c.len-last.ensures c.index-as_slice-last.is c.in-Free.is c.self.view_is

pub returns-in_ok-parts-in-Made-clause-tree : goal.returns-in_ok-parts-in-Made-clause-tree
returns-in_ok-parts-in-Made-clause-tree c =
    subst (λ z. IfOk c.part_over.result (λ part. part_tree part ≡ z))
    (last_made c.self.inside.nodes c.as_slice.result.now c.as_slice-in-Made.result.now c.len-last.result
    c.in-Made.symbol c.in-Made.symbol c.in-Made.places c.index-as_slice-last.result c.args.self.now
    c.in_ok-parts-in-Made.parts c.self.invariant c.as_slice.ensures c.as_slice-in-Made.ensures c.len-last.ensures
    c.index-as_slice-last.is c.in-Made.is c.self.view_is refl c.in_ok-parts-in-Made.ensures)
    c.part_over.ensures.tree
