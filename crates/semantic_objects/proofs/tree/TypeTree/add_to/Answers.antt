use Rattle.std.proofs.Common.{◌∙◌, ap, map, ◌++◌}
use Rattle.semantic_objects.specs.Adding.{moved}
use Rattle.semantic_objects.proofs.Adding.{appended_at}
use Rattle.semantic_objects.proofs.tree.TypeTree.add_to.Goals as goal

pub returns : goal.returns
returns c = appended_at c.args.nodes.now c.add_nodes.new.nodes c.self.inside.nodes c.len-by.result c.len.result
    c.args.self.now (c.in_ok-add_nodes.ensures
    ∙ ap (λ z. c.args.nodes.now ++ map (moved c.len-by.result) z) c.as_slice.ensures) c.len-by.ensures c.len.ensures
    c.self.invariant c.self.view_is
