use Rattle.std.proofs.Common.{◌≡◌, subst, sym, ap, ◌∙◌}
use Rattle.type_nodes.specs.Nodes.{Store, IsNode, node_type, made, types_in}
use Rattle.type_nodes.specs.Facts.{facts_of, over_symbol}
use Rattle.type_nodes.proofs.Knowing.{store_node, facts_over}
use Rattle.type_nodes.proofs.nodes.TypeNodes.add_node.Goals as goal

pub invariant_of-self-2 : goal.invariant_of-self-2
invariant_of-self-2 c = rw (c.in_ok-push_both.ensures.these, c.in_ok-push_both.ensures.those)
    (store_node _ c.self.inside.facts.items c.args.node c.over-facts.result c.self.invariant
    (subst (λ s. IsNode s c.args.node) (sym c.self.view_is) c.requires)
    (subst (λ (s : Store). c.over-facts.result ≡ facts_of s.births (node_type (made s.nodes) c.args.node)) (sym c.self.view_is)
    (c.over-facts.ensures ∙ ap (over_symbol c.args.node.symbol) c.facts_of_parts.ensures
    ∙ sym (facts_over c.args.self.now.births c.args.node.symbol (types_in (made c.args.self.now.nodes) c.args.node.parts)))))
