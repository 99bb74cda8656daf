use Rattle.std.proofs.Common.{refl, ap, ◌∙◌, length}
use Rattle.semantic_objects.specs.declared.node.TypeNode.TheVariants as node
use Rattle.static_semantics.specs.PatternInference.{takes_none}
use Rattle.semantic_objects.proofs.Adding.{last_is}
use Rattle.pattern_elab.proofs.constructor.tree_takes_none.Goals as goal

pub returns-in-Bound : goal.returns-in-Bound
returns-in-Bound c =
    ap takes_none (last_is c.nodes-nodes.result.now c.nodes-nodes.result.now (length c.nodes-nodes.result.now)
    (node.Bound c.in-Bound.field-0) c.index-nodes-last.result c.args.body.now c.nodes-nodes.ensures.nodes refl refl
    c.index-nodes-last.is c.in-Bound.is c.nodes-nodes.ensures.tree)

pub returns-in-Free : goal.returns-in-Free
returns-in-Free c =
    ap takes_none (last_is c.nodes-nodes.result.now c.nodes-nodes.result.now (length c.nodes-nodes.result.now)
    (node.Free c.in-Free.field-0) c.index-nodes-last.result c.args.body.now c.nodes-nodes.ensures.nodes refl refl
    c.index-nodes-last.is c.in-Free.is c.nodes-nodes.ensures.tree)

pub returns-in-Made : goal.returns-in-Made
returns-in-Made c =
    c.is_no_arrow.ensures
    ∙ ap takes_none (last_is c.nodes-nodes.result.now c.nodes-nodes.result.now (length c.nodes-nodes.result.now)
    (node.Made c.in-Made.symbol c.in-Made.field-1) c.index-nodes-last.result c.args.body.now
    c.nodes-nodes.ensures.nodes refl refl c.index-nodes-last.is c.in-Made.is c.nodes-nodes.ensures.tree)
