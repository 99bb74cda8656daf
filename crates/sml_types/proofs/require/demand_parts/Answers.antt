use Rattle.std.proofs.Common.{refl, sym, ap, ◌∙◌}
use Rattle.unification.specs.Types.{equality_of}
use Rattle.sml_types.specs.Frames.{seen}
use Rattle.sml_types.proofs.Frames.{symbol_is_at}
use Rattle.sml_types.proofs.Requiring.{demanded_already, node_never, node_always, node_by_parts}
use Rattle.sml_types.proofs.require.demand_parts.Goals as goal

pub returns-in-Some-clause-answer : goal.returns-in-Some-clause-answer
returns-in-Some-clause-answer c = demanded_already _ _ _ (c.requires.done c.args.at c.in-Some.field-0 (sym c.of.ensures ∙ c.in-Some.is))

pub returns-in-Never-clause-answer : goal.returns-in-Never-clause-answer
returns-in-Never-clause-answer c = node_never c.args.table.now c.args.at c.is_kept.ensures.kept c.requires.has
    (ap equality_of (symbol_is_at (seen c.args.table.now) c.args.at c.node.result.now c.node.ensures)
    ∙ sym c.symbol_equality.ensures ∙ c.in-Never.is)

pub returns-in-Always-clause-answer : goal.returns-in-Always-clause-answer
returns-in-Always-clause-answer c = demanded_already _ _ _ (node_always c.args.table.now c.args.at c.is_kept.ensures.kept c.requires.has
    (ap equality_of (symbol_is_at (seen c.args.table.now) c.args.at c.node.result.now c.node.ensures)
    ∙ sym c.symbol_equality.ensures ∙ c.in-Always.is))

pub returns-in_ok-add-in-ByParts-clause-answer : goal.returns-in_ok-add-in-ByParts-clause-answer
returns-in_ok-add-in-ByParts-clause-answer c = rw c.in_ok-add-in-ByParts.ensures.ok (node_by_parts c.args.table.now c.args.at _ _ _ c.is_kept.ensures.kept
    c.requires.has (ap equality_of (symbol_is_at (seen c.args.table.now) c.args.at c.node.result.now c.node.ensures)
    ∙ sym c.symbol_equality.ensures ∙ c.in-ByParts.is) refl c.of_node.ensures.node c.of_node.ensures.next)
