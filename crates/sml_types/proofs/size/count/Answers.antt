use Rattle.std.proofs.Common.{subst, sym}
use Rattle.sml_types.specs.Sizing.{Counted}
use Rattle.sml_types.proofs.Sizing.{counted_node, counted_fixed}
use Rattle.sml_types.proofs.size.count.Goals as goal

pub returns-in_ok-add_all-in-Made : goal.returns-in_ok-add_all-in-Made
returns-in_ok-add_all-in-Made c =
    let t = c.args.table.now in
    subst (λ n. Counted t c.args.id c.args.counted c.args.left.now c.add_all.new.ids n) (sym c.more-then-facts.ensures)
    (counted_node t c.args.id c.in-Made.at c.args.counted c.node.result.now c.args.left.now c.add_all.new.ids
    c.is_kept.ensures.kept c.in-Made.ensures.whole c.node.ensures c.in_ok-add_all-in-Made.ensures c.requires.all)

pub returns-else-facts : goal.returns-else-facts
returns-else-facts c =
    let t = c.args.table.now in
    subst (λ n. Counted t c.args.id c.args.counted c.args.left.now c.args.left.now n) (sym c.more-else-facts.ensures)
    (counted_fixed t c.args.id c.in-Made.at c.args.counted c.facts-facts.result c.args.left.now c.is_kept.ensures.kept
    c.in-Made.ensures.whole c.facts-facts.ensures c.if-facts.false c.requires.all)
