use Rattle.std.proofs.Common.{refl, None, Some, []}
use Rattle.semantic_objects.specs.declared.node.TypeNode.TheVariants as node
use Rattle.row_types.proofs.Parts.{not_end, is_so, at_tag}
use Rattle.row_types.proofs.Found.{variable_found, variable_index, variable_last, variable_longer}
use Rattle.row_types.proofs.symbols.variable_of.Goals as goal

pub returns-then-not-at_end : goal.returns-then-not-at_end
returns-then-not-at_end c = λ home rows.
    at_tag home 1 1 c.args.items.now c.new-fields.result rows None refl c.new-fields.ensures
    (variable_longer home c.new-fields.result c.number.new.self rows c.in_ok-index.index c.in_ok-index.ensures
    (not_end c.at_end.result c.at_end.ensures c.if-not-at_end.true))

pub returns-then-index : goal.returns-then-index
returns-then-index c = λ home rows.
    at_tag home 1 1 c.args.items.now c.new-fields.result rows None refl c.new-fields.ensures
    (variable_last home c.new-fields.result c.number.new.self rows c.in_ok-index.index c.in_ok-index.ensures
    c.if-index.true)

pub returns : goal.returns
returns c = λ home rows.
    at_tag home 1 1 c.args.items.now c.new-fields.result rows (Some (node.Bound c.in_ok-index.index)) refl
    c.new-fields.ensures
    (variable_found home c.new-fields.result c.number.new.self rows c.in_ok-index.index c.in_ok-index.ensures
    (is_so c.at_end.result c.at_end.ensures c.if-not-at_end.false)
    (variable_index c.in_ok-index.index ((c.in_ok-index.ensures []).fits) c.if-index.false))
