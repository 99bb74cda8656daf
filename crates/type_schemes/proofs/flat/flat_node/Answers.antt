use Rattle.std.proofs.Common.{sym, subst}
use Rattle.semantic_objects.specs.declared.node.TypeNode.TheVariants as node
use Rattle.type_nodes.specs.Tables.{IsEnd}
use Rattle.type_schemes.specs.Flattening.{IsFlat}
use Rattle.type_schemes.proofs.Reaching.{node_has}
use Rattle.type_schemes.proofs.Flattening.{variable_flat, made_flat}
use Rattle.type_schemes.proofs.flat.flat_node.Goals as goal

pub flat_parts-requires-clause-has : goal.flat_parts-requires-clause-has
flat_parts-requires-clause-has c =
    node_has c.args.table.now c.in-Made.at c.node-node.result.now c.is_kept.ensures.kept.made c.node-node.ensures

pub returns-in_ok-flat_variable-in-Variable : goal.returns-in_ok-flat_variable-in-Variable
returns-in_ok-flat_variable-in-Variable c =
    let t = c.args.table.now in
    let k = c.in_ok-flat_variable-in-Variable in
    subst (λ a. IsFlat t c.args.numbers.now.variables c.args.flat.now.nodes a k.field-0) (sym c.in-Variable.is)
    (variable_flat t c.args.numbers.now.variables c.args.flat.now.nodes c.in-Variable.number k.field-0
    (subst (IsEnd t) c.in-Variable.is c.requires.end) k.ensures.node k.ensures.tree)

pub returns-in_ok-copy-in-Made : goal.returns-in_ok-copy-in-Made
returns-in_ok-copy-in-Made c =
    let t = c.args.table.now in
    let vs = c.args.numbers.now.variables in
    let x = node.Made c.in_ok-copy-in-Made.field-0 c.in_ok-places-in-Made.places in
    subst (λ a. IsFlat t vs c.args.flat.now.nodes a x) (sym c.in-Made.is)
    (made_flat t vs c.args.flat.now.nodes c.in-Made.at c.node-node.result.now c.in_ok-copy-in-Made.field-0
    c.in_ok-places-in-Made.places c.is_kept.ensures.kept c.node-node.ensures c.in_ok-copy-in-Made.ensures
    c.in_ok-places-in-Made.ensures)
