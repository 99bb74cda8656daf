use Rattle.std.proofs.Common.{◌≡◌, ◌∙◌, refl, ap, length, slice_get, Some}
use Rattle.std.proofs.lemmas.Option.{slice_get_read}
use Rattle.semantic_objects.specs.declared.node.TypeNode.TheVariants as node
use Rattle.semantic_objects.proofs.Unfolding.{noted}
use Rattle.type_schemes.proofs.Adding.{adds_nothing}
use Rattle.table_schemes.proofs.Entering.{bound_tree, free_tree, found_counted, found_rising, found_parts, made_tree}
use Rattle.table_schemes.proofs.enters.enter_node.Goals as goal

pub returns-in_err-parts-in-Made-clause-added : goal.returns-in_err-parts-in-Made-clause-added
returns-in_err-parts-in-Made-clause-added c = adds_nothing c.args.table.now

pub returns-in_err-symbol-in-Some-clause-added : goal.returns-in_err-symbol-in-Some-clause-added
returns-in_err-symbol-in-Some-clause-added c = adds_nothing c.args.table.now

pub enter_symbol-requires-clause-counted : goal.enter_symbol-requires-clause-counted
enter_symbol-requires-clause-counted c =
    let xs = c.args.xs.now in
    let at : slice_get xs c.args.at ≡ Some (node.Made c.in-Made.symbol c.in-Made.places) =
    slice_get_read xs (length xs) c.args.at _ refl c.requires.within c.index-xs-at.is ∙ ap Some c.in-Made.is in
    found_counted c.args.parts.now c.in-Made.places c.in-Some.parts c.args.at c.in-Made.symbol c.in_ok-symbol-in-Some.symbol
    (rw c.in-Some.is at c.in_ok-parts-in-Made.ensures) (c.requires.xs.each c.args.at _ at) c.in_ok-symbol-in-Some.ensures

pub enter_symbol-requires-clause-rising : goal.enter_symbol-requires-clause-rising
enter_symbol-requires-clause-rising c =
    let xs = c.args.xs.now in
    let at : slice_get xs c.args.at ≡ Some (node.Made c.in-Made.symbol c.in-Made.places) =
    slice_get_read xs (length xs) c.args.at _ refl c.requires.within c.index-xs-at.is ∙ ap Some c.in-Made.is in
    found_rising c.args.at c.in-Made.symbol c.in_ok-symbol-in-Some.symbol c.in-Made.places (c.requires.xs.each c.args.at _ at)
    c.in_ok-symbol-in-Some.ensures

pub enter_symbol-requires-clause-parts : goal.enter_symbol-requires-clause-parts
enter_symbol-requires-clause-parts c =
    found_parts c.args.table.now c.args.xs.now c.args.nodes.now c.args.parts.now c.in-Made.places c.in-Some.parts
    c.requires.entered (rw c.in-Some.is at c.in_ok-parts-in-Made.ensures)

pub returns-then-number-count-clause-tree : goal.returns-then-number-count-clause-tree
returns-then-number-count-clause-tree c a e =
    let xs = c.args.xs.now in
    let at : slice_get xs c.args.at ≡ Some (node.Bound c.in-Bound.number) =
    slice_get_read xs (length xs) c.args.at _ refl c.requires.within c.index-xs-at.is ∙ ap Some c.in-Bound.is in
    bound_tree c.args.table.now c.args.nodes.now _ c.in-Bound.number a (noted xs c.args.at _ c.requires.xs at) e

pub returns-then-number-count-clause-added : goal.returns-then-number-count-clause-added
returns-then-number-count-clause-added c = adds_nothing c.args.table.now

pub returns-else-number-count-clause-added : goal.returns-else-number-count-clause-added
returns-else-number-count-clause-added c = adds_nothing c.args.table.now

pub returns-then-number-variables-clause-tree : goal.returns-then-number-variables-clause-tree
returns-then-number-variables-clause-tree c a e =
    let xs = c.args.xs.now in
    let at : slice_get xs c.args.at ≡ Some (node.Free c.in-Free.number) =
    slice_get_read xs (length xs) c.args.at _ refl c.requires.within c.index-xs-at.is ∙ ap Some c.in-Free.is in
    free_tree c.args.table.now c.args.nodes.now _ c.in-Free.number a (noted xs c.args.at _ c.requires.xs at)
    (rw c.variables.ensures at c.if-number-variables.true) e

pub returns-then-number-variables-clause-added : goal.returns-then-number-variables-clause-added
returns-then-number-variables-clause-added c = adds_nothing c.args.table.now

pub returns-else-number-variables-clause-added : goal.returns-else-number-variables-clause-added
returns-else-number-variables-clause-added c = adds_nothing c.args.table.now

pub returns-in_ok-enter_symbol-in-Some-clause-tree :
    goal.returns-in_ok-enter_symbol-in-Some-clause-tree
returns-in_ok-enter_symbol-in-Some-clause-tree c a e =
    let xs = c.args.xs.now in
    let at : slice_get xs c.args.at ≡ Some (node.Made c.in-Made.symbol c.in-Made.places) =
    slice_get_read xs (length xs) c.args.at _ refl c.requires.within c.index-xs-at.is ∙ ap Some c.in-Made.is in
    made_tree c.args.table.now c.enter_symbol.new.table xs c.args.nodes.now c.enter_symbol.new.nodes c.args.parts.now
    c.in-Made.places c.in-Some.parts c.args.at c.in-Made.symbol c.in_ok-symbol-in-Some.symbol _ a c.requires.entered
    (rw c.in-Some.is at c.in_ok-parts-in-Made.ensures) (noted xs c.args.at _ c.requires.xs at) c.in_ok-symbol-in-Some.ensures
    c.in_ok-enter_symbol-in-Some.ensures.tree e

pub returns-in-None-clause-added : goal.returns-in-None-clause-added
returns-in-None-clause-added c = adds_nothing c.args.table.now
