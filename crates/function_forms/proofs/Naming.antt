-- Type functions that are a type name alone.
use Rattle.std.proofs.Common.{◌≡◌, ℕ, suc, ◌-◌, ◌<◌, refl, sym, ap, ◌∙◌, subst, List, ◌∷◌, length, get_or, Bool, ◌&&◌, Some, None, slice_get, arith}
use Rattle.std.proofs.lemmas.Option.{slice_get_read}
use Rattle.semantic_objects.specs.declared.node.TypeNode.{TypeNode}
use Rattle.semantic_objects.specs.declared.node.TypeNode.TheVariants as node
use Rattle.semantic_objects.specs.Trees.{Tree, trees_of}
use Rattle.semantic_objects.specs.Nodes.{node_tree, unfolded, tree_at, trees_at, root, AreNodes, AreTree, IsNodeAt}
use Rattle.semantic_objects.proofs.Unfolding.{noted}
use Rattle.unification.specs.Generality.{same_tree, same_trees}
use Rattle.module_semantics.specs.SignatureNames.{variables_from, name_over, name_alone}
use Rattle.semantic_objects.specs.declared.symbol.Symbol.{Symbol}
use Rattle.semantic_objects.specs.declared.entry.TypeFn.{TypeFn}
use Rattle.semantic_objects.specs.Symbols.{part_count}

abbrev pub are_variables : List TypeNode → List ℕ → ℕ → Bool
are_variables nodes places number = same_trees (trees_of (trees_at (unfolded nodes) places)) (variables_from (length places) number)

-- the node at one of some places
pub variable_next : (nodes : List TypeNode) (rest more : List ℕ) (p number : ℕ) (x : TypeNode) (b all : Bool)
    → AreNodes nodes → rest ≡ p ∷ more → slice_get nodes p ≡ Some x
    → ((made : List Tree) → b ≡ same_tree (node_tree made x) (Tree.Bound number))
    → are_variables nodes rest number ≡ all → (b && are_variables nodes more (suc number)) ≡ all
variable_next nodes rest more p number x b all are at h is e =
    ap (λ z. z && are_variables nodes more (suc number))
    (is (unfolded nodes) ∙ ap (λ t. same_tree t (Tree.Bound number)) (sym (noted nodes p x are h)))
    ∙ sym (ap (λ ps. are_variables nodes ps number) at) ∙ e

-- the last node is the tree
pub last_node : (nodes : List TypeNode) (t : Tree) (at : ℕ) (x : TypeNode) → root nodes ≡ t → AreTree nodes
    → at ≡ length nodes - 1 → x ≡ get_or nodes at x → t ≡ node_tree (unfolded nodes) x
last_node nodes t at x e are place is =
    let some : 0 < length nodes = are.some in
    sym e ∙ ap (tree_at nodes) (sym place)
    ∙ noted nodes at x are.nodes (slice_get_read nodes (length nodes) at x refl (omega (arith, some, place)) is)

-- a last node that is a symbol has as many parts as the symbol takes
pub last_counted : (nodes : List TypeNode) (at : ℕ) (x : TypeNode) (symbol : Symbol) (places slice : List ℕ)
    → AreTree nodes → at ≡ length nodes - 1 → x ≡ get_or nodes at x → x ≡ node.Made symbol places → slice ≡ places
    → length slice ≡ part_count symbol
last_counted nodes at x symbol places slice are place is made same =
    let some : 0 < length nodes = are.some in
    let there : slice_get nodes at ≡ Some x =
    slice_get_read nodes (length nodes) at x refl (omega (arith, some, place)) is in
    ap length same ∙ (subst (λ z. IsNodeAt at z) made (are.nodes.each at x there)).0.counted

pub last_alone : (nodes : List TypeNode) (function : TypeFn) (at : ℕ) (x : TypeNode) (symbol : Symbol)
    (places slice : List ℕ) → root nodes ≡ function.body → AreTree nodes → at ≡ length nodes - 1
    → x ≡ get_or nodes at x → x ≡ node.Made symbol places → slice ≡ places
    → name_over function.arity (Tree.Made symbol (trees_of (trees_at (unfolded nodes) slice))) ≡ name_alone function
last_alone nodes function at x symbol places slice e are place is made same =
    ap (name_over function.arity)
    (ap (λ ps. Tree.Made symbol (trees_of (trees_at (unfolded nodes) ps))) same
    ∙ ap (node_tree (unfolded nodes)) (sym made) ∙ sym (last_node nodes function.body at x e are place is))

-- a last node that is no symbol is no name
pub last_bound : (nodes : List TypeNode) (function : TypeFn) (at i : ℕ) (x : TypeNode) → root nodes ≡ function.body
    → AreTree nodes → at ≡ length nodes - 1 → x ≡ get_or nodes at x → x ≡ node.Bound i → None ≡ name_alone function
last_bound nodes function at i x e are place is made =
    sym (ap (name_over function.arity) (last_node nodes function.body at x e are place is
    ∙ ap (node_tree (unfolded nodes)) made))

pub last_free : (nodes : List TypeNode) (function : TypeFn) (at i : ℕ) (x : TypeNode) → root nodes ≡ function.body
    → AreTree nodes → at ≡ length nodes - 1 → x ≡ get_or nodes at x → x ≡ node.Free i → None ≡ name_alone function
last_free nodes function at i x e are place is made =
    sym (ap (name_over function.arity) (last_node nodes function.body at x e are place is
    ∙ ap (node_tree (unfolded nodes)) made))
