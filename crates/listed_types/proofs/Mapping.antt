-- Nodes with other leaves and symbols unfold to trees with these.
use Rattle.std.proofs.Common.{◌≡◌, ℕ, ◌-◌, ◌<◌, List, [], ◌∷◌, ◌++◌, length, map, get_or, refl, sym, ap, ap₂, ◌∙◌, subst, Some, arith, slice_get, zero, suc}
use Rattle.std.proofs.Math.ListN.{get_or-map}
use Rattle.std.proofs.lemmas.List.{length-map, map-append}
use Rattle.semantic_objects.specs.declared.node.TypeNode.{TypeNode}
use Rattle.semantic_objects.specs.declared.node.TypeNode.TheVariants as node
use Rattle.semantic_objects.specs.declared.symbol.Symbol.{Symbol}
use Rattle.semantic_objects.specs.Symbols.{part_count, HasRisingLabels}
use Rattle.semantic_objects.specs.Trees.{Tree, Trees, trees_of}
use Rattle.semantic_objects.specs.Nodes.{nowhere, node_tree, trees_at, unfolded_after, unfolded, root, IsNodeAt, AreTree}
use Rattle.listed_types.specs.Mapped.{mapped, mapped_all, mapped_node}

-- leaves in place of variables, and symbols that take the parts of those in whose place they stand
pub record MayMap (leaf : ℕ → TypeNode) (symbol : Symbol → Symbol) (tree : ℕ → Tree) : Type 0 where
  pub leaves : (made : List Tree) (n : ℕ) → node_tree made (leaf n) ≡ tree n
  pub nodes : (p n : ℕ) → IsNodeAt p (leaf n)
  pub counted : (c : Symbol) → part_count (symbol c) ≡ part_count c
  pub rising : (c : Symbol) → HasRisingLabels c → HasRisingLabels (symbol c)

module _ (leaf : ℕ → TypeNode) (symbol : Symbol → Symbol) (tree : ℕ → Tree) (may : MayMap leaf symbol tree) where
  parts_mapped : (made : List Tree) (ps : List ℕ)
      → trees_of (trees_at (map (mapped tree symbol) made) ps) ≡ mapped_all tree symbol (trees_of (trees_at made ps))
  parts_mapped made [] = refl
  parts_mapped made (p ∷ ps) =
      ap₂ Trees.Cons (get_or-map (mapped tree symbol) made p nowhere) (parts_mapped made ps)

  tree_mapped : (made : List Tree) (x : TypeNode)
      → node_tree (map (mapped tree symbol) made) (mapped_node leaf symbol x) ≡ mapped tree symbol (node_tree made x)
  tree_mapped made (node.Bound i) = refl
  tree_mapped made (node.Free n) = may.leaves (map (mapped tree symbol) made) n
  tree_mapped made (node.Made c ps) = ap (Tree.Made (symbol c)) (parts_mapped made ps)

  all_mapped : (made : List Tree) (xs : List TypeNode)
      → unfolded_after (map (mapped tree symbol) made) (map (mapped_node leaf symbol) xs)
      ≡ map (mapped tree symbol) (unfolded_after made xs)
  all_mapped made [] = refl
  all_mapped made (x ∷ xs) =
      ap (λ t. unfolded_after (map (mapped tree symbol) made ++ t ∷ []) (map (mapped_node leaf symbol) xs))
      (tree_mapped made x)
      ∙ ap (λ ts. unfolded_after ts (map (mapped_node leaf symbol) xs))
      (sym (map-append (mapped tree symbol) made (node_tree made x ∷ [])))
      ∙ all_mapped (made ++ node_tree made x ∷ []) xs

  pub mapped_root : (xs new : List TypeNode) → new ≡ map (mapped_node leaf symbol) xs
      → root new ≡ mapped tree symbol (root xs)
  mapped_root xs new e =
      ap root e
      ∙ ap (λ ts. get_or ts (length (map (mapped_node leaf symbol) xs) - 1) nowhere) (all_mapped [] xs)
      ∙ ap (λ n. get_or (map (mapped tree symbol) (unfolded xs)) (n - 1) nowhere)
      (length-map xs (mapped_node leaf symbol))
      ∙ get_or-map (mapped tree symbol) (unfolded xs) (length xs - 1) nowhere

  node_mapped : (p : ℕ) (x : TypeNode) → IsNodeAt p x → IsNodeAt p (mapped_node leaf symbol x)
  node_mapped p (node.Bound i) h = tt
  node_mapped p (node.Free n) h = may.nodes p n
  node_mapped p (node.Made c ps) h = (
    record { below = h.0.below; counted = h.0.counted ∙ sym (may.counted c) },
    may.rising c h.1,
  )

  each_mapped : (xs : List TypeNode) (place : ℕ → ℕ)
      → ((p : ℕ) (x : TypeNode) → slice_get xs p ≡ Some x → IsNodeAt (place p) x)
      → (p : ℕ) (y : TypeNode) → slice_get (map (mapped_node leaf symbol) xs) p ≡ Some y → IsNodeAt (place p) y
  each_mapped [] place h p y e = absurd (cc)
  each_mapped (x ∷ xs) place h zero y e =
      let k : mapped_node leaf symbol x ≡ y = cc in
      subst (IsNodeAt (place 0)) k (node_mapped (place 0) x (h 0 x refl))
  each_mapped (x ∷ xs) place h (suc p) y e = each_mapped xs (λ q. place (suc q)) (λ q z f. h (suc q) z f) p y e

  pub mapped_are : (xs new : List TypeNode) → new ≡ map (mapped_node leaf symbol) xs → AreTree xs → AreTree new
  mapped_are xs new e h = subst AreTree (sym e) (record {
    nodes = record { each = λ p y f. each_mapped xs (λ q. q) h.nodes.each p y f };
    some = let k : length (map (mapped_node leaf symbol) xs) ≡ length xs =
        length-map xs (mapped_node leaf symbol) in
        let l : 0 < length xs = h.some in omega (arith, k, l);
  })
