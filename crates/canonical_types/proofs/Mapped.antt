-- Nodes that each become another one: the tree becomes another one.
use Rattle.std.proofs.Common.{◌≡◌, ℕ, zero, suc, ◌-◌, ◌<◌, refl, sym, ap, ap₂, ◌∙◌, subst, arith, List, [], ◌∷◌, length, map, get_or, slice_get, Some}
use Rattle.std.proofs.lemmas.List.{length-map}
use Rattle.std.proofs.lemmas.Option.{slice_get-get_or}
use Rattle.semantic_objects.specs.declared.name.TyName.{TyName}
use Rattle.semantic_objects.specs.declared.symbol.Symbol.{Symbol}
use Rattle.semantic_objects.specs.declared.symbol.Symbol.TheVariants as symbol
use Rattle.semantic_objects.specs.declared.node.TypeNode.{TypeNode}
use Rattle.semantic_objects.specs.declared.node.TypeNode.TheVariants as node
use Rattle.semantic_objects.specs.Trees.{Tree, Trees, trees_of}
use Rattle.semantic_objects.specs.Nodes.{trees_at, node_tree, unfolded, tree_at, root, AreBelow, IsNodeAt, AreNodes, AreTree}
use Rattle.semantic_objects.proofs.Unfolding.{noted}
use Rattle.unification.specs.Closing.{place_of, plug, plug_all}
use Rattle.realisation.specs.Canonical.{renamed_symbol, renamed, renamed_all}
use Rattle.canonical_types.specs.Canonicals.{renamed_node, reordered_node}

-- what becomes of nodes is what becomes of their trees
record MapsNodes (f : TypeNode → TypeNode) (g : Tree → Tree) : Type 0 where
  over : Symbol → Trees → Tree
  bound : (made : List Tree) (i : ℕ) → node_tree made (f (node.Bound i)) ≡ g (Tree.Bound i)
  free : (made : List Tree) (n : ℕ) → node_tree made (f (node.Free n)) ≡ g (Tree.Free n)
  made : (made : List Tree) (c : Symbol) (ps : List ℕ)
      → node_tree made (f (node.Made c ps)) ≡ over c (trees_of (trees_at made ps))
  tree : (c : Symbol) (ts : List Tree) → g (Tree.Made c (trees_of ts)) ≡ over c (trees_of (map g ts))
  stands : (p : ℕ) (x : TypeNode) → IsNodeAt p x → IsNodeAt p (f x)

some_is : {A : Type 0} (x y : A) → Some x ≡ Some y → x ≡ y
some_is x y h = cc

mapped_get : (f : TypeNode → TypeNode) (xs : List TypeNode) (p : ℕ) (x : TypeNode) → slice_get (map f xs) p ≡ Some x
    → (y : TypeNode) × (slice_get xs p ≡ Some y) × (x ≡ f y)
mapped_get f [] zero x e = absurd (cc)
mapped_get f [] (suc p) x e = absurd (cc)
mapped_get f (y ∷ ys) zero x e = (y, refl, sym (some_is (f y) x e))
mapped_get f (y ∷ ys) (suc p) x e = mapped_get f ys p x e

get_mapped : (f : TypeNode → TypeNode) (xs : List TypeNode) (p : ℕ) (y : TypeNode) → slice_get xs p ≡ Some y
    → slice_get (map f xs) p ≡ Some (f y)
get_mapped f [] zero y e = absurd (cc)
get_mapped f [] (suc p) y e = absurd (cc)
get_mapped f (x ∷ xs) zero y e = ap (λ z. Some (f z)) (some_is x y e)
get_mapped f (x ∷ xs) (suc p) y e = get_mapped f xs p y e

module _ (f : TypeNode → TypeNode) (g : Tree → Tree) (m : MapsNodes f g) (nodes : List TypeNode) (h : AreNodes nodes) where
  are_mapped : AreNodes (map f nodes)
  are_mapped = record {
    each = λ p x e. (let k = mapped_get f nodes p x e in
        subst (IsNodeAt p) (sym k.2) (m.stands p k.0 (h.each p k.0 k.1)));
  }

  abbrev AreSame : ℕ → Type 0
  AreSame p = tree_at (map f nodes) p ≡ g (tree_at nodes p)

  parts_mapped : (n : ℕ) (ps : List ℕ) → ((q : ℕ) → q < n → AreSame q) → AreBelow n ps
      → trees_at (unfolded (map f nodes)) ps ≡ map g (trees_at (unfolded nodes) ps)
  parts_mapped n [] same below = refl
  parts_mapped n (p ∷ ps) same below =
      ap₂ (λ t ts. t ∷ ts) (same p below.0) (parts_mapped n ps same below.1)

  node_mapped : (p : ℕ) (x : TypeNode) → slice_get nodes p ≡ Some x → ((q : ℕ) → q < p → AreSame q) → AreSame p
  node_mapped p (node.Bound i) e same =
      noted (map f nodes) p (f (node.Bound i)) are_mapped (get_mapped f nodes p (node.Bound i) e)
      ∙ m.bound (unfolded (map f nodes)) i ∙ ap g (sym (noted nodes p (node.Bound i) h e))
  node_mapped p (node.Free n) e same =
      noted (map f nodes) p (f (node.Free n)) are_mapped (get_mapped f nodes p (node.Free n) e)
      ∙ m.free (unfolded (map f nodes)) n ∙ ap g (sym (noted nodes p (node.Free n) h e))
  node_mapped p (node.Made c ps) e same =
      noted (map f nodes) p (f (node.Made c ps)) are_mapped (get_mapped f nodes p (node.Made c ps) e)
      ∙ m.made (unfolded (map f nodes)) c ps
      ∙ ap (λ ts. m.over c (trees_of ts)) (parts_mapped p ps same (h.each p (node.Made c ps) e).0.below)
      ∙ sym (m.tree c (trees_at (unfolded nodes) ps))
      ∙ ap g (sym (noted nodes p (node.Made c ps) h e))

  mapped_below : (n p : ℕ) → p < n → p < length nodes → AreSame p
  mapped_below zero p a b = absurd (omega (arith, a))
  mapped_below (suc n) p a b = node_mapped p (get_or nodes p (node.Bound 0)) (slice_get-get_or nodes p (node.Bound 0) b)
      (λ q k. mapped_below n q (omega (arith, a, k)) (omega (arith, b, k)))

tree_mapped : (f : TypeNode → TypeNode) (g : Tree → Tree) → MapsNodes f g → (nodes : List TypeNode) → AreTree nodes
    → AreTree (map f nodes) × (root (map f nodes) ≡ g (root nodes))
tree_mapped f g m nodes h =
    let k : length (map f nodes) ≡ length nodes = length-map nodes f in
    let some : 0 < length nodes = h.some in
    let last : length nodes - 1 < length nodes = omega (arith, some) in (
      record { nodes = are_mapped f g m nodes h.nodes; some = omega (arith, k, some) },
      ap (λ n. tree_at (map f nodes) (n - 1)) k
          ∙ mapped_below f g m nodes h.nodes (length nodes) (length nodes - 1) last last,
    )

-- ---- other names

renamed_list : (h : TyName → TyName) (ts : List Tree) → renamed_all h (trees_of ts) ≡ trees_of (map (renamed h) ts)
renamed_list h [] = refl
renamed_list h (t ∷ ts) = ap (Trees.Cons (renamed h t)) (renamed_list h ts)

renamed_stands : (h : TyName → TyName) → ((n : TyName) → (h n).arity ≡ n.arity) → (p : ℕ) (x : TypeNode)
    → IsNodeAt p x → IsNodeAt p (renamed_node h x)
renamed_stands h k p (node.Bound i) s = tt
renamed_stands h k p (node.Free n) s = tt
renamed_stands h k p (node.Made symbol.Arrow ps) s = s
renamed_stands h k p (node.Made (symbol.Record labels) ps) s = s
renamed_stands h k p (node.Made (symbol.Name name) ps) s =
    (record { below = s.0.below; counted = s.0.counted ∙ sym (k name) }, s.1)

renames : (h : TyName → TyName) → ((n : TyName) → (h n).arity ≡ n.arity) → MapsNodes (renamed_node h) (renamed h)
renames h k = record {
  over = λ c ts. Tree.Made (renamed_symbol h c) ts;
  bound = λ made i. refl;
  free = λ made n. refl;
  made = λ made c ps. refl;
  tree = λ c ts. ap (Tree.Made (renamed_symbol h c)) (renamed_list h ts);
  stands = renamed_stands h k;
}

pub names_mapped : (h : TyName → TyName) → ((n : TyName) → (h n).arity ≡ n.arity) → (nodes : List TypeNode)
    → AreTree nodes → AreTree (map (renamed_node h) nodes) × (root (map (renamed_node h) nodes) ≡ renamed h (root nodes))
names_mapped h k nodes t = tree_mapped (renamed_node h) (renamed h) (renames h k) nodes t

-- ---- variables in another order

abbrev pub by_place : List ℕ → ℕ → Tree
by_place vs i = Tree.Bound (place_of i vs)

plugged_list : (vs : List ℕ) (ts : List Tree)
    → plug_all (by_place vs) (trees_of ts) ≡ trees_of (map (plug (by_place vs)) ts)
plugged_list vs [] = refl
plugged_list vs (t ∷ ts) = ap (Trees.Cons (plug (by_place vs) t)) (plugged_list vs ts)

reordered_stands : (vs : List ℕ) (p : ℕ) (x : TypeNode) → IsNodeAt p x → IsNodeAt p (reordered_node vs x)
reordered_stands vs p (node.Bound i) s = tt
reordered_stands vs p (node.Free n) s = tt
reordered_stands vs p (node.Made c ps) s = s

reorders : (vs : List ℕ) → MapsNodes (reordered_node vs) (plug (by_place vs))
reorders vs = record {
  over = λ c ts. Tree.Made c ts;
  bound = λ made i. refl;
  free = λ made n. refl;
  made = λ made c ps. refl;
  tree = λ c ts. ap (Tree.Made c) (plugged_list vs ts);
  stands = reordered_stands vs;
}

pub variables_mapped : (vs : List ℕ) (nodes : List TypeNode) → AreTree nodes
    → AreTree (map (reordered_node vs) nodes)
    × (root (map (reordered_node vs) nodes) ≡ plug (by_place vs) (root nodes))
variables_mapped vs nodes t = tree_mapped (reordered_node vs) (plug (by_place vs)) (reorders vs) nodes t
