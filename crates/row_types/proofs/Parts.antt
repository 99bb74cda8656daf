-- Rows that are the parts of a type.
use Rattle.std.proofs.Common.{◌≡◌, ℕ, zero, suc, ◌+◌, ◌<◌, refl, sym, ap, ap₂, subst, ◌∙◌, List, [], ◌∷◌, ◌++◌, length, get_or, Bool, true, false, Option, Some, None, arith}
use borrow.Author.Count.{below_more}
use Rattle.std.specs.Prelude.{IsTrue}
use Rattle.node_bytes.specs.Nodes.{Node, Content}
use Rattle.row_fields.specs.Taking.{NeverBegins, Takes}
use Rattle.node_bytes.specs.declared.table.Item.{Item}
use Rattle.semantic_objects.specs.declared.node.TypeNode.{TypeNode}
use Rattle.semantic_objects.specs.Trees.{Tree, Trees, trees_of}
use Rattle.semantic_objects.specs.Nodes.{tree_at}
use Rattle.interface_format.specs.Trees.{type_nodes}
use Rattle.interface_format.specs.Rules.{IsNumber, AreTypes, count_trees}
use Rattle.interface_nodes.specs.Fields.{node_at, nodes_at}
use Rattle.row_types.specs.declared.rows.TypeRows.{TypeRows}
use Rattle.row_types.specs.Told.{Told, NoType, AreTold, Stands, PartsAre, LacksType, AllOrLacks, Makes}

-- ---- a row that is told

told_at : (home : List ℕ) (made : List Node) (rows : TypeRows) (p : ℕ) (is : Bool) → AreTold home made rows
    → Stands rows p is → Told home (node_at made p) (tree_at rows.nodes p) is
told_at home made rows p is h s =
    let size = h.told_counted in
    let within = s.within in
    subst (Told home (node_at made p) (tree_at rows.nodes p)) s.told (h.each p (omega (arith, size, within)))

below_nodes : (home : List ℕ) (made : List Node) (rows : TypeRows) (p : ℕ) (is : Bool) → AreTold home made rows
    → Stands rows p is → p < length rows.nodes
below_nodes home made rows p is h s =
    let size = h.told_counted in
    let count = h.nodes_counted in
    let within = s.within in
    omega (arith, size, count, within)

-- ---- all of them are types

pub parts_are : (home : List ℕ) (made : List Node) (rows : TypeRows) (places : List ℕ) → AreTold home made rows
    → ((k : ℕ) → k < length places → Stands rows (get_or places k 0) true) → PartsAre home made rows.nodes places
parts_are home made rows [] h s = record { below = tt; are = refl; types = tt }
parts_are home made rows (p ∷ ps) h s =
    let here = s 0 (omega arith) in
    let first = told_at home made rows p true h here in
    let more = parts_are home made rows ps h (λ k lt. s (suc k) (omega (arith, lt))) in
    record {
      below = (below_nodes home made rows p true h here, more.below);
      are = ap₂ (λ x xs. x ∷ xs) (sym first.node) more.are;
      types = (first.is, more.types);
    }

pub lacks : (home : List ℕ) (made : List Node) (rows : TypeRows) (places : List ℕ) (k p : ℕ) → AreTold home made rows
    → k < length places → p ≡ get_or places k 0 → Stands rows p false → LacksType home made places
lacks home made rows places k p h within e s = record {
  at = k;
  within = within;
  none = subst (λ q. NoType home (node_at made q)) e (told_at home made rows p false h s);
}

pub stands_so_far : (rows : TypeRows) (places : List ℕ) (n p : ℕ) (is : Bool) → is ≡ true → p ≡ get_or places n 0
    → ((k : ℕ) → k < n → Stands rows (get_or places k 0) true) → Stands rows p is
    → (k : ℕ) → k < n + 1 → Stands rows (get_or places k 0) true
stands_so_far rows places n p is so e before here k lt =
    below_more (λ j. Stands rows (get_or places j 0) true) n before
    (subst (λ q. Stands rows q true) e (subst (Stands rows p) so here)) k lt

-- ---- one of them is none

pub lacks_refutes : (home : List ℕ) (made : List Node) (m : ℕ) → IsNumber m → (places : List ℕ) (ts : Trees) (k : ℕ)
    → k < length places → NoType home (node_at made (get_or places k 0)) → AreTypes m ts
    → nodes_at made places ≡ type_nodes home ts → ⊥
lacks_refutes home made m n [] ts k within none h e = omega (arith, within)
lacks_refutes home made m n (p ∷ ps) Trees.Nil k within none h e = absurd (cc)
lacks_refutes home made m n (p ∷ ps) (Trees.Cons t ts) zero within none h e = none.never m t n h.0 (cc)
lacks_refutes home made m n (p ∷ ps) (Trees.Cons t ts) (suc k) within none h e =
    lacks_refutes home made m n ps ts k (omega (arith, within)) none h.1 (cc)

pub lacks_never : (home : List ℕ) (made : List Node) (m : ℕ) (places : List ℕ) (ts : Trees)
    → LacksType home made places → IsNumber m → AreTypes m ts → nodes_at made places ≡ type_nodes home ts → ⊥
lacks_never home made m places ts l n h e = lacks_refutes home made m n places ts l.at l.within l.none h e

pub count_of_trees : (ts : List Tree) → count_trees (trees_of ts) ≡ length ts
count_of_trees [] = refl
count_of_trees (t ∷ ts) = ap suc (count_of_trees ts)

-- ---- what tests say

pub not_end : {P : Type 0} (b : Bool) → (IsTrue b → P) × (P → IsTrue b) → b ≡ false → P → ⊥
not_end true h e p = absurd (cc)
not_end false h e p = no_truth (h.1 p)
  where
    no_truth : IsTrue false → ⊥
    no_truth k = cc

pub is_so : {P : Type 0} (b : Bool) → (IsTrue b → P) × (P → IsTrue b) → b ≡ true → P
is_so true h e = h.0 refl
is_so false h e = absurd (cc)

pub types_hold : (rows : TypeRows) (slice places : List ℕ) (all : Bool) → AllOrLacks rows slice all → slice ≡ places
    → all ≡ true → (home : List ℕ) (made : List Node) → AreTold home made rows → PartsAre home made rows.nodes places
types_hold rows slice places true h e so home made told = subst (PartsAre home made rows.nodes) e (h home made told)
types_hold rows slice places false h e so home made told = absurd (cc)

pub types_lack : (rows : TypeRows) (slice places : List ℕ) (all : Bool) → AllOrLacks rows slice all → slice ≡ places
    → all ≡ false → (home : List ℕ) (made : List Node) → AreTold home made rows → LacksType home made places
types_lack rows slice places true h e so home made told = absurd (cc)
types_lack rows slice places false h e so home made told = subst (LacksType home made) e (h home made told)

pub two_places : (a b c : List ℕ) (x y : ℕ) → a ≡ [] → b ≡ a ++ x ∷ [] → c ≡ b ++ y ∷ [] → c ≡ x ∷ y ∷ []
two_places a b c x y e f g =
    g ∙ ap (λ z. z ++ y ∷ []) (f ∙ ap (λ z. z ++ x ∷ []) e)

pub at_tag : (home : List ℕ) (tag n : ℕ) (items slice : List Item) (rows : TypeRows) (found : Option TypeNode) → tag ≡ n
    → slice ≡ items → Makes home n slice rows found → Makes home tag items rows found
at_tag home tag n items slice rows found e f h =
    subst (λ k. Makes home k items rows found) (sym e) (subst (λ z. Makes home n z rows found) f h)

-- a field that wasn't given stands there never
pub none_begins : {X A : Type 0} (value : List Node → X → A) (Fits : A → Type 0) (with_item : A → Content → Content)
    (found : Option X) (items rest : List Item) → Takes value Fits with_item found items rest
    → ((x : X) → found ≡ Some x → ⊥) → NeverBegins Fits with_item items
none_begins value Fits with_item (Some x) items rest h none = absurd (none x refl)
none_begins value Fits with_item None items rest h none = h
