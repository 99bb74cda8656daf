-- Types that are closed over the variables of a list.
use Rattle.std.proofs.Common.{◌≡◌, ℕ, ◌+◌, ◌-◌, ◌<◌, ◌≤◌, List, [], ◌∷◌, ◌++◌, map, refl, sym, ap, ap₂, ◌∙◌, subst, Bool, true, false, ◌||◌, cond, not, arith, zero, suc, ltb}
use Rattle.std.proofs.lemmas.Bool.{eqb-true, eq-eqb, lt-ltb, le-ltb, ltb-true, ltb-false}
use Rattle.std.specs.Prelude.{eqb}
use Rattle.semantic_objects.specs.declared.name.TyId.{TyId}
use Rattle.semantic_objects.specs.declared.node.TypeNode.{TypeNode}
use Rattle.semantic_objects.specs.declared.node.TypeNode.TheVariants as node
use Rattle.semantic_objects.specs.Trees.{Tree, Trees, TypeScheme}
use Rattle.semantic_objects.specs.Nodes.{node_tree, root, IsNodeAt, AreTree}
use Rattle.unification.specs.Types.{Ty, Types, Substitution}
use Rattle.unification.specs.Closing.{is_among, place_of, found_in, closed_over, closed_over_all, kept_since, held_below}
use Rattle.unification.proofs.Closing.{found_only}
use Rattle.type_nodes.specs.Tables.{Table, Has, state, whole}
use Rattle.type_nodes.specs.Keeping.{IsKept}
use Rattle.type_nodes.proofs.Binding.{whole_below}
use Rattle.type_schemes.specs.Schemes.{schemes_since}
use Rattle.static_semantics.specs.DatatypeInference.{counted}
use Rattle.listed_types.specs.Mapped.{mapped, mapped_all}
use Rattle.listed_types.specs.Listing.{list_leaf, same_symbol, list_node}
use Rattle.listed_types.proofs.Mapping.{MayMap, mapped_root, mapped_are}

-- ---- nothing is closed where all variables are older

variable_open : (vs : List ℕ) (n : ℕ) (c : Bool) → is_among n vs ≡ c → (is_among n vs ≡ true → ⊥)
    → cond c (Tree.Bound (place_of n vs)) (Tree.Free n) ≡ Tree.Free n
variable_open vs n true e h = absurd (h e)
variable_open vs n false e h = refl

mutual
  closed_none : (vs : List ℕ) → ((n : ℕ) → is_among n vs ≡ true → ⊥) → (t : Ty)
      → closed_over vs t ≡ closed_over [] t
  closed_none vs h (Ty.Var n) = variable_open vs n (is_among n vs) refl (h n)
  closed_none vs h (Ty.Made c ts) = ap (Tree.Made c) (closed_none_all vs h ts)

  closed_none_all : (vs : List ℕ) → ((n : ℕ) → is_among n vs ≡ true → ⊥) → (ts : Types)
      → closed_over_all vs ts ≡ closed_over_all [] ts
  closed_none_all vs h Types.Nil = refl
  closed_none_all vs h (Types.Cons t ts) = ap₂ Trees.Cons (closed_none vs h t) (closed_none_all vs h ts)

older_kept : (k n : ℕ) (s : Substitution) → n < k → kept_since k s n ≡ false → ⊥
older_kept k n s h e =
    let l : (true || held_below k s n) ≡ false = subst (λ b. (b || held_below k s n) ≡ false) (lt-ltb n k h) e in
    absurd (cc)

open_body : (t : Table) (a : TyId) → IsKept t → Has t a
    → closed_over (found_in (kept_since (state t).next (state t).stands) (whole t a) []) (whole t a)
    ≡ closed_over [] (whole t a)
open_body t a k h = closed_none (found_in (kept_since (state t).next (state t).stands) (whole t a) [])
    (found_only (λ n. ⊥) (kept_since (state t).next (state t).stands) (whole t a) [] (λ n e. absurd (cc))
    (λ n e f. older_kept (state t).next n (state t).stands (whole_below t a k h n e) f)) (whole t a)

some_is : {A : Type 0} (x y : A) → x ∷ [] ≡ y ∷ [] → x ≡ y
some_is x y h = cc

-- the last of one
last_is : {A : Type 0} (xs front : List A) (x y : A) → xs ≡ x ∷ [] → xs ≡ front ++ y ∷ [] → y ≡ x
last_is xs [] x y e f = cc
last_is xs (z ∷ []) x y e f = absurd (cc)
last_is xs (z ∷ w ∷ front) x y e f = absurd (cc)

pub open_is : (t past : Table) (a : TyId) (ids : List TyId) (schemes front : List TypeScheme) (σ : TypeScheme)
    → IsKept t → Has t a
    → past ≡ t → ids ≡ a ∷ [] → schemes ≡ schemes_since t (state past).next ids → schemes ≡ front ++ σ ∷ []
    → σ.body ≡ closed_over [] (whole t a)
open_is t past a ids schemes front σ k h p e f l =
    let only : schemes ≡ schemes_since t (state t).next (a ∷ []) =
    f ∙ ap₂ (λ (z : Table) is. schemes_since t (state z).next is) p e in
    ap (λ (z : TypeScheme). z.body) (last_is schemes front _ σ only l) ∙ open_body t a k h

-- ---- variables of the list by their places

below : (m n : ℕ) → m < n → eqb m n ≡ false
below m n h = by_test (eqb m n) refl
  where
    by_test : (c : Bool) → eqb m n ≡ c → c ≡ false
    by_test true e = let k : m ≡ n = eqb-true m n e in absurd (omega (arith, k, h))
    by_test false e = refl

apart : (m n : ℕ) → n < m → eqb m n ≡ false
apart m n h = by_test (eqb m n) refl
  where
    by_test : (c : Bool) → eqb m n ≡ c → c ≡ false
    by_test true e = let k : m ≡ n = eqb-true m n e in absurd (omega (arith, k, h))
    by_test false e = refl

among_counted : (count first n : ℕ) → n < first → is_among n (counted count first) ≡ false
among_counted zero first n h = refl
among_counted (suc count) first n h =
    ap (λ c. c || is_among n (counted count (suc first))) (below n first h)
    ∙ among_counted count (suc first) n (omega (arith, h))

ltb_suc : (a b : ℕ) → ltb a b ≡ ltb (suc a) (suc b)
ltb_suc a b = by_test (ltb a b) refl
  where
    by_test : (c : Bool) → ltb a b ≡ c → c ≡ ltb (suc a) (suc b)
    by_test true e = let k : a < b = ltb-true a b e in sym (lt-ltb (suc a) (suc b) (omega (arith, k)))
    by_test false e = let k : b ≤ a = ltb-false a b e in sym (le-ltb (suc a) (suc b) (omega (arith, k)))

pub among_from : (count first d m : ℕ) → m ≡ first + d → is_among m (counted count first) ≡ ltb d count
among_from zero first d m e = sym (le-ltb d 0 (omega arith))
among_from (suc count) first zero m e =
    let k : m ≡ first = omega (arith, e) in
    ap (λ c. c || is_among m (counted count (suc first))) (eq-eqb m first k) ∙ sym (lt-ltb 0 (suc count) (omega arith))
among_from (suc count) first (suc d) m e =
    ap (λ c. c || is_among m (counted count (suc first))) (apart m first (omega (arith, e)))
    ∙ among_from count (suc first) d m (omega (arith, e))
    ∙ ltb_suc d count

pub place_from : (count first d m : ℕ) → m ≡ first + d → d < count → place_of m (counted count first) ≡ d
place_from zero first d m e h = absurd (omega (arith, h))
place_from (suc count) first zero m e h =
    let k : m ≡ first = omega (arith, e) in
    ap (λ c. cond c zero (suc (place_of m (counted count (suc first))))) (eq-eqb m first k)
place_from (suc count) first (suc d) m e h =
    ap (λ c. cond c zero (suc (place_of m (counted count (suc first))))) (apart m first (omega (arith, e)))
    ∙ ap suc (place_from count (suc first) d m (omega (arith, e)) (omega (arith, h)))

abbrev list_tree : ℕ → ℕ → ℕ → Tree
list_tree first count n =
    cond (is_among n (counted count first)) (Tree.Bound (place_of n (counted count first))) (Tree.Free n)

-- a leaf of the list, as trees have it
leaf_counted : (first count n : ℕ) (made : List Tree)
    → node_tree made (list_leaf first count n)
    ≡ cond (is_among n (counted count first)) (Tree.Bound (place_of n (counted count first))) (Tree.Free n)
leaf_counted first count n made = by_first (ltb n first) refl
  where
    by_place : (c : Bool) → ltb (n - first) count ≡ c → n ≡ first + (n - first)
        → node_tree made (cond (not c) (node.Free n) (node.Bound (n - first)))
        ≡ cond (is_among n (counted count first)) (Tree.Bound (place_of n (counted count first))) (Tree.Free n)
    by_place true e k =
        ap Tree.Bound (sym (place_from count first (n - first) n k (ltb-true (n - first) count e)))
        ∙ sym (ap (λ c. cond c (Tree.Bound (place_of n (counted count first))) (Tree.Free n))
        (among_from count first (n - first) n k ∙ e))
    by_place false e k = sym (ap (λ c. cond c (Tree.Bound (place_of n (counted count first))) (Tree.Free n))
        (among_from count first (n - first) n k ∙ e))

    by_first : (b : Bool) → ltb n first ≡ b
        → node_tree made (cond (b || not (ltb (n - first) count)) (node.Free n) (node.Bound (n - first)))
        ≡ cond (is_among n (counted count first)) (Tree.Bound (place_of n (counted count first))) (Tree.Free n)
    by_first true e = sym (ap (λ c. cond c (Tree.Bound (place_of n (counted count first))) (Tree.Free n))
        (among_counted count first n (ltb-true n first e)))
    by_first false e = let k : first ≤ n = ltb-false n first e in
        by_place (ltb (n - first) count) refl (omega (arith, k))

leaf_node : (first count p n : ℕ) → IsNodeAt p (list_leaf first count n)
leaf_node first count p n = by_test (ltb n first || not (ltb (n - first) count))
  where
    by_test : (c : Bool) → IsNodeAt p (cond c (node.Free n) (node.Bound (n - first)))
    by_test true = tt
    by_test false = tt

list_may : (first count : ℕ) → MayMap (list_leaf first count) same_symbol (list_tree first count)
list_may first count = record {
  leaves = λ made n. leaf_counted first count n made;
  nodes = λ p n. leaf_node first count p n;
  counted = λ c. refl;
  rising = λ c h. h;
}

mutual
  tree_listed : (first count : ℕ) (t : Ty)
      → mapped (list_tree first count) same_symbol (closed_over [] t) ≡ closed_over (counted count first) t
  tree_listed first count (Ty.Var n) = refl
  tree_listed first count (Ty.Made c ts) = ap (Tree.Made c) (trees_listed first count ts)

  trees_listed : (first count : ℕ) (ts : Types)
      → mapped_all (list_tree first count) same_symbol (closed_over_all [] ts)
      ≡ closed_over_all (counted count first) ts
  trees_listed first count Types.Nil = refl
  trees_listed first count (Types.Cons t ts) = ap₂ Trees.Cons (tree_listed first count t) (trees_listed first count ts)

pub list_root : (first count : ℕ) (xs new : List TypeNode) (x : Tree) (t : Ty) → new ≡ map (list_node first count) xs
    → root xs ≡ x → x ≡ closed_over [] t → root new ≡ closed_over (counted count first) t
list_root first count xs new x t e f h =
    mapped_root (list_leaf first count) same_symbol (list_tree first count) (list_may first count) xs new e
    ∙ ap (mapped (list_tree first count) same_symbol) (f ∙ h) ∙ tree_listed first count t

pub list_are : (first count : ℕ) (xs new : List TypeNode) → new ≡ map (list_node first count) xs → AreTree xs
    → AreTree new
list_are first count xs new e h =
    mapped_are (list_leaf first count) same_symbol (list_tree first count) (list_may first count) xs new e h
