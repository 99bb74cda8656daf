-- Nodes that are checked one by one, and labels that differ.
use Rattle.std.proofs.Common.{◌≡◌, ℕ, zero, suc, ◌+◌, ◌-◌, ◌<◌, ◌≤◌, refl, sym, ap, ◌∙◌, subst, arith, Some, Bool, true, false, ◌||◌, List, [], ◌∷◌, ◌++◌, length, get_or, take}
use Rattle.std.specs.Prelude.{eqb, ltb, not, slice_get}
use Rattle.std.proofs.lemmas.Bool.{eqb-true, ltb-true, ltb-false}
use Rattle.std.proofs.lemmas.Option.{slice_get-get_or}
use Rattle.semantic_objects.specs.declared.node.TypeNode.{TypeNode}
use Rattle.semantic_objects.specs.declared.node.TypeNode.TheVariants as node
use Rattle.semantic_objects.specs.Trees.{Tree, trees_of, binds, binds_any, BindsBelow}
use Rattle.semantic_objects.specs.Nodes.{nowhere, trees_at, node_tree, unfolded, tree_at, root, AreBelow, IsNodeAt, AreNodes, AreTree}
use Rattle.semantic_objects.specs.Symbols.{same_text, AreRising}
use Rattle.semantic_objects.proofs.Same.{text_is}
use Rattle.semantic_objects.proofs.Unfolding.{noted}
use Rattle.unification.proofs.Putting.{either_way, or_either}
use Rattle.type_cases.specs.Closing.{NodeBinds}

-- a fact about each item before a place, with its place
abbrev pub Before : {A : Type 0} → (ℕ → A → Type 0) → List A → ℕ → Type 0
Before {A} P xs i = (p : ℕ) (x : A) → p < i → slice_get xs p ≡ Some x → P p x

some_is : {A : Type 0} (x y : A) → Some x ≡ Some y → x ≡ y
some_is x y h = cc

-- .. and about the next one
pub one_on : {A : Type 0} (P : ℕ → A → Type 0) (xs : List A) (i : ℕ) (y : A) → slice_get xs i ≡ Some y
    → Before P xs i → P i y → Before P xs (i + 1)
one_on {A} P xs i y here before this p x below e = either_way (ltb p i)
    (λ k. before p x (ltb-true p i k) e)
    (λ k. let j : i ≤ p = ltb-false p i k in
    let same : p ≡ i = omega (arith, j, below) in
    subst (λ z. P z x) (sym same)
    (subst (P i) (some_is y x (sym here ∙ ap (slice_get xs) (sym same) ∙ e)) this))

pub item_at : {A : Type 0} (xs : List A) (i : ℕ) (y : A) → i < length xs → y ≡ get_or xs i y → slice_get xs i ≡ Some y
item_at xs i y h e = slice_get-get_or xs i y h ∙ ap Some (sym e)

pub nodes_checked : (xs : List TypeNode) (i : ℕ) → length xs ≤ i → Before IsNodeAt xs i → (p : ℕ) (x : TypeNode)
    → p < length xs → slice_get xs p ≡ Some x → IsNodeAt p x
nodes_checked xs i h before p x k e = before p x (omega (arith, h, k)) e

-- texts that aren't one are told apart
pub texts_differ : (l m : List ℕ) (r : Bool) → (r ≡ true → l ≡ m) × (l ≡ m → r ≡ true) → not r ≡ true
    → same_text l m ≡ false
texts_differ l m true one e = absurd (cc)
texts_differ l m false one e = either_way (same_text l m)
    (λ k. let no : false ≡ true = one.1 (text_is l m k) in absurd (cc)) (λ k. k)

-- fewer than two labels rise
pub short_rises : (ls : List (List ℕ)) → length ls < 2 → AreRising ls
short_rises [] h = tt
short_rises (l ∷ []) h = tt
short_rises (l ∷ m ∷ ls) h = absurd (omega (arith, h))

-- ---- variables of a scheme

parts_bind : (k n : ℕ) (made : List Tree) → ((p : ℕ) → p < n → BindsBelow k (get_or made p nowhere))
    → (ps : List ℕ) → AreBelow n ps → (i : ℕ) → binds_any i (trees_of (trees_at made ps)) ≡ true → i < k
parts_bind k n made h [] below i e = absurd (cc)
parts_bind k n made h (p ∷ ps) below i e =
    or_either (binds i (get_or made p nowhere)) (binds_any i (trees_of (trees_at made ps))) e (h p below.0 i)
    (parts_bind k n made h ps below.1 i)

node_binds : (k n : ℕ) (made : List Tree) (x : TypeNode) → ((p : ℕ) → p < n → BindsBelow k (get_or made p nowhere))
    → IsNodeAt n x → NodeBinds k x → BindsBelow k (node_tree made x)
node_binds k n made (node.Bound j) h at b i e = subst (λ z. z < k) (sym (eqb-true i j e)) b
node_binds k n made (node.Free v) h at b i e = absurd (cc)
node_binds k n made (node.Made c ps) h at b i e = parts_bind k n made h ps at.0.below i e

trees_bind : (k : ℕ) (xs : List TypeNode) → AreNodes xs → Before (λ p x. NodeBinds k x) xs (length xs)
    → (n p : ℕ) → p < n → p < length xs → BindsBelow k (tree_at xs p)
trees_bind k xs nodes each zero p h l = absurd (omega (arith, h))
trees_bind k xs nodes each (suc n) p h l =
    let x : TypeNode = get_or xs p (node.Bound 0) in
    let e : slice_get xs p ≡ Some x = slice_get-get_or xs p (node.Bound 0) l in
    subst (BindsBelow k) (sym (noted xs p x nodes e))
    (node_binds k p (unfolded xs) x
    (λ q m. trees_bind k xs nodes each n q (omega (arith, h, m)) (omega (arith, l, m))) (nodes.each p x e)
    (each p x l e))

pub tree_binds : (k i : ℕ) (xs : List TypeNode) (t : Tree) → AreTree xs → length xs ≤ i
    → Before (λ p x. NodeBinds k x) xs i → root xs ≡ t → BindsBelow k t
tree_binds k i xs t h l each e =
    let some : 0 < length xs = h.some in
    subst (BindsBelow k) e (trees_bind k xs h.nodes (λ p x m f. each p x (omega (arith, l, m)) f) (length xs)
    (length xs - 1) (omega (arith, some)) (omega (arith, some)))
