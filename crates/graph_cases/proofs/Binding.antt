-- Where each node's variable is among the first, so are all variables of the tree.
use Rattle.std.proofs.Common.{◌≡◌, ℕ, zero, suc, ◌+◌, ◌-◌, ◌<◌, ◌≤◌, refl, sym, ap, ◌∙◌, subst, arith, Some, List, [], ◌∷◌, ◌++◌, length, drop, get_or, Bool, true, false, ◌||◌}
use Rattle.std.specs.Prelude.{slice_get}
use Rattle.std.proofs.lemmas.Bool.{eqb-true}
use Rattle.std.proofs.lemmas.List.{length-append}
use Rattle.semantic_objects.specs.declared.node.TypeNode.{TypeNode}
use Rattle.semantic_objects.specs.declared.node.TypeNode.TheVariants as node
use Rattle.semantic_objects.specs.Trees.{Tree, trees_of, binds, binds_any, BindsBelow}
use Rattle.semantic_objects.specs.Nodes.{nowhere, trees_at, node_tree, unfolded_after, unfolded, root, AreBelow, IsNodeAt, AreTree}
use Rattle.semantic_objects.proofs.Unfolding.{length-unfolded}
use Rattle.graph_cases.specs.Below.{IsNodeBelow, AreNodesBelow}

-- every tree of a list is below
abbrev AllBelow : ℕ → List Tree → Type 0
AllBelow k [] = Unit {0}
AllBelow k (t ∷ ts) = BindsBelow k t × AllBelow k ts

or_either : (C : Type 0) (a b : Bool) → (a || b) ≡ true → (a ≡ true → C) → (b ≡ true → C) → C
or_either C true b h f g = f refl
or_either C false b h f g = g h

any_below : (k : ℕ) (ts : List Tree) → AllBelow k ts → (i : ℕ) → binds_any i (trees_of ts) ≡ true → i < k
any_below k [] h i e = absurd (cc)
any_below k (t ∷ ts) h i e =
    or_either (i < k) (binds i t) (binds_any i (trees_of ts)) e (h.0 i) (λ d. any_below k ts h.1 i d)

at_below : (k : ℕ) (ts : List Tree) (p : ℕ) → AllBelow k ts → p < length ts → BindsBelow k (get_or ts p nowhere)
at_below k [] p h l = absurd (omega (arith, l))
at_below k (t ∷ ts) zero h l = h.0
at_below k (t ∷ ts) (suc p) h l = at_below k ts p h.1 (omega (arith, l))

places_below : (k : ℕ) (ts : List Tree) (n : ℕ) (ps : List ℕ) → AllBelow k ts → n ≡ length ts → AreBelow n ps
    → AllBelow k (trees_at ts ps)
places_below k ts n [] h e l = tt
places_below k ts n (p ∷ ps) h e l =
    (at_below k ts p h (subst (λ z. p < z) e l.0), places_below k ts n ps h e l.1)

node_below : (k : ℕ) (ts : List Tree) (n : ℕ) (x : TypeNode) → AllBelow k ts → n ≡ length ts → IsNodeAt n x
    → IsNodeBelow k x → BindsBelow k (node_tree ts x)
node_below k ts n (node.Bound j) h e a b i d = subst (λ z. z < k) (sym (eqb-true i j d)) b
node_below k ts n (node.Free v) h e a b i d = absurd (cc)
node_below k ts n (node.Made c ps) h e a b i d =
    any_below k (trees_at ts ps) (places_below k ts n ps h e a.0.below) i d

push_below : (k : ℕ) (ts : List Tree) (t : Tree) → AllBelow k ts → BindsBelow k t → AllBelow k (ts ++ t ∷ [])
push_below k [] t h b = (b, tt)
push_below k (x ∷ xs) t h b = (h.0, push_below k xs t h.1 b)

unfolded_below : (k : ℕ) (ts : List Tree) (n : ℕ) (xs : List TypeNode) → AllBelow k ts → n ≡ length ts
    → ((p : ℕ) (x : TypeNode) → slice_get xs p ≡ Some x → IsNodeAt (n + p) x) → AreNodesBelow k xs
    → AllBelow k (unfolded_after ts xs)
unfolded_below k ts n [] h e a b = h
unfolded_below k ts n (x ∷ xs) h e a b =
    let z : n + 0 ≡ n = omega arith in
    let l : length (ts ++ node_tree ts x ∷ []) ≡ length ts + 1 = length-append ts (node_tree ts x ∷ []) in
    unfolded_below k (ts ++ node_tree ts x ∷ []) (n + 1) xs
    (push_below k ts (node_tree ts x) h
    (node_below k ts n x h e (subst (λ m. IsNodeAt m x) z (a 0 x refl)) b.0))
    (omega (arith, e, l))
    (λ p y s. let w : n + suc p ≡ n + 1 + p = omega arith in subst (λ m. IsNodeAt m y) w (a (suc p) y s))
    b.1

drop_next : {A : Type 0} (k : ℕ) (xs : List A) (d : A) → k < length xs → drop k xs ≡ get_or xs k d ∷ drop (k + 1) xs
drop_next zero [] d h = absurd (omega (arith, h))
drop_next zero (x ∷ xs) d h = refl
drop_next (suc k) [] d h = absurd (omega (arith, h))
drop_next (suc k) (x ∷ xs) d h =
    let e : suc k + 1 ≡ suc (k + 1) = omega arith in
    drop_next k xs d (omega (arith, h)) ∙ ap (λ n. get_or xs k d ∷ drop n (x ∷ xs)) (sym e)

drop_past : {A : Type 0} (k : ℕ) (xs : List A) → length xs ≤ k → drop k xs ≡ []
drop_past zero [] h = refl
drop_past zero (x ∷ xs) h = absurd (omega (arith, h))
drop_past (suc k) [] h = refl
drop_past (suc k) (x ∷ xs) h = drop_past k xs (omega (arith, h))

-- one node more, and the last one
pub below_next : (count k : ℕ) (xs : List TypeNode) (x : TypeNode) → k < length xs → x ≡ get_or xs k x
    → IsNodeBelow count x → (AreNodesBelow count (drop k xs) → AreNodesBelow count xs)
    → AreNodesBelow count (drop (k + 1) xs) → AreNodesBelow count xs
below_next count k xs x l e b f rest = f (subst (AreNodesBelow count)
    (sym (drop_next k xs x l ∙ ap (λ z. z ∷ drop (k + 1) xs) (sym e))) (b, rest))

pub root_below : (count k : ℕ) (xs : List TypeNode) (t : Tree) → AreTree xs → root xs ≡ t → length xs ≤ k
    → (AreNodesBelow count (drop k xs) → AreNodesBelow count xs) → BindsBelow count t
root_below count k xs t h e past f =
    let b : AreNodesBelow count xs = f (subst (AreNodesBelow count) (sym (drop_past k xs past)) tt) in
    let z : (p : ℕ) (x : TypeNode) → slice_get xs p ≡ Some x → IsNodeAt (0 + p) x =
    λ p x s. let w : p ≡ 0 + p = omega arith in subst (λ m. IsNodeAt m x) w (h.nodes.each p x s) in
    let l : length (unfolded xs) ≡ 0 + length xs = length-unfolded [] xs in
    let some : 0 < length xs = h.some in
    subst (BindsBelow count) e (at_below count (unfolded xs) (length xs - 1)
    (unfolded_below count [] 0 xs tt refl z b) (omega (arith, l, some)))
