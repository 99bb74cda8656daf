-- Names in the place of variables: what is compared with them is what was compared without them.
use Rattle.std.proofs.Common.{◌≡◌, ℕ, zero, suc, ◌+◌, ◌-◌, ◌<◌, refl, sym, ap, ap₂, ◌∙◌, subst, List, [], ◌∷◌, ◌++◌, length, map, get_or, Option, Some, None, Bool, true, false, ◌&&◌, ◌||◌, eqb, arith, length-append}
use Rattle.std.specs.Prelude.{slice_get, Result, Ok, Err, IfOk}
use Rattle.std.specs.Option.{option_map}
use Rattle.std.proofs.lemmas.Bool.{eqb-false, eqb-true, eq-eqb, ne_eqb}
use Rattle.std.proofs.lemmas.List.{map-append, get_or-map, length-map}
use Rattle.std.proofs.lemmas.Option.{slice_get-map}
use Rattle.semantic_objects.specs.declared.name.Owner.TheVariants as owner
use Rattle.semantic_objects.specs.declared.symbol.Symbol.{Symbol}
use Rattle.semantic_objects.specs.declared.symbol.Symbol.TheVariants as symbol
use Rattle.semantic_objects.specs.declared.node.TypeNode.{TypeNode}
use Rattle.semantic_objects.specs.declared.node.TypeNode.TheVariants as node
use Rattle.semantic_objects.specs.Symbols.{same_owner, same_bool, same_symbol}
use Rattle.semantic_objects.specs.Trees.{Tree, Trees, trees_of}
use Rattle.semantic_objects.specs.Nodes.{nowhere, trees_at, node_tree, unfolded_after, unfolded, root, AreBelow, IsNodeAt, AreTree}
use Rattle.semantic_objects.proofs.Unfolding.{trees_of_nodes}
use Rattle.env_parts.specs.Types.{holds_free, any_holds_free}
use Rattle.unification.specs.Generality.{same_tree, same_trees}
use Rattle.unification.proofs.Walking.{either_way}
use Rattle.variable_names.specs.declared.names.TheConstants.{FIRST}
use Rattle.variable_names.specs.Named.{name_of, named, all_named, named_node, IsApartSymbol, IsApartNode, AreApartNodes, IsApart, AreApart}

-- ---- nodes that stand at their places from one on

abbrev StandFrom : ℕ → List TypeNode → Type 0
StandFrom n [] = Unit {0}
StandFrom n (x ∷ xs) = IsNodeAt n x × StandFrom (suc n) xs

stand_from : (n : ℕ) (xs : List TypeNode) → ((p : ℕ) (x : TypeNode) → slice_get xs p ≡ Some x → IsNodeAt (n + p) x)
    → StandFrom n xs
stand_from n [] h = tt
stand_from n (x ∷ xs) h = (
  subst (λ k. IsNodeAt k x) (let k : n + 0 ≡ n = omega arith in k) (h 0 x refl),
  stand_from (suc n) xs (λ p y e. subst (λ k. IsNodeAt k y) (let k : n + suc p ≡ suc n + p = omega arith in k)
      (h (suc p) y e)),
)

-- ---- trees with names in them

trees_named : (ts : List Tree) → trees_of (map named ts) ≡ all_named (trees_of ts)
trees_named [] = refl
trees_named (t ∷ ts) = ap (Trees.Cons (named t)) (trees_named ts)

places_named : (trees : List Tree) (ps : List ℕ) → AreBelow (length trees) ps
    → trees_at (map named trees) ps ≡ map named (trees_at trees ps)
places_named trees [] h = refl
places_named trees (p ∷ ps) h =
    ap₂ (λ x xs. x ∷ xs) (get_or-map named trees p nowhere nowhere h.0) (places_named trees ps h.1)

node_named : (trees : List Tree) (x : TypeNode) → IsNodeAt (length trees) x
    → node_tree (map named trees) (named_node x) ≡ named (node_tree trees x)
node_named trees (node.Bound i) h = refl
node_named trees (node.Free n) h = refl
node_named trees (node.Made c places) h =
    ap (λ ts. Tree.Made c (trees_of ts)) (places_named trees places h.0.below)
    ∙ ap (Tree.Made c) (trees_named (trees_at trees places))

unfolds_named : (trees : List Tree) (xs : List TypeNode) → StandFrom (length trees) xs
    → unfolded_after (map named trees) (map named_node xs) ≡ map named (unfolded_after trees xs)
unfolds_named trees [] h = refl
unfolds_named trees (x ∷ xs) h =
    let t : Tree = node_tree trees x in
    ap (λ y. unfolded_after (map named trees ++ y ∷ []) (map named_node xs)) (node_named trees x h.0)
    ∙ ap (λ ts. unfolded_after ts (map named_node xs)) (sym (map-append named trees (t ∷ [])))
    ∙ unfolds_named (trees ++ t ∷ []) xs (subst (λ n. StandFrom n xs)
    (let l : length (trees ++ t ∷ []) ≡ length trees + 1 = length-append trees (t ∷ []) in
    let k : suc (length trees) ≡ length (trees ++ t ∷ []) = omega (arith, l) in k) h.1)

pub root_named : (nodes : List TypeNode) → AreTree nodes → root (map named_node nodes) ≡ named (root nodes)
root_named nodes h =
    let count : length (unfolded nodes) ≡ length nodes = trees_of_nodes nodes in
    let some : 0 < length nodes = h.some in
    ap (λ n. get_or (unfolded (map named_node nodes)) (n - 1) nowhere) (length-map nodes named_node)
    ∙ ap (λ ts. get_or ts (length nodes - 1) nowhere) (unfolds_named [] nodes (stand_from 0 nodes
    (λ p x e. subst (λ k. IsNodeAt k x) (let k : p ≡ 0 + p = omega arith in k) (h.nodes.each p x e))))
    ∙ get_or-map named (unfolded nodes) (length nodes - 1) nowhere nowhere (omega (arith, count, some))

stays_node : (p : ℕ) (x : TypeNode) → IsNodeAt p x → IsNodeAt p (named_node x)
stays_node p (node.Bound i) h = (record { below = tt; counted = refl }, tt)
stays_node p (node.Free n) h = tt
stays_node p (node.Made c places) h = h

pub tree_named : (nodes : List TypeNode) → AreTree nodes → AreTree (map named_node nodes)
tree_named nodes h = record {
  nodes = record {
    each = λ p x e. at p x (slice_get nodes p) refl (sym (slice_get-map named_node nodes p) ∙ e);
  };
  some = let l : length (map named_node nodes) ≡ length nodes = length-map nodes named_node in
      let k : 0 < length nodes = h.some in omega (arith, k, l);
}
  where
    at : (p : ℕ) (x : TypeNode) (o : Option TypeNode) → slice_get nodes p ≡ o → option_map named_node o ≡ Some x
        → IsNodeAt p x
    at p x None e k = absurd (cc)
    at p x (Some y) e k =
        let is : named_node y ≡ x = cc in
        subst (IsNodeAt p) is (stays_node p y (h.nodes.each p y e))

-- ---- trees apart from these names

abbrev AllApart : List Tree → Type 0
AllApart [] = Unit {0}
AllApart (t ∷ ts) = IsApart t × AllApart ts

apart_at : (trees : List Tree) (p : ℕ) → AllApart trees → IsApart (get_or trees p nowhere)
apart_at [] p h = tt
apart_at (t ∷ ts) zero h = h.0
apart_at (t ∷ ts) (suc p) h = apart_at ts p h.1

parts_apart : (trees : List Tree) (ps : List ℕ) → AllApart trees → AreApart (trees_of (trees_at trees ps))
parts_apart trees [] h = tt
parts_apart trees (p ∷ ps) h = (apart_at trees p h, parts_apart trees ps h)

node_apart : (trees : List Tree) (x : TypeNode) → AllApart trees → IsApartNode x → IsApart (node_tree trees x)
node_apart trees (node.Bound i) h k = tt
node_apart trees (node.Free n) h k = tt
node_apart trees (node.Made c places) h k = (k, parts_apart trees places h)

one_more : (trees : List Tree) (t : Tree) → AllApart trees → IsApart t → AllApart (trees ++ t ∷ [])
one_more [] t h k = (k, tt)
one_more (x ∷ xs) t h k = (h.0, one_more xs t h.1 k)

unfolds_apart : (trees : List Tree) (xs : List TypeNode) → AllApart trees → AreApartNodes xs
    → AllApart (unfolded_after trees xs)
unfolds_apart trees [] h k = h
unfolds_apart trees (x ∷ xs) h k = unfolds_apart (trees ++ node_tree trees x ∷ []) xs
    (one_more trees (node_tree trees x) h (node_apart trees x h k.0)) k.1

pub root_apart : (nodes : List TypeNode) → AreApartNodes nodes → IsApart (root nodes)
root_apart nodes h = apart_at (unfolded nodes) (length nodes - 1) (unfolds_apart [] nodes tt h)

-- ---- comparing

pub eqb_shift : (first i j : ℕ) → eqb (first + i) (first + j) ≡ eqb i j
eqb_shift first i j = either_way (eqb i j)
    (λ h. (let e : i ≡ j = eqb-true i j h in eq-eqb (first + i) (first + j) (ap (λ n. first + n) e) ∙ sym h))
    (λ h. (let e : i ≡ j → ⊥ = eqb-false i j h in
    ne_eqb (first + i) (first + j) (λ k. e (let l : i ≡ j = omega (arith, k) in l)) ∙ sym h))

and_true : (b : Bool) → ((b && (true && true)) && true) ≡ b
and_true true = refl
and_true false = refl

variables_same : (i j : ℕ) → same_tree (named (Tree.Bound i)) (named (Tree.Bound j)) ≡ eqb i j
variables_same i j = and_true (eqb (FIRST + i) (FIRST + j)) ∙ eqb_shift FIRST i j

number_apart : (first i n : ℕ) → n < first → eqb (first + i) n ≡ false
number_apart first i n h = ne_eqb (first + i) n (λ e. absurd (omega (arith, h, e)))

number_before : (first i n : ℕ) → n < first → eqb n (first + i) ≡ false
number_before first i n h = ne_eqb n (first + i) (λ e. absurd (omega (arith, h, e)))

and_false : (a b c : Bool) → b ≡ false → (a && (b && c)) ≡ false
and_false true b c h = ap (λ z. z && c) h
and_false false b c h = refl

symbol_after : (i : ℕ) (c : Symbol) → IsApartSymbol c → same_symbol (symbol.Name (name_of i)) c ≡ false
symbol_after i symbol.Arrow h = refl
symbol_after i (symbol.Record labels) h = refl
symbol_after i (symbol.Name name) h =
    and_false (same_owner owner.Basis name.owner) (eqb (FIRST + i) name.number)
    (eqb 0 name.arity && same_bool false name.eq) (number_apart FIRST i name.number h)

symbol_before : (i : ℕ) (c : Symbol) → IsApartSymbol c → same_symbol c (symbol.Name (name_of i)) ≡ false
symbol_before i symbol.Arrow h = refl
symbol_before i (symbol.Record labels) h = refl
symbol_before i (symbol.Name name) h =
    and_false (same_owner name.owner owner.Basis) (eqb name.number (FIRST + i))
    (eqb name.arity 0 && same_bool name.eq false) (number_before FIRST i name.number h)

mutual
  pub named_same : (x y : Tree) → IsApart x → IsApart y → same_tree (named x) (named y) ≡ same_tree x y
  named_same (Tree.Bound i) (Tree.Bound j) h k = variables_same i j
  named_same (Tree.Bound i) (Tree.Free n) h k = refl
  named_same (Tree.Bound i) (Tree.Made d ys) h k = ap (λ b. b && same_trees Trees.Nil (all_named ys)) (symbol_after i d k.0)
  named_same (Tree.Free n) (Tree.Bound j) h k = refl
  named_same (Tree.Free n) (Tree.Free m) h k = refl
  named_same (Tree.Free n) (Tree.Made d ys) h k = refl
  named_same (Tree.Made c xs) (Tree.Bound j) h k = ap (λ b. b && same_trees (all_named xs) Trees.Nil) (symbol_before j c h.0)
  named_same (Tree.Made c xs) (Tree.Free n) h k = refl
  named_same (Tree.Made c xs) (Tree.Made d ys) h k = ap (λ b. same_symbol c d && b) (all_named_same xs ys h.1 k.1)

  all_named_same : (xs ys : Trees) → AreApart xs → AreApart ys → same_trees (all_named xs) (all_named ys) ≡ same_trees xs ys
  all_named_same Trees.Nil Trees.Nil h k = refl
  all_named_same Trees.Nil (Trees.Cons y ys) h k = refl
  all_named_same (Trees.Cons x xs) Trees.Nil h k = refl
  all_named_same (Trees.Cons x xs) (Trees.Cons y ys) h k =
      ap₂ (λ a b. a && b) (named_same x y h.0 k.0) (all_named_same xs ys h.1 k.1)

-- no variable of a table comes in
mutual
  pub free_named : (x : Tree) → holds_free (named x) ≡ holds_free x
  free_named (Tree.Bound i) = refl
  free_named (Tree.Free n) = refl
  free_named (Tree.Made c xs) = any_free_named xs

  any_free_named : (xs : Trees) → any_holds_free (all_named xs) ≡ any_holds_free xs
  any_free_named Trees.Nil = refl
  any_free_named (Trees.Cons x xs) = ap₂ (λ a b. a || b) (free_named x) (any_free_named xs)

pub closed_named : (body x : Tree) → body ≡ named x → holds_free x ≡ false → holds_free body ≡ false
closed_named body x e h = ap holds_free e ∙ free_named x ∙ h

-- what comparing them answers
pub answers_named : {E : Type 0} (r : Result Bool E) (this that x y : Tree) → this ≡ named x → that ≡ named y
    → IsApart x → IsApart y → IfOk r (λ b. b ≡ same_tree this that) → IfOk r (λ b. b ≡ same_tree x y)
answers_named (Ok b) this that x y e f h k l = l ∙ ap₂ same_tree e f ∙ named_same x y h k
answers_named (Err z) this that x y e f h k l = l
