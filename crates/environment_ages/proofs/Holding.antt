-- The variables in a type, node by node.
use Rattle.std.proofs.Common.{◌≡◌, ℕ, suc, ◌+◌, ◌-◌, ◌<◌, ◌≤◌, refl, sym, ap, ap₂, ◌∙◌, subst, arith, Option, Some, None, drop, List, [], ◌∷◌, ◌++◌, length, map, get_or, Bool, true, false, ◌&&◌}
use Rattle.std.specs.Prelude.{◌↔◌, slice_get}
use Rattle.std.proofs.lemmas.Bool.{eqb-true, eq-eqb, ltb-true, lt-ltb}
use Rattle.std.proofs.lemmas.List.{length-append}
use Rattle.std.proofs.Math.Seq.{get_or-append_seam}
use Rattle.semantic_objects.specs.declared.node.TypeNode.{TypeNode}
use Rattle.semantic_objects.specs.declared.node.TypeNode.TheVariants as node
use Rattle.semantic_objects.specs.declared.entry.TypeFn.{TypeFn}
use Rattle.semantic_objects.specs.declared.entry.ConEntry.{ConEntry}
use Rattle.semantic_objects.specs.Trees.{Tree, Trees, TypeScheme, trees_of, binds, binds_any, frees, frees_any}
use Rattle.semantic_objects.specs.Nodes.{nowhere, trees_at, node_tree, unfolded_after, unfolded, root}
use Rattle.semantic_objects.proofs.Unfolding.{length-unfolded}
use Rattle.unification.proofs.Walking.{or_left, or_right, or_either, and_left, and_right, and_both, not_both}
use Rattle.env_parts.proofs.Facting.{get_or_map}
use Rattle.env_parts.proofs.Tabling.{got, drop_next, drop_past}
use Rattle.static_semantics.specs.Holding.{AllItems, ConHas}
use Rattle.environment_ages.specs.declared.trees.Limits.{Limits}
use Rattle.environment_ages.specs.Below.{SchemeBelow, FunctionBelow}
use Rattle.environment_ages.specs.TypeSteps.{allows, holds, all_hold, all_at, node_holds}

-- ---- what an answer says

mutual
  own_of : (l : Limits) (t : Tree) (i : ℕ) → holds l t ≡ true → binds i t ≡ true → allows l.own i ≡ true
  own_of l (Tree.Bound j) i h e = subst (λ z. allows l.own z ≡ true) (sym (eqb-true i j e)) h
  own_of l (Tree.Free n) i h e = absurd (cc)
  own_of l (Tree.Made c ts) i h e = owns_of l ts i h e

  owns_of : (l : Limits) (ts : Trees) (i : ℕ) → all_hold l ts ≡ true → binds_any i ts ≡ true → allows l.own i ≡ true
  owns_of l Trees.Nil i h e = absurd (cc)
  owns_of l (Trees.Cons t ts) i h e = or_either (binds i t) (binds_any i ts) e
      (own_of l t i (and_left (holds l t) (all_hold l ts) h))
      (owns_of l ts i (and_right (holds l t) (all_hold l ts) h))

mutual
  free_of : (l : Limits) (t : Tree) (v : ℕ) → holds l t ≡ true → frees v t ≡ true → v < l.free
  free_of l (Tree.Bound j) v h e = absurd (cc)
  free_of l (Tree.Free n) v h e = subst (λ z. z < l.free) (sym (eqb-true v n e)) (ltb-true n l.free h)
  free_of l (Tree.Made c ts) v h e = frees_of l ts v h e

  frees_of : (l : Limits) (ts : Trees) (v : ℕ) → all_hold l ts ≡ true → frees_any v ts ≡ true → v < l.free
  frees_of l Trees.Nil v h e = absurd (cc)
  frees_of l (Trees.Cons t ts) v h e = or_either (frees v t) (frees_any v ts) e
      (free_of l t v (and_left (holds l t) (all_hold l ts) h))
      (frees_of l ts v (and_right (holds l t) (all_hold l ts) h))

mutual
  holds_of : (l : Limits) (t : Tree) → ((i : ℕ) → binds i t ≡ true → allows l.own i ≡ true)
      → ((v : ℕ) → frees v t ≡ true → v < l.free) → holds l t ≡ true
  holds_of l (Tree.Bound j) h k = h j (eq-eqb j j refl)
  holds_of l (Tree.Free n) h k = lt-ltb n l.free (k n (eq-eqb n n refl))
  holds_of l (Tree.Made c ts) h k = hold_of l ts h k

  hold_of : (l : Limits) (ts : Trees) → ((i : ℕ) → binds_any i ts ≡ true → allows l.own i ≡ true)
      → ((v : ℕ) → frees_any v ts ≡ true → v < l.free) → all_hold l ts ≡ true
  hold_of l Trees.Nil h k = refl
  hold_of l (Trees.Cons t ts) h k = and_both (holds l t) (all_hold l ts)
      (holds_of l t (λ i e. h i (or_left (binds i t) (binds_any i ts) e))
      (λ v e. k v (or_left (frees v t) (frees_any v ts) e)))
      (hold_of l ts (λ i e. h i (or_right (binds i t) (binds_any i ts) e))
      (λ v e. k v (or_right (frees v t) (frees_any v ts) e)))

abbrev limits : Option ℕ → ℕ → Limits
limits own free = record { own = own; free = free }

pub scheme_is : (n m : ℕ) (σ : TypeScheme) (body : Tree) (b : Bool) → m ≡ length σ.marks → body ≡ σ.body
    → b ≡ holds (limits (Some m) n) body → (b ≡ true) ↔ SchemeBelow n σ
scheme_is n m σ body b e f h =
    let k : b ≡ holds (limits (Some (length σ.marks)) n) σ.body =
    h ∙ ap₂ (λ x t. holds (limits (Some x) n) t) e f in (
      λ is. let i : holds (limits (Some (length σ.marks)) n) σ.body ≡ true = sym k ∙ is in
          record {
            closed = λ j bound. ltb-true j (length σ.marks) (own_of (limits (Some (length σ.marks)) n) σ.body j i bound);
            below = λ v free. free_of (limits (Some (length σ.marks)) n) σ.body v i free;
          },
      λ is. k ∙ holds_of (limits (Some (length σ.marks)) n) σ.body
          (λ j bound. lt-ltb j (length σ.marks) (is.closed j bound)) is.below,
    )

pub function_is : (n : ℕ) (function : TypeFn) (b : Bool) → b ≡ holds (limits None n) function.body
    → (b ≡ true) ↔ FunctionBelow n function
function_is n function b h = (
  λ is v free. free_of (limits None n) function.body v (sym h ∙ is) free,
  λ is. h ∙ holds_of (limits None n) function.body (λ j bound. refl) is,
)

-- ---- node by node

at_is : (l : Limits) (made : List Tree) (ps : List ℕ)
    → all_at (holds l nowhere) (map (holds l) made) ps ≡ all_hold l (trees_of (trees_at made ps))
at_is l made [] = refl
at_is l made (p ∷ ps) = ap₂ (λ a b. a && b) (get_or_map (holds l) made p nowhere) (at_is l made ps)

node_is : (l : Limits) (made : List Tree) (x : TypeNode)
    → node_holds l (map (holds l) made) x ≡ holds l (node_tree made x)
node_is l made (node.Bound i) = refl
node_is l made (node.Free n) = refl
node_is l made (node.Made c ps) = at_is l made ps

-- the answers for nodes in their order
abbrev pub held_after : Limits → List Bool → List TypeNode → List Bool
held_after l held [] = held
held_after l held (x ∷ xs) = held_after l (held ++ node_holds l held x ∷ []) xs

map_more : (l : Limits) (made : List Tree) (t : Tree) → map (holds l) (made ++ t ∷ []) ≡ map (holds l) made ++ holds l t ∷ []
map_more l [] t = refl
map_more l (x ∷ xs) t = ap (λ z. holds l x ∷ z) (map_more l xs t)

held_is : (l : Limits) (made : List Tree) (xs : List TypeNode)
    → held_after l (map (holds l) made) xs ≡ map (holds l) (unfolded_after made xs)
held_is l made [] = refl
held_is l made (x ∷ xs) =
    ap (λ z. held_after l z xs) (ap (λ b. map (holds l) made ++ b ∷ []) (node_is l made x)
    ∙ sym (map_more l made (node_tree made x)))
    ∙ held_is l (made ++ node_tree made x ∷ []) xs

length_map : {A B : Type 0} (f : A → B) (xs : List A) → length (map f xs) ≡ length xs
length_map f [] = refl
length_map f (x ∷ xs) = ap suc (length_map f xs)

last_is : (l : Limits) (front : List Bool) (last : Bool) (xs : List TypeNode)
    → front ++ last ∷ [] ≡ map (holds l) (unfolded xs) → last ≡ holds l (root xs)
last_is l front last xs h =
    let a : length (front ++ last ∷ []) ≡ length front + 1 = length-append front (last ∷ []) in
    let b : length (front ++ last ∷ []) ≡ length (unfolded xs) = ap length h ∙ length_map (holds l) (unfolded xs) in
    let c : length (unfolded xs) ≡ 0 + length xs = length-unfolded [] xs in
    let d : length front ≡ length xs - 1 = omega (arith, a, b, c) in
    sym (get_or-append_seam front last [] (holds l nowhere))
    ∙ ap (λ z. get_or z (length front) (holds l nowhere)) h
    ∙ get_or_map (holds l) (unfolded xs) (length front) nowhere
    ∙ ap (λ n. holds l (get_or (unfolded xs) n nowhere)) d

-- the last answer is that for the whole type
pub tree_done : (l : Limits) (held front : List Bool) (last : Bool) (xs : List TypeNode) (k : ℕ) (t : Tree)
    → held_after l held (drop k xs) ≡ held_after l [] xs → length xs ≤ k → held ≡ front ++ last ∷ [] → root xs ≡ t
    → last ≡ holds l t
tree_done l held front last xs k t i n e r =
    last_is l front last xs (sym e ∙ ap (held_after l held) (sym (drop_past k xs n)) ∙ i ∙ held_is l [] xs)
    ∙ ap (holds l) r

-- ---- the parts of a node

-- no part so far has the answer no
abbrev pub AllSoFar : List Bool → List ℕ → ℕ → Type 0
AllSoFar held places k = (other : Bool) → all_at other held (drop k places) ≡ all_at other held places

part_at : (other : Bool) (held : List Bool) (ps items : List ℕ) (k : ℕ) (part : Bool) → items ≡ ps → k < length items
    → Some part ≡ slice_get held (get_or items k 0)
    → all_at other held (drop k ps) ≡ (part && all_at other held (drop (k + 1) ps))
part_at other held ps items k part e l h =
    let l' : k < length ps = subst (λ z. k < length z) e l in
    let h' : Some part ≡ slice_get held (get_or ps k 0) = subst (λ z. Some part ≡ slice_get held (get_or z k 0)) e h in
    ap (all_at other held) (drop_next k ps 0 l')
    ∙ ap (λ b. b && all_at other held (drop (k + 1) ps)) (got held (get_or ps k 0) part other h')

pub part_next : (held : List Bool) (ps items : List ℕ) (k : ℕ) (part : Bool) → items ≡ ps → k < length items
    → Some part ≡ slice_get held (get_or items k 0) → part ≡ true → AllSoFar held ps k → AllSoFar held ps (k + 1)
part_next held ps items k part e l h t i other =
    sym (part_at other held ps items k part e l h
    ∙ ap (λ b. b && all_at other held (drop (k + 1) ps)) t) ∙ i other

pub part_fails : (held : List Bool) (ps items : List ℕ) (k : ℕ) (part : Bool) → items ≡ ps → k < length items
    → Some part ≡ slice_get held (get_or items k 0) → part ≡ false → AllSoFar held ps k
    → (other : Bool) → false ≡ all_at other held ps
part_fails held ps items k part e l h f i other =
    sym (sym (i other) ∙ part_at other held ps items k part e l h
    ∙ ap (λ b. b && all_at other held (drop (k + 1) ps)) f)

pub parts_done : (held : List Bool) (ps items : List ℕ) (k : ℕ) → items ≡ ps → length items ≤ k → AllSoFar held ps k
    → (other : Bool) → true ≡ all_at other held ps
parts_done held ps items k e l i other =
    sym (ap (all_at other held) (drop_past k ps (subst (λ (z : List ℕ). length z ≤ k) e l))) ∙ i other

-- ---- constructors

abbrev pub ConsBelow : ℕ → List ConEntry → Type 0
ConsBelow n cons = AllItems (ConHas (SchemeBelow n)) cons

pub con_next : (n : ℕ) (rest more all : List ConEntry) (con : ConEntry) (b : Bool) → rest ≡ con ∷ more
    → (b ≡ true) ↔ SchemeBelow n con.scheme → b ≡ true → ConsBelow n rest ↔ ConsBelow n all
    → ConsBelow n more ↔ ConsBelow n all
con_next n rest more all con b e s t h = (
  λ k. h.0 (subst (ConsBelow n) (sym e) (s.0 t, k)),
  λ k. (subst (ConsBelow n) e (h.1 k)).1,
)

pub con_fails : (n : ℕ) (rest more all : List ConEntry) (con : ConEntry) (b : Bool) → rest ≡ con ∷ more
    → (b ≡ true) ↔ SchemeBelow n con.scheme → b ≡ false → ConsBelow n rest ↔ ConsBelow n all
    → (false ≡ true) ↔ ConsBelow n all
con_fails n rest more all con b e s f h = (
  λ k. absurd (cc),
  λ k. absurd (not_both b f (s.1 (subst (ConsBelow n) e (h.1 k)).0)),
)

pub cons_end : (n : ℕ) (all items : List ConEntry) (k : ℕ) → items ≡ all → length items ≤ k
    → ConsBelow n (drop k all) ↔ ConsBelow n all → (true ≡ true) ↔ ConsBelow n all
cons_end n all items k e l h = (
  λ t. h.0 (subst (ConsBelow n) (sym (drop_past k all (subst (λ (z : List ConEntry). length z ≤ k) e l))) tt),
  λ t. refl,
)
