-- What may stand in a type, node by node.
use Rattle.std.proofs.Common.{◌≡◌, ℕ, suc, ◌+◌, ◌-◌, ◌<◌, ◌≤◌, refl, sym, ap, ap₂, ◌∙◌, subst, arith, Option, Some, None, drop, List, [], ◌∷◌, ◌++◌, length, map, get_or, Bool, true, false, ◌&&◌, ◌||◌, ltb, eqb}
use Rattle.std.specs.Prelude.{◌↔◌, slice_get}
use Rattle.std.proofs.lemmas.Bool.{eqb-true, eq-eqb, ltb-true, lt-ltb}
use Rattle.std.proofs.lemmas.List.{length-append}
use Rattle.std.proofs.Math.Seq.{get_or-append_seam}
use Rattle.semantic_objects.specs.declared.node.TypeNode.{TypeNode}
use Rattle.semantic_objects.specs.declared.node.TypeNode.TheVariants as node
use Rattle.semantic_objects.specs.declared.symbol.Symbol.{Symbol}
use Rattle.semantic_objects.specs.declared.symbol.Symbol.TheVariants as symbol
use Rattle.semantic_objects.specs.declared.entry.TypeFn.{TypeFn}
use Rattle.semantic_objects.specs.Trees.{Tree, Trees, TypeScheme, trees_of, binds, binds_any, BindsBelow}
use Rattle.semantic_objects.specs.Nodes.{nowhere, trees_at, node_tree, unfolded_after, unfolded, root}
use Rattle.semantic_objects.proofs.Unfolding.{length-unfolded}
use Rattle.unification.proofs.Walking.{or_left, or_right, or_either, or_false_left, or_false_right, and_left, and_right, and_both}
use Rattle.env_parts.specs.Types.{holds_free, any_holds_free}
use Rattle.env_parts.proofs.Facting.{get_or_map}
use Rattle.env_parts.proofs.Tabling.{got, drop_next, drop_past}
use Rattle.inference_laws.specs.Nodes.{TreeOf, TreesOf, count_trees}
use Rattle.given_tops.specs.declared.names.Limits.{Limits}
use Rattle.given_tops.specs.Names.{nodes_of, may_stand}
use Rattle.given_tops.specs.TypeSteps.{fits, all_fit, all_at, node_fits}
use Rattle.given_tops.specs.Fitting.{SchemeFits, FunctionFits}

-- ---- symbols

-- whether a symbol may stand doesn't hang on its parts
pub any_parts : (l : Limits) (c : Symbol) (n : ℕ) → may_stand l c ≡ nodes_of l c n
any_parts l symbol.Arrow n = refl
any_parts l (symbol.Record labels) n = refl
any_parts l (symbol.Name name) n = refl

-- ---- what an answer says

mutual
  binds_of : (l : Limits) (k : ℕ) (t : Tree) (i : ℕ) → fits l k t ≡ true → binds i t ≡ true → i < k
  binds_of l k (Tree.Bound j) i h e = subst (λ z. z < k) (sym (eqb-true i j e)) (ltb-true j k h)
  binds_of l k (Tree.Free n) i h e = absurd (cc)
  binds_of l k (Tree.Made c ts) i h e = bind_of l k ts i (and_right (may_stand l c) (all_fit l k ts) h) e

  bind_of : (l : Limits) (k : ℕ) (ts : Trees) (i : ℕ) → all_fit l k ts ≡ true → binds_any i ts ≡ true → i < k
  bind_of l k Trees.Nil i h e = absurd (cc)
  bind_of l k (Trees.Cons t ts) i h e = or_either (binds i t) (binds_any i ts) e
      (binds_of l k t i (and_left (fits l k t) (all_fit l k ts) h))
      (bind_of l k ts i (and_right (fits l k t) (all_fit l k ts) h))

neither : (a b : Bool) → a ≡ false → b ≡ false → (a || b) ≡ false
neither a b h k = ap₂ (λ x y. x || y) h k

mutual
  closed_of : (l : Limits) (k : ℕ) (t : Tree) → fits l k t ≡ true → holds_free t ≡ false
  closed_of l k (Tree.Bound j) h = refl
  closed_of l k (Tree.Free n) h = absurd (cc)
  closed_of l k (Tree.Made c ts) h = close_of l k ts (and_right (may_stand l c) (all_fit l k ts) h)

  close_of : (l : Limits) (k : ℕ) (ts : Trees) → all_fit l k ts ≡ true → any_holds_free ts ≡ false
  close_of l k Trees.Nil h = refl
  close_of l k (Trees.Cons t ts) h = neither (holds_free t) (any_holds_free ts)
      (closed_of l k t (and_left (fits l k t) (all_fit l k ts) h))
      (close_of l k ts (and_right (fits l k t) (all_fit l k ts) h))

mutual
  tree_of : (l : Limits) (k : ℕ) (t : Tree) → fits l k t ≡ true → TreeOf (nodes_of l) t
  tree_of l k (Tree.Bound j) h = tt
  tree_of l k (Tree.Free n) h = tt
  tree_of l k (Tree.Made c ts) h = (
    sym (any_parts l c (count_trees ts)) ∙ and_left (may_stand l c) (all_fit l k ts) h,
    all_of l k ts (and_right (may_stand l c) (all_fit l k ts) h),
  )

  all_of : (l : Limits) (k : ℕ) (ts : Trees) → all_fit l k ts ≡ true → TreesOf (nodes_of l) ts
  all_of l k Trees.Nil h = tt
  all_of l k (Trees.Cons t ts) h = (
    tree_of l k t (and_left (fits l k t) (all_fit l k ts) h),
    all_of l k ts (and_right (fits l k t) (all_fit l k ts) h),
  )

mutual
  fits_of : (l : Limits) (k : ℕ) (t : Tree) → BindsBelow k t → holds_free t ≡ false → TreeOf (nodes_of l) t
      → fits l k t ≡ true
  fits_of l k (Tree.Bound j) h e o = lt-ltb j k (h j (eq-eqb j j refl))
  fits_of l k (Tree.Free n) h e o = absurd (cc)
  fits_of l k (Tree.Made c ts) h e o = and_both (may_stand l c) (all_fit l k ts)
      (any_parts l c (count_trees ts) ∙ o.0) (fit_of l k ts h e o.1)

  fit_of : (l : Limits) (k : ℕ) (ts : Trees) → ((i : ℕ) → binds_any i ts ≡ true → i < k)
      → any_holds_free ts ≡ false → TreesOf (nodes_of l) ts → all_fit l k ts ≡ true
  fit_of l k Trees.Nil h e o = refl
  fit_of l k (Trees.Cons t ts) h e o = and_both (fits l k t) (all_fit l k ts)
      (fits_of l k t (λ i b. h i (or_left (binds i t) (binds_any i ts) b))
      (or_false_left (holds_free t) (any_holds_free ts) e) o.0)
      (fit_of l k ts (λ i b. h i (or_right (binds i t) (binds_any i ts) b))
      (or_false_right (holds_free t) (any_holds_free ts) e) o.1)

pub scheme_is : (l : Limits) (m : ℕ) (σ : TypeScheme) (body : Tree) (b : Bool) → m ≡ length σ.marks → body ≡ σ.body
    → b ≡ fits l m body → (b ≡ true) ↔ SchemeFits (nodes_of l) σ
scheme_is l m σ body b e f h =
    let k : b ≡ fits l (length σ.marks) σ.body = h ∙ ap₂ (λ x t. fits l x t) e f in (
      λ is. let i : fits l (length σ.marks) σ.body ≡ true = sym k ∙ is in
          record {
            of = record {
              closed = λ j bound. binds_of l (length σ.marks) σ.body j i bound;
              body = tree_of l (length σ.marks) σ.body i;
            };
            closed = closed_of l (length σ.marks) σ.body i;
          },
      λ is. k ∙ fits_of l (length σ.marks) σ.body is.of.closed is.closed is.of.body,
    )

pub function_is : (l : Limits) (function : TypeFn) (b : Bool) → b ≡ fits l function.arity function.body
    → (b ≡ true) ↔ FunctionFits (nodes_of l) function
function_is l function b h = (
  λ is. let i : fits l function.arity function.body ≡ true = sym h ∙ is in
      record {
        of = record {
          closed = λ j bound. binds_of l function.arity function.body j i bound;
          body = tree_of l function.arity function.body i;
        };
        closed = closed_of l function.arity function.body i;
      },
  λ is. h ∙ fits_of l function.arity function.body is.of.closed is.closed is.of.body,
)

-- ---- node by node

at_is : (l : Limits) (k : ℕ) (made : List Tree) (ps : List ℕ)
    → all_at (fits l k nowhere) (map (fits l k) made) ps ≡ all_fit l k (trees_of (trees_at made ps))
at_is l k made [] = refl
at_is l k made (p ∷ ps) = ap₂ (λ a b. a && b) (get_or_map (fits l k) made p nowhere) (at_is l k made ps)

node_is : (l : Limits) (k : ℕ) (made : List Tree) (x : TypeNode)
    → node_fits l k (map (fits l k) made) x ≡ fits l k (node_tree made x)
node_is l k made (node.Bound i) = refl
node_is l k made (node.Free n) = refl
node_is l k made (node.Made c ps) = ap (λ b. may_stand l c && b) (at_is l k made ps)

pub made_fits : (l : Limits) (k : ℕ) (held : List Bool) (x : TypeNode) (c : Symbol) (ps : List ℕ) (m b : Bool)
    → x ≡ node.Made c ps → m ≡ may_stand l c → m ≡ true → b ≡ all_at (fits l k nowhere) held ps
    → b ≡ node_fits l k held x
made_fits l k held x c ps m b e f t h =
    h ∙ sym (ap (λ z. z && all_at (fits l k nowhere) held ps) (sym f ∙ t)) ∙ ap (node_fits l k held) (sym e)

pub made_not : (l : Limits) (k : ℕ) (held : List Bool) (x : TypeNode) (c : Symbol) (ps : List ℕ) (m : Bool)
    → x ≡ node.Made c ps → m ≡ may_stand l c → m ≡ false → false ≡ node_fits l k held x
made_not l k held x c ps m e f t =
    sym (ap (node_fits l k held) e ∙ ap (λ z. z && all_at (fits l k nowhere) held ps) (sym f ∙ t))

-- the answers for nodes in their order
abbrev pub held_after : Limits → ℕ → List Bool → List TypeNode → List Bool
held_after l k held [] = held
held_after l k held (x ∷ xs) = held_after l k (held ++ node_fits l k held x ∷ []) xs

map_more : (l : Limits) (k : ℕ) (made : List Tree) (t : Tree)
    → map (fits l k) (made ++ t ∷ []) ≡ map (fits l k) made ++ fits l k t ∷ []
map_more l k [] t = refl
map_more l k (x ∷ xs) t = ap (λ z. fits l k x ∷ z) (map_more l k xs t)

held_is : (l : Limits) (k : ℕ) (made : List Tree) (xs : List TypeNode)
    → held_after l k (map (fits l k) made) xs ≡ map (fits l k) (unfolded_after made xs)
held_is l k made [] = refl
held_is l k made (x ∷ xs) =
    ap (λ z. held_after l k z xs) (ap (λ b. map (fits l k) made ++ b ∷ []) (node_is l k made x)
    ∙ sym (map_more l k made (node_tree made x)))
    ∙ held_is l k (made ++ node_tree made x ∷ []) xs

length_map : {A B : Type 0} (f : A → B) (xs : List A) → length (map f xs) ≡ length xs
length_map f [] = refl
length_map f (x ∷ xs) = ap suc (length_map f xs)

last_is : (l : Limits) (k : ℕ) (front : List Bool) (last : Bool) (xs : List TypeNode)
    → front ++ last ∷ [] ≡ map (fits l k) (unfolded xs) → last ≡ fits l k (root xs)
last_is l k front last xs h =
    let a : length (front ++ last ∷ []) ≡ length front + 1 = length-append front (last ∷ []) in
    let b : length (front ++ last ∷ []) ≡ length (unfolded xs) = ap length h ∙ length_map (fits l k) (unfolded xs) in
    let c : length (unfolded xs) ≡ 0 + length xs = length-unfolded [] xs in
    let d : length front ≡ length xs - 1 = omega (arith, a, b, c) in
    sym (get_or-append_seam front last [] (fits l k nowhere))
    ∙ ap (λ z. get_or z (length front) (fits l k nowhere)) h
    ∙ get_or_map (fits l k) (unfolded xs) (length front) nowhere
    ∙ ap (λ n. fits l k (get_or (unfolded xs) n nowhere)) d

-- the last answer is that for the whole type
pub tree_done : (l : Limits) (k : ℕ) (held front : List Bool) (last : Bool) (xs : List TypeNode) (i : ℕ) (t : Tree)
    → held_after l k held (drop i xs) ≡ held_after l k [] xs → length xs ≤ i → held ≡ front ++ last ∷ [] → root xs ≡ t
    → last ≡ fits l k t
tree_done l k held front last xs i t h n e r =
    last_is l k front last xs (sym e ∙ ap (held_after l k held) (sym (drop_past i xs n)) ∙ h ∙ held_is l k [] xs)
    ∙ ap (fits l k) r

-- ---- the parts of a node

-- no part so far has the answer no
abbrev pub AllSoFar : List Bool → List ℕ → ℕ → Type 0
AllSoFar held places k = (other : Bool) → all_at other held (drop k places) ≡ all_at other held places

part_at : (other : Bool) (held : List Bool) (ps items : List ℕ) (k : ℕ) (part : Bool) → items ≡ ps → k < length items
    → Some part ≡ slice_get held (get_or items k 0)
    → all_at other held (drop k ps) ≡ (part && all_at other held (drop (k + 1) ps))
part_at other held ps items k part e l h =
    let l' : k < length ps = subst (λ z. k < length z) e l in
    let h' : Some part ≡ slice_get held (get_or ps k 0) = subst (λ z. Some part ≡ slice_get held (get_or z k 0)) e h in
    ap (all_at other held) (drop_next k ps 0 l')
    ∙ ap (λ b. b && all_at other held (drop (k + 1) ps)) (got held (get_or ps k 0) part other h')

pub part_next : (held : List Bool) (ps items : List ℕ) (k : ℕ) (part : Bool) → items ≡ ps → k < length items
    → Some part ≡ slice_get held (get_or items k 0) → part ≡ true → AllSoFar held ps k → AllSoFar held ps (k + 1)
part_next held ps items k part e l h t i other =
    sym (part_at other held ps items k part e l h
    ∙ ap (λ b. b && all_at other held (drop (k + 1) ps)) t) ∙ i other

pub part_fails : (held : List Bool) (ps items : List ℕ) (k : ℕ) (part : Bool) → items ≡ ps → k < length items
    → Some part ≡ slice_get held (get_or items k 0) → part ≡ false → AllSoFar held ps k
    → (other : Bool) → false ≡ all_at other held ps
part_fails held ps items k part e l h f i other =
    sym (sym (i other) ∙ part_at other held ps items k part e l h
    ∙ ap (λ b. b && all_at other held (drop (k + 1) ps)) f)

pub parts_done : (held : List Bool) (ps items : List ℕ) (k : ℕ) → items ≡ ps → length items ≤ k → AllSoFar held ps k
    → (other : Bool) → true ≡ all_at other held ps
parts_done held ps items k e l i other =
    sym (ap (all_at other held) (drop_past k ps (subst (λ (z : List ℕ). length z ≤ k) e l))) ∙ i other
