-- Type functions in place of names, node by node.
use Rattle.std.proofs.Common.{◌≡◌, ℕ, zero, suc, ◌-◌, ◌≤◌, List, [], ◌∷◌, ◌++◌, length, map, drop, refl, sym, ap, ap₂, ◌∙◌, subst, Option, Some, None, Bool, true, arith, get_or}
use Rattle.semantic_objects.specs.declared.entry.TypeFn.{TypeFn}
use Rattle.semantic_objects.specs.declared.entry.ConEntry.{ConEntry}
use Rattle.semantic_objects.specs.declared.node.TypeNode.{TypeNode}
use Rattle.semantic_objects.specs.declared.node.TypeNode.TheVariants as node
use Rattle.semantic_objects.specs.declared.symbol.Symbol.{Symbol}
use Rattle.semantic_objects.specs.declared.symbol.Symbol.TheVariants as symbol
use Rattle.semantic_objects.specs.Trees.{Tree, Trees, TypeScheme, trees_of, binds, binds_any, BindsBelow}
use Rattle.semantic_objects.specs.Nodes.{nowhere, node_tree, unfolded_after, unfolded, tree_at, trees_at, root}
use Rattle.unification.specs.Closing.{plug, plug_all}
use Rattle.unification.proofs.Walking.{or_left, or_right, or_either}
use Rattle.realisation.specs.Realised.{Realisation, argument, put_function, over_realised, realised_tree, realised_trees}
use Rattle.realisation.specs.Environments.{changed_con}
use Rattle.type_walks.specs.declared.replacing.Replace.{Replace}
use Rattle.type_walks.specs.Images.{AreImages, ArePicked, arguments_at}
use Rattle.type_walks.specs.Replaced.{put_by, replacing, function_for, NodeStays, AllStay}
use Rattle.type_walks.proofs.Imaging.{picked_trees}

-- ---- symbols

pub over_some : (list : List Replace) (c : Symbol) (ts : Trees) (f : TypeFn) → function_for list c ≡ Some f
    → over_realised (put_by list) c ts ≡ plug (λ i. argument i ts) f.body
over_some list symbol.Arrow ts f h = absurd (cc)
over_some list (symbol.Record labels) ts f h = absurd (cc)
over_some list (symbol.Name name) ts f h = ap (put_function name ts) h

pub over_none : (list : List Replace) (c : Symbol) (ts : Trees) → function_for list c ≡ None
    → over_realised (put_by list) c ts ≡ Tree.Made c ts
over_none list symbol.Arrow ts h = refl
over_none list (symbol.Record labels) ts h = refl
over_none list (symbol.Name name) ts h = ap (put_function name ts) h

-- ---- a node with its image

realised_parts : (φ : Realisation) (ts : List Tree) → trees_of (map (realised_tree φ) ts) ≡ realised_trees φ (trees_of ts)
realised_parts φ [] = refl
realised_parts φ (t ∷ ts) = ap (Trees.Cons (realised_tree φ t)) (realised_parts φ ts)

parts_picked : (φ : Realisation) (nodes made : List TypeNode) (images places parts : List ℕ)
    → AreImages (realised_tree φ) nodes made images → ArePicked images places parts
    → trees_of (trees_at (unfolded made) parts) ≡ realised_trees φ (trees_of (trees_at (unfolded nodes) places))
parts_picked φ nodes made images places parts h k =
    ap trees_of (picked_trees (realised_tree φ) nodes made images places parts h k)
    ∙ realised_parts φ (trees_at (unfolded nodes) places)

pub realised_put : (list : List Replace) (nodes made : List TypeNode) (images places parts : List ℕ) (at : ℕ)
    (c : Symbol) (f : TypeFn) → AreImages (realised_tree (put_by list)) nodes made images
    → ArePicked images places parts → tree_at nodes at ≡ Tree.Made c (trees_of (trees_at (unfolded nodes) places))
    → function_for list c ≡ Some f
    → plug (arguments_at made parts) f.body ≡ realised_tree (put_by list) (tree_at nodes at)
realised_put list nodes made images places parts at c f h k e g =
    let ts : Trees = trees_of (trees_at (unfolded nodes) places) in
    ap (λ (us : Trees). plug (λ i. argument i us) f.body) (parts_picked (put_by list) nodes made images places parts h k)
    ∙ sym (over_some list c (realised_trees (put_by list) ts) f g)
    ∙ sym (ap (realised_tree (put_by list)) e)

pub realised_stays : (list : List Replace) (nodes made : List TypeNode) (images places parts : List ℕ) (at : ℕ)
    (c d : Symbol) → AreImages (realised_tree (put_by list)) nodes made images
    → ArePicked images places parts → tree_at nodes at ≡ Tree.Made c (trees_of (trees_at (unfolded nodes) places))
    → function_for list c ≡ None → d ≡ c
    → Tree.Made d (trees_of (trees_at (unfolded made) parts)) ≡ realised_tree (put_by list) (tree_at nodes at)
realised_stays list nodes made images places parts at c d h k e g f =
    let ts : Trees = trees_of (trees_at (unfolded nodes) places) in
    ap₂ Tree.Made f (parts_picked (put_by list) nodes made images places parts h k)
    ∙ sym (over_none list c (realised_trees (put_by list) ts) g)
    ∙ sym (ap (realised_tree (put_by list)) e)

-- ---- types in which no name is replaced

abbrev Fixed : List Replace → List Tree → Type 0
Fixed list made = (p : ℕ) → realised_tree (put_by list) (get_or made p nowhere) ≡ get_or made p nowhere

fixed_none : (list : List Replace) → Fixed list []
fixed_none list zero = refl
fixed_none list (suc p) = refl

fixed_at : (list : List Replace) (made : List Tree) (t : Tree) (p : ℕ) → Fixed list made
    → realised_tree (put_by list) t ≡ t
    → realised_tree (put_by list) (get_or (made ++ t ∷ []) p nowhere) ≡ get_or (made ++ t ∷ []) p nowhere
fixed_at list [] t zero f h = h
fixed_at list [] t (suc p) f h = f p
fixed_at list (m ∷ made) t zero f h = f zero
fixed_at list (m ∷ made) t (suc p) f h = fixed_at list made t p (λ q. f (suc q)) h

fixed_parts : (list : List Replace) (made : List Tree) (ps : List ℕ) → Fixed list made
    → realised_trees (put_by list) (trees_of (trees_at made ps)) ≡ trees_of (trees_at made ps)
fixed_parts list made [] f = refl
fixed_parts list made (p ∷ ps) f = ap₂ Trees.Cons (f p) (fixed_parts list made ps f)

fixed_node : (list : List Replace) (made : List Tree) (x : TypeNode) → Fixed list made → NodeStays list x
    → realised_tree (put_by list) (node_tree made x) ≡ node_tree made x
fixed_node list made (node.Bound i) f h = refl
fixed_node list made (node.Free n) f h = refl
fixed_node list made (node.Made c ps) f h =
    over_none list c (realised_trees (put_by list) (trees_of (trees_at made ps))) h
    ∙ ap (Tree.Made c) (fixed_parts list made ps f)

fixed_after : (list : List Replace) (made : List Tree) (xs : List TypeNode) → Fixed list made → AllStay list xs
    → Fixed list (unfolded_after made xs)
fixed_after list made [] f h = f
fixed_after list made (x ∷ xs) f h = fixed_after list (made ++ node_tree made x ∷ []) xs
    (λ p. fixed_at list made (node_tree made x) p f (fixed_node list made x f h.0)) h.1

pub fixed_root : (list : List Replace) (nodes : List TypeNode) (t : Tree) → AllStay list nodes → root nodes ≡ t
    → realised_tree (put_by list) t ≡ t
fixed_root list nodes t h e = subst (λ u. realised_tree (put_by list) u ≡ u) e
    (fixed_after list [] nodes (fixed_none list) h (length nodes - 1))

-- one node after the other
pub stay_next : (list : List Replace) (xs rest more : List TypeNode) (x : TypeNode) → rest ≡ x ∷ more
    → NodeStays list x → (AllStay list rest → AllStay list xs) → AllStay list more → AllStay list xs
stay_next list xs rest more x e h f k = f (subst (AllStay list) (sym e) (h, k))

pub stay_end : (list : List Replace) (xs : List TypeNode) (n : ℕ) → length xs ≤ n
    → (AllStay list (drop n xs) → AllStay list xs) → AllStay list xs
stay_end list xs n h f = f (nothing_left n xs h)
  where
    nothing_left : (n : ℕ) (xs : List TypeNode) → length xs ≤ n → AllStay list (drop n xs)
    nothing_left zero [] h = tt
    nothing_left zero (x ∷ xs) h = absurd (omega (arith, h))
    nothing_left (suc n) [] h = tt
    nothing_left (suc n) (x ∷ xs) h = nothing_left n xs (omega (arith, h))

-- ---- constructors

abbrev con_of : List ℕ → TypeScheme → ConEntry
con_of name σ = record { name = name; scheme = σ }

abbrev scheme_with : List Bool → Tree → TypeScheme
scheme_with marks body = record { marks = marks; body = body }

pub con_stays : (list : List Replace) (con : ConEntry)
    → realised_tree (put_by list) con.scheme.body ≡ con.scheme.body → changed_con (replacing list) con ≡ con
con_stays list con e =
    ap (λ (b : Tree). con_of con.name (scheme_with con.scheme.marks b)) e

pub cons_next : (list : List Replace) (all rest more : List ConEntry) (con : ConEntry) → rest ≡ con ∷ more
    → realised_tree (put_by list) con.scheme.body ≡ con.scheme.body
    → (map (changed_con (replacing list)) rest ≡ rest → map (changed_con (replacing list)) all ≡ all)
    → map (changed_con (replacing list)) more ≡ more → map (changed_con (replacing list)) all ≡ all
cons_next list all rest more con e h f k =
    f (subst (λ z. map (changed_con (replacing list)) z ≡ z) (sym e)
    (ap₂ (λ x xs. x ∷ xs) (con_stays list con h) k))

nothing_more : (n : ℕ) (xs : List ConEntry) → length xs ≤ n → drop n xs ≡ []
nothing_more zero [] h = refl
nothing_more zero (x ∷ xs) h = absurd (omega (arith, h))
nothing_more (suc n) [] h = refl
nothing_more (suc n) (x ∷ xs) h = nothing_more n xs (omega (arith, h))

pub cons_end : (list : List Replace) (all items : List ConEntry) (n : ℕ) → items ≡ all → length items ≤ n
    → (map (changed_con (replacing list)) (drop n all) ≡ drop n all → map (changed_con (replacing list)) all ≡ all)
    → map (changed_con (replacing list)) all ≡ all
cons_end list all items n e h f =
    f (subst (λ z. map (changed_con (replacing list)) z ≡ z)
    (sym (nothing_more n all (subst (λ (z : List ConEntry). length z ≤ n) e h))) refl)

-- ---- the variables of schemes

argument_binds : (i j : ℕ) (ts : Trees) → binds i (argument j ts) ≡ true → binds_any i ts ≡ true
argument_binds i zero Trees.Nil h = absurd (cc)
argument_binds i (suc j) Trees.Nil h = absurd (cc)
argument_binds i zero (Trees.Cons t ts) h = or_left (binds i t) (binds_any i ts) h
argument_binds i (suc j) (Trees.Cons t ts) h = or_right (binds i t) (binds_any i ts) (argument_binds i j ts h)

mutual
  plug_binds : (i : ℕ) (ts : Trees) (t : Tree) → binds i (plug (λ j. argument j ts) t) ≡ true → binds_any i ts ≡ true
  plug_binds i ts (Tree.Bound j) h = argument_binds i j ts h
  plug_binds i ts (Tree.Free n) h = absurd (cc)
  plug_binds i ts (Tree.Made c us) h = plug_all_binds i ts us h

  plug_all_binds : (i : ℕ) (ts : Trees) (us : Trees) → binds_any i (plug_all (λ j. argument j ts) us) ≡ true
      → binds_any i ts ≡ true
  plug_all_binds i ts Trees.Nil h = absurd (cc)
  plug_all_binds i ts (Trees.Cons u us) h =
      or_either (binds i (plug (λ j. argument j ts) u)) (binds_any i (plug_all (λ j. argument j ts) us)) h
      (plug_binds i ts u) (plug_all_binds i ts us)

put_binds : (i : ℕ) (c : Symbol) (ts : Trees) (φ : Realisation) → binds i (over_realised φ c ts) ≡ true
    → binds_any i ts ≡ true
put_binds i symbol.Arrow ts φ h = h
put_binds i (symbol.Record labels) ts φ h = h
put_binds i (symbol.Name name) ts φ h = by_function (φ name) h
  where
    by_function : (o : Option TypeFn) → binds i (put_function name ts o) ≡ true → binds_any i ts ≡ true
    by_function None k = k
    by_function (Some f) k = plug_binds i ts f.body k

mutual
  realised_binds : (φ : Realisation) (i : ℕ) (t : Tree) → binds i (realised_tree φ t) ≡ true → binds i t ≡ true
  realised_binds φ i (Tree.Bound j) h = h
  realised_binds φ i (Tree.Free n) h = h
  realised_binds φ i (Tree.Made c ts) h = all_binds φ i ts (put_binds i c (realised_trees φ ts) φ h)

  all_binds : (φ : Realisation) (i : ℕ) (ts : Trees) → binds_any i (realised_trees φ ts) ≡ true
      → binds_any i ts ≡ true
  all_binds φ i Trees.Nil h = h
  all_binds φ i (Trees.Cons t ts) h = or_either (binds i (realised_tree φ t)) (binds_any i (realised_trees φ ts)) h
      (λ k. or_left (binds i t) (binds_any i ts) (realised_binds φ i t k))
      (λ k. or_right (binds i t) (binds_any i ts) (all_binds φ i ts k))

pub realised_below : (φ : Realisation) (n : ℕ) (t u : Tree) → BindsBelow n t → u ≡ realised_tree φ t → BindsBelow n u
realised_below φ n t u h e i k = h i (realised_binds φ i t (sym (ap (binds i) e) ∙ k))
