-- Schemes that are entered into a table.
use Rattle.std.proofs.Common.{◌≡◌, ℕ, zero, suc, ◌+◌, ◌-◌, ◌<◌, List, [], ◌∷◌, ◌++◌, length, map, refl, sym, ap, ap₂, ◌∙◌, subst, Option, Some, None, arith, ◌⊎◌, inl, inr, slice_get, get_or}
use Rattle.std.proofs.lemmas.List.{append_assoc, length-append, length-map, map-append}
use Rattle.std.proofs.lemmas.Option.{get_or_from_slice_get, slice_get-get_or}
use Rattle.std.proofs.Math.Seq.{get_or-append_seam}
use Rattle.semantic_objects.specs.declared.name.TyId.{TyId}
use Rattle.semantic_objects.specs.declared.name.TyId.TheVariants as id
use Rattle.semantic_objects.specs.declared.node.TypeNode.{TypeNode}
use Rattle.semantic_objects.specs.declared.node.TypeNode.TheVariants as node
use Rattle.semantic_objects.specs.declared.symbol.Symbol.{Symbol}
use Rattle.semantic_objects.specs.Symbols.{part_count, HasRisingLabels}
use Rattle.semantic_objects.specs.Trees.{Tree, Trees, trees_of}
use Rattle.semantic_objects.specs.Nodes as scheme
use Rattle.unification.specs.Types.{Ty}
use Rattle.unification.specs.Closing.{closed_over, closed_over_all}
use Rattle.type_nodes.specs.declared.node.Node.{Node}
use Rattle.type_nodes.specs.Nodes.{IsNode}
use Rattle.type_nodes.specs.Tables.{Table, store_of, Has, type_of, types_of, with_node_of}
use Rattle.type_nodes.proofs.Making.{type_added, length_snoc, get_snoc}
use Rattle.type_schemes.specs.Instances.{Adds}
use Rattle.type_schemes.proofs.Adding.{adds_node, adds_extends}
use Rattle.table_schemes.specs.declared.scheme.OpenPart.{OpenPart}
use Rattle.table_schemes.specs.declared.scheme.OpenPart.TheVariants as part
use Rattle.table_schemes.specs.declared.scheme.OpenNode.{OpenNode}
use Rattle.table_schemes.specs.Meaning.{part_tree, unfolded, IsPartOf, IsOpen, HasOpen, IsNodeAt, AreNodes, IsTree}
use Rattle.table_schemes.specs.Entering.{MayBeTree, AreEntered, parts_at, AddsNodes}
use Rattle.table_schemes.proofs.Unfolding.{last_tree}
use Rattle.table_schemes.proofs.Later.{Keeps, nodes_later, is_later, is_front}

-- a table with variables and nodes more keeps its ids
pub adds_keeps : (t u : Table) → Adds t u → Keeps t u
adds_keeps t u h = let e = adds_extends t u h in record { types = e.types; ids = e.ids }

further : {P Q : Type 0} (p n : ℕ) → P ⊎ ((p ≡ n) × Q) → P ⊎ ((suc p ≡ suc n) × Q)
further p n (inl h) = inl h
further p n (inr h) = inr (ap suc h.0, h.1)

-- one place more
pub parts_next : (parts : List (Option OpenPart)) (left rest : List ℕ) (p : ℕ) (found new : List OpenPart) (a : OpenPart)
    (all : List (Option OpenPart)) → left ≡ p ∷ rest → slice_get parts p ≡ Some (Some a) → new ≡ found ++ a ∷ []
    → map Some found ++ parts_at parts left ≡ all → map Some new ++ parts_at parts rest ≡ all
parts_next parts left rest p found new a all e g f h = ap (λ z. map Some z ++ parts_at parts rest) f
    ∙ ap (λ z. z ++ parts_at parts rest) (map-append Some found (a ∷ []))
    ∙ append_assoc (map Some found) (Some a ∷ []) (parts_at parts rest)
    ∙ ap (λ o. map Some found ++ o ∷ parts_at parts rest) (sym (get_or_from_slice_get parts p (Some a) None g))
    ∙ ap (λ z. map Some found ++ parts_at parts z) (sym e) ∙ h

-- one id more
pub ids_next : (parts left rest : List OpenPart) (a : TyId) (ids new : List TyId) → left ≡ part.Closed a ∷ rest
    → new ≡ ids ++ a ∷ [] → map part.Closed ids ++ left ≡ parts → map part.Closed new ++ rest ≡ parts
ids_next parts left rest a ids new e f h = ap (λ z. map part.Closed z ++ rest) f
    ∙ ap (λ z. z ++ rest) (map-append part.Closed ids (a ∷ []))
    ∙ append_assoc (map part.Closed ids) (part.Closed a ∷ []) rest
    ∙ ap (λ z. map part.Closed ids ++ z) (sym e) ∙ h

-- one that is none
open_at : (parts items : List OpenPart) (i : ℕ) (d a : OpenPart) → items ≡ parts → i < length items → get_or items i d ≡ a
    → IsOpen a → HasOpen parts
open_at parts items i d a e l f o =
    (i, (a, (ap (λ (z : List OpenPart). slice_get z i) (sym e) ∙ slice_get-get_or items i d l ∙ ap Some f, o)))

pub open_here : (parts items : List OpenPart) (i : ℕ) (d : OpenPart) → items ≡ parts → i < length items
    → ((n : ℕ) × (get_or items i d ≡ part.Bound n)) ⊎ ((k : ℕ) × (get_or items i d ≡ part.Open k)) → HasOpen parts
open_here parts items i d e l (inl h) = open_at parts items i d (part.Bound h.0) e l h.1 tt
open_here parts items i d e l (inr h) = open_at parts items i d (part.Open h.0) e l h.1 tt

-- ---- a symbol over parts

closed_at : (ids : List TyId) (i : ℕ) (a : TyId) → slice_get ids i ≡ Some a
    → slice_get (map part.Closed ids) i ≡ Some (part.Closed a)
closed_at [] i a e = absurd (cc)
closed_at (b ∷ ids) zero a e = (let f : b ≡ a = cc in ap (λ z. Some (part.Closed z)) f)
closed_at (b ∷ ids) (suc i) a e = closed_at ids i a e

-- over ids alone it is a node of the table
pub closed_node : (t : Table) (n : ℕ) (c : Symbol) (parts : List OpenPart) (ids : List TyId) → parts ≡ map part.Closed ids
    → length parts ≡ part_count c → HasRisingLabels c
    → ((i : ℕ) (a : OpenPart) → slice_get parts i ≡ Some a → IsPartOf t n a)
    → IsNode (store_of t) (record { symbol = c; parts = ids })
closed_node t n c parts ids e l r h = record {
  parts = λ i a g. h i (part.Closed a) (ap (λ z. slice_get z i) e ∙ closed_at ids i a g);
  counted = (let k : length ids ≡ length parts = sym (length-map ids part.Closed) ∙ sym (ap length e) in k ∙ l);
  rising = r;
}

closed_trees : (t : Table) (made : List Tree) (ids : List TyId)
    → closed_over_all [] (types_of t ids) ≡ trees_of (map (part_tree t made) (map part.Closed ids))
closed_trees t made [] = refl
closed_trees t made (a ∷ ids) = ap (Trees.Cons (closed_over [] (type_of t a))) (closed_trees t made ids)

pub closed_tree : (t u : Table) (nodes : List OpenNode) (c : Symbol) (parts : List OpenPart) (ids : List TyId) (a : TyId)
    → parts ≡ map part.Closed ids → u ≡ with_node_of (record { symbol = c; parts = ids }) t → a ≡ id.Made (length t.nodes)
    → IsTree u nodes (Tree.Made c (trees_of (map (part_tree t (unfolded t nodes)) parts))) (part.Closed a)
closed_tree t u nodes c parts ids a e n i =
    let y : Node = record { symbol = c; parts = ids } in
    let made : List Tree = unfolded t nodes in
    let type : type_of u a ≡ Ty.Made c (types_of t ids) = ap₂ type_of n i ∙ type_added t.nodes y (length t.nodes) refl in
    record {
      part = subst (λ z. Has z a) (sym n) (subst (Has (with_node_of y t)) (sym i)
          (let k : length (t.nodes ++ y ∷ []) ≡ length t.nodes + 1 = length_snoc t.nodes y in omega (arith, k)));
      tree = ap (closed_over []) type ∙ ap (Tree.Made c) (closed_trees t made ids
          ∙ ap (λ z. trees_of (map (part_tree t made) z)) (sym e));
    }

pub closed_nodes : (t u : Table) (nodes : List OpenNode) (y : Node) → u ≡ with_node_of y t → AreNodes t nodes → AreNodes u nodes
closed_nodes t u nodes y n h = nodes_later t u nodes (adds_keeps t u (adds_node t u y n)) h

-- else it is one more node of the scheme
pub open_tree : (t : Table) (nodes new : List OpenNode) (c : Symbol) (parts : List OpenPart) (k : ℕ)
    → new ≡ nodes ++ record { symbol = c; parts = parts } ∷ [] → k ≡ length nodes
    → IsTree t new (Tree.Made c (trees_of (map (part_tree t (unfolded t nodes)) parts))) (part.Open k)
open_tree t nodes new c parts k e i =
    let x : OpenNode = record { symbol = c; parts = parts } in
    let l : length (nodes ++ x ∷ []) ≡ length nodes + 1 = length_snoc nodes x in
    let m : length new ≡ length (nodes ++ x ∷ []) = ap length e in
    record {
      part = omega (arith, l, m, i);
      tree = ap₂ (λ z n. get_or (unfolded t z) n scheme.nowhere) e i ∙ last_tree t nodes x;
    }

node_at : (t : Table) (nodes : List OpenNode) (x y : OpenNode) (k : ℕ) → AreNodes t nodes → IsNodeAt t (length nodes) x
    → (slice_get nodes k ≡ Some y) ⊎ ((k ≡ length nodes) × (x ≡ y)) → IsNodeAt t k y
node_at t nodes x y k h n (inl e) = h k y e
node_at t nodes x y k h n (inr e) = subst (λ i. IsNodeAt t i y) (sym e.0) (subst (IsNodeAt t (length nodes)) e.1 n)

pub nodes_next : (t : Table) (nodes new : List OpenNode) (c : Symbol) (parts : List OpenPart) → AreNodes t nodes
    → ((i : ℕ) (a : OpenPart) → slice_get parts i ≡ Some a → IsPartOf t (length nodes) a)
    → length parts ≡ part_count c → HasRisingLabels c → HasOpen parts
    → new ≡ nodes ++ record { symbol = c; parts = parts } ∷ [] → AreNodes t new
nodes_next t nodes new c parts h p l r o e k y g =
    node_at t nodes (record { symbol = c; parts = parts }) y k h (record { parts = p; counted = l; rising = r; varies = o })
    (get_snoc nodes (record { symbol = c; parts = parts }) y k (ap (λ z. slice_get z k) (sym e) ∙ g))

-- ---- a node of the scheme

some_is : {A : Type 0} (x y : A) → Some x ≡ Some y → x ≡ y
some_is x y h = cc

pub bound_tree : (t : Table) (nodes : List OpenNode) (x : Tree) (i : ℕ) (a : OpenPart) → x ≡ Tree.Bound i
    → Some (part.Bound i) ≡ Some a → IsTree t nodes x a
bound_tree t nodes x i a e g = subst (IsTree t nodes x) (some_is (part.Bound i) a g) (record { part = tt; tree = sym e })

pub free_tree : (t : Table) (nodes : List OpenNode) (x : Tree) (n : ℕ) (a : OpenPart) → x ≡ Tree.Free n → n < length t.births
    → Some (part.Closed (id.Variable n)) ≡ Some a → IsTree t nodes x a
free_tree t nodes x n a e l g =
    subst (IsTree t nodes x) (some_is (part.Closed (id.Variable n)) a g) (record { part = l; tree = sym e })

-- the parts that stand at places
found_count : (parts : List (Option OpenPart)) (places : List ℕ) (found : List OpenPart) → parts_at parts places ≡ map Some found
    → length found ≡ length places
found_count parts places found e =
    sym (length-map found Some) ∙ sym (ap length e) ∙ length-map places (λ p. get_or parts p None)

pub found_counted : (parts : List (Option OpenPart)) (places : List ℕ) (found : List OpenPart) (at : ℕ) (c d : Symbol)
    → parts_at parts places ≡ map Some found → scheme.IsNodeAt at (node.Made c places) → d ≡ c → length found ≡ part_count d
found_counted parts places found at c d e h g = found_count parts places found e ∙ h.0.counted ∙ ap part_count (sym g)

pub found_rising : (at : ℕ) (c d : Symbol) (places : List ℕ) → scheme.IsNodeAt at (node.Made c places) → d ≡ c → HasRisingLabels d
found_rising at c d places h g = subst HasRisingLabels (sym g) h.1

pub found_parts : (t : Table) (xs : List TypeNode) (nodes : List OpenNode) (parts : List (Option OpenPart)) (places : List ℕ)
    (found : List OpenPart) → AreEntered t xs nodes parts → parts_at parts places ≡ map Some found
    → (i : ℕ) (a : OpenPart) → slice_get found i ≡ Some a → IsPartOf t (length nodes) a
found_parts t xs nodes parts [] [] h e i a g = absurd (cc)
found_parts t xs nodes parts [] (b ∷ found) h e i a g = absurd (cc)
found_parts t xs nodes parts (p ∷ places) [] h e i a g = absurd (cc)
found_parts t xs nodes parts (p ∷ places) (b ∷ found) h e zero a g =
    let k : get_or parts p None ≡ Some b = cc in
    subst (IsPartOf t (length nodes)) (some_is b a g) (h.trees p b k).part
found_parts t xs nodes parts (p ∷ places) (b ∷ found) h e (suc i) a g =
    let l : parts_at parts places ≡ map Some found = cc in
    found_parts t xs nodes parts places found h l i a g

found_trees : (t : Table) (xs : List TypeNode) (nodes : List OpenNode) (parts : List (Option OpenPart)) (places : List ℕ)
    (found : List OpenPart) → AreEntered t xs nodes parts → parts_at parts places ≡ map Some found
    → map (part_tree t (unfolded t nodes)) found ≡ scheme.trees_at (scheme.unfolded xs) places
found_trees t xs nodes parts [] [] h e = refl
found_trees t xs nodes parts [] (b ∷ found) h e = absurd (cc)
found_trees t xs nodes parts (p ∷ places) [] h e = absurd (cc)
found_trees t xs nodes parts (p ∷ places) (b ∷ found) h e =
    let k : get_or parts p None ≡ Some b = cc in
    let l : parts_at parts places ≡ map Some found = cc in
    ap₂ (λ z zs. z ∷ zs) (h.trees p b k).tree (found_trees t xs nodes parts places found h l)

pub made_tree : (t u : Table) (xs : List TypeNode) (nodes new : List OpenNode) (parts : List (Option OpenPart)) (places : List ℕ)
    (found : List OpenPart) (at : ℕ) (c d : Symbol) (a b : OpenPart) → AreEntered t xs nodes parts
    → parts_at parts places ≡ map Some found
    → scheme.tree_at xs at ≡ Tree.Made c (trees_of (scheme.trees_at (scheme.unfolded xs) places)) → d ≡ c
    → IsTree u new (Tree.Made d (trees_of (map (part_tree t (unfolded t nodes)) found))) a → Some a ≡ Some b
    → IsTree u new (scheme.tree_at xs at) b
made_tree t u xs nodes new parts places found at c d a b h e w g k s =
    let same : Tree.Made d (trees_of (map (part_tree t (unfolded t nodes)) found)) ≡ scheme.tree_at xs at =
    ap₂ (λ z zs. Tree.Made z (trees_of zs)) g (found_trees t xs nodes parts places found h e) ∙ sym w in
    subst (IsTree u new (scheme.tree_at xs at)) (some_is a b s) (subst (λ z. IsTree u new z a) same k)

-- ---- all nodes of the scheme

none_at : (p : ℕ) (a : OpenPart) → get_or {A = Option OpenPart} [] p None ≡ Some a → ⊥
none_at zero a h = cc
none_at (suc p) a h = cc

nothing_at : (nodes : List OpenNode) (k : ℕ) (x : OpenNode) → nodes ≡ [] → slice_get nodes k ≡ Some x → ⊥
nothing_at [] k x e h = cc
nothing_at (y ∷ nodes) k x e h = cc

pub entered_nothing : (t : Table) (xs : List TypeNode) (nodes : List OpenNode) (parts : List (Option OpenPart)) → nodes ≡ []
    → parts ≡ [] → AreEntered t xs nodes parts
entered_nothing t xs nodes parts e g = record {
  nodes = λ k x h. absurd (nothing_at nodes k x e h);
  trees = λ p a h. absurd (none_at p a (sym (ap (λ z. get_or z p None) g) ∙ h));
}

last_or : (parts : List (Option OpenPart)) (o : Option OpenPart) (p : ℕ) (a : OpenPart) → get_or (parts ++ o ∷ []) p None ≡ Some a
    → (get_or parts p None ≡ Some a) ⊎ ((p ≡ length parts) × (o ≡ Some a))
last_or [] o zero a e = inr (refl, e)
last_or [] o (suc p) a e = absurd (cc)
last_or (q ∷ parts) o zero a e = inl e
last_or (q ∷ parts) o (suc p) a e = further p (length parts) (last_or parts o p a e)

entered_at : (t u : Table) (xs : List TypeNode) (nodes new : List OpenNode) (parts : List (Option OpenPart)) (o : Option OpenPart)
    (p : ℕ) (a : OpenPart) → Keeps t u → AddsNodes nodes new → AreEntered t xs nodes parts
    → MayBeTree u new (scheme.tree_at xs (length parts)) o
    → (get_or parts p None ≡ Some a) ⊎ ((p ≡ length parts) × (o ≡ Some a)) → IsTree u new (scheme.tree_at xs p) a
entered_at t u xs nodes new parts o p a k more h n (inl e) =
    subst (λ z. IsTree u z (scheme.tree_at xs p) a) (sym more.is)
    (is_front u nodes more.more (scheme.tree_at xs p) a (is_later t u nodes (scheme.tree_at xs p) a k h.nodes (h.trees p a e)))
entered_at t u xs nodes new parts o p a k more h n (inr e) =
    subst (λ i. IsTree u new (scheme.tree_at xs i) a) (sym e.0) (n a e.1)

pub entered_next : (t u : Table) (xs : List TypeNode) (nodes new : List OpenNode) (parts all : List (Option OpenPart))
    (o : Option OpenPart) (at : ℕ) → Adds t u → AddsNodes nodes new → AreNodes u new → AreEntered t xs nodes parts
    → MayBeTree u new (scheme.tree_at xs at) o → length parts ≡ at → all ≡ parts ++ o ∷ [] → AreEntered u xs new all
entered_next t u xs nodes new parts all o at adds more are h n l e = record {
  nodes = are;
  trees = λ p a g. entered_at t u xs nodes new parts o p a (adds_keeps t u adds) more h
      (subst (λ i. MayBeTree u new (scheme.tree_at xs i) o) (sym l) n)
      (last_or parts o p a (sym (ap (λ z. get_or z p None) e) ∙ g));
}

-- the last one is the tree
pub entered_root : (t : Table) (xs : List TypeNode) (nodes : List OpenNode) (parts front : List (Option OpenPart)) (a : OpenPart)
    → AreEntered t xs nodes parts → length parts ≡ length xs → parts ≡ front ++ Some a ∷ [] → IsTree t nodes (scheme.root xs) a
entered_root t xs nodes parts front a h e f =
    let k : length parts ≡ length front + 1 = ap length f ∙ length-append front (Some a ∷ []) in
    let l : length front ≡ length xs - 1 = omega (arith, k, e) in
    subst (λ n. IsTree t nodes (scheme.tree_at xs n) a) l
    (h.trees (length front) a (ap (λ z. get_or z (length front) None) f ∙ get_or-append_seam front (Some a) [] None))
