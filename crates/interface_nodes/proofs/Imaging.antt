-- Places at which the trees of nodes stand.
use Rattle.std.proofs.Common.{◌≡◌, ℕ, zero, suc, ◌+◌, ◌-◌, ◌<◌, refl, sym, ap, ap₂, subst, ◌∙◌, List, [], ◌∷◌, ◌++◌, length, map, get_or, drop, Option, Some, append_assoc, arith}
use Rattle.std.specs.Prelude.{slice_get, option_map, Result, Ok, Err, IfOk}
use Rattle.std.specs.List.{zip}
use Rattle.std.proofs.lemmas.List.{append-nil, length-append, length-map, map-append, get_or_append_left, drop_more}
use Rattle.std.proofs.Math.Seq.{drop-length}
use Rattle.std.proofs.lemmas.Option.{slice_get-map, get_or_from_slice_get, slice_get_within}
use Rattle.cm_bytes.proofs.Fields.{some_is}
use Rattle.node_bytes.specs.Nodes.{Node}
use Rattle.node_bytes.specs.Tables.{nowhere}
use Rattle.node_tables.specs.Tables.{Adds}
use Rattle.semantic_objects.specs.declared.symbol.Symbol.{Symbol}
use Rattle.semantic_objects.specs.Trees.{Tree, trees_of}
use Rattle.semantic_objects.specs.declared.node.TypeNode.{TypeNode}
use Rattle.semantic_objects.specs.Nodes.{trees_at, node_tree, unfolded, unfolded_after, root}
use Rattle.semantic_objects.specs.Nodes as tree_nodes
use Rattle.semantic_objects.proofs.Unfolding.{trees_of_nodes}
use Rattle.interface_format.specs.Trees.{node_over, type_node, type_nodes}
use Rattle.interface_nodes.specs.declared.fields.NamedPlace.{NamedPlace}
use Rattle.interface_nodes.specs.Fields.{node_at, nodes_at, rows_at, AreBelow, RowsAreBelow}
use Rattle.interface_nodes.specs.Images.{ArePicked, AreImages, pair_of}

-- ---- fields

abbrev pair : List ℕ → ℕ → List ℕ × ℕ
pair m q = (m, q)

pub rows_zip : (made : List Node) (fields : List NamedPlace) (labels : List (List ℕ)) (places : List ℕ)
    → map pair_of fields ≡ zip labels places → rows_at made fields ≡ zip labels (nodes_at made places)
rows_zip made [] [] places e = refl
rows_zip made [] (l ∷ ls) [] e = refl
rows_zip made [] (l ∷ ls) (p ∷ ps) e = absurd (cc)
rows_zip made (f ∷ fs) [] places e = absurd (cc)
rows_zip made (f ∷ fs) (l ∷ ls) [] e = absurd (cc)
rows_zip made (f ∷ fs) (l ∷ ls) (p ∷ ps) e =
    let h : pair_of f ≡ pair l p = cc in
    let t : map pair_of fs ≡ zip ls ps = cc in
    ap₂ (λ (q : List ℕ × ℕ) rest. (q.0, node_at made q.1) ∷ rest) h (rows_zip made fs ls ps t)

pub rows_below : (n : ℕ) (fields : List NamedPlace) (labels : List (List ℕ)) (places : List ℕ)
    → map pair_of fields ≡ zip labels places → AreBelow n places → RowsAreBelow n fields
rows_below n [] labels places e h = tt
rows_below n (f ∷ fs) [] places e h = absurd (cc)
rows_below n (f ∷ fs) (l ∷ ls) [] e h = absurd (cc)
rows_below n (f ∷ fs) (l ∷ ls) (p ∷ ps) e h =
    let k : pair_of f ≡ pair l p = cc in
    let t : map pair_of fs ≡ zip ls ps = cc in
    (subst (λ q. q < n) (sym (ap (λ (q : List ℕ × ℕ). q.1) k)) h.0, rows_below n fs ls ps t h.1)

-- ---- images

below_get : (n : ℕ) (images : List ℕ) (p q : ℕ) → AreBelow n images → slice_get images p ≡ Some q → q < n
below_get n [] p q h e = absurd (cc)
below_get n (i ∷ is) zero q h e = subst (λ z. z < n) (some_is i q e) h.0
below_get n (i ∷ is) (suc p) q h e = below_get n is p q h.1 e

pub picked_below : (n : ℕ) (images places picked : List ℕ) → ArePicked images places picked → AreBelow n images
    → AreBelow n picked
picked_below n images [] [] e h = tt
picked_below n images [] (q ∷ qs) e h = absurd (cc)
picked_below n images (p ∷ ps) [] e h = absurd (cc)
picked_below n images (p ∷ ps) (q ∷ qs) e h =
    let k : slice_get images p ≡ Some q = cc in
    let t : ArePicked images ps qs = cc in
    (below_get n images p q h k, picked_below n images ps qs t h)

mapped : {A B : Type 0} (v : A → B) (xs : List A) (k : ℕ) (x : A) → slice_get xs k ≡ Some x
    → slice_get (map v xs) k ≡ Some (v x)
mapped v xs k x e = slice_get-map v xs k ∙ ap (option_map v) e

mapped_back : {A B : Type 0} (v : A → B) (xs : List A) (k : ℕ) (d : A) (y : B) → slice_get (map v xs) k ≡ Some y
    → v (get_or xs k d) ≡ y
mapped_back v [] k d y e = absurd (cc)
mapped_back v (x ∷ xs) zero d y e = some_is (v x) y e
mapped_back v (x ∷ xs) (suc k) d y e = mapped_back v xs k d y e

-- the node at an image is that of its tree
image_at : (home : List ℕ) (nodes : List Node) (images : List ℕ) (trees : List Tree) (p q : ℕ)
    → AreImages home nodes images trees → slice_get images p ≡ Some q
    → node_at nodes q ≡ type_node home (get_or trees p tree_nodes.nowhere)
image_at home nodes images trees p q h e =
    let a = mapped (node_at nodes) images p q e in
    let b : slice_get (map (type_node home) trees) p ≡ Some (node_at nodes q) =
    ap (λ zs. slice_get zs p) (sym h.are) ∙ a in
    sym (mapped_back (type_node home) trees p tree_nodes.nowhere (node_at nodes q) b)

picked_nodes : (home : List ℕ) (nodes : List Node) (images : List ℕ) (trees : List Tree) (places picked : List ℕ)
    → AreImages home nodes images trees → ArePicked images places picked
    → nodes_at nodes picked ≡ map (type_node home) (trees_at trees places)
picked_nodes home nodes images trees [] [] h e = refl
picked_nodes home nodes images trees [] (q ∷ qs) h e = absurd (cc)
picked_nodes home nodes images trees (p ∷ ps) [] h e = absurd (cc)
picked_nodes home nodes images trees (p ∷ ps) (q ∷ qs) h e =
    let k : slice_get images p ≡ Some q = cc in
    let t : ArePicked images ps qs = cc in
    ap₂ (λ z zs. z ∷ zs) (image_at home nodes images trees p q h k)
    (picked_nodes home nodes images trees ps qs h t)

nodes_of_trees : (home : List ℕ) (ts : List Tree) → type_nodes home (trees_of ts) ≡ map (type_node home) ts
nodes_of_trees home [] = refl
nodes_of_trees home (t ∷ ts) = ap (λ zs. type_node home t ∷ zs) (nodes_of_trees home ts)

-- a symbol over picked places is the type over the trees there
pub made_node : (home : List ℕ) (nodes : List Node) (images : List ℕ) (trees : List Tree) (c : Symbol)
    (places picked : List ℕ) → AreImages home nodes images trees → ArePicked images places picked
    → node_over home c (nodes_at nodes picked) ≡ type_node home (Tree.Made c (trees_of (trees_at trees places)))
made_node home nodes images trees c places picked h e =
    ap (node_over home c) (picked_nodes home nodes images trees places picked h e
    ∙ sym (nodes_of_trees home (trees_at trees places)))

-- ---- a table that grows

below_more : (m n : ℕ) (ps : List ℕ) → m + n ≡ n + m → AreBelow m ps → AreBelow (m + n) ps
below_more m n [] e h = tt
below_more m n (p ∷ ps) e h = let lt = h.0 in (omega (arith, lt), below_more m n ps e h.1)

nodes_stay : (old more : List Node) (ps : List ℕ) → AreBelow (length old) ps
    → nodes_at (old ++ more) ps ≡ nodes_at old ps
nodes_stay old more [] h = refl
nodes_stay old more (p ∷ ps) h =
    ap₂ (λ z zs. z ∷ zs) (get_or_append_left old more nowhere p h.0) (nodes_stay old more ps h.1)

below_snoc : (n : ℕ) (ps : List ℕ) (p : ℕ) → AreBelow n ps → p < n → AreBelow n (ps ++ p ∷ [])
below_snoc n [] p h k = (k, tt)
below_snoc n (q ∷ qs) p h k = (h.0, below_snoc n qs p h.1 k)

-- one image more
pub images_grow : (home : List ℕ) (old new : List Node) (images : List ℕ) (trees : List Tree) (tree : Tree)
    (place : ℕ) → AreImages home old images trees → Adds old new (type_node home tree) place
    → AreImages home new (images ++ place ∷ []) (trees ++ tree ∷ [])
images_grow home old new images trees tree place h k = record {
  are = map-append (node_at new) images (place ∷ [])
      ∙ ap₂ (λ xs y. xs ++ y ∷ [])
      (ap (λ z. nodes_at z images) k.grown ∙ nodes_stay old k.more images h.below ∙ h.are) k.is
      ∙ sym (map-append (type_node home) trees (tree ∷ []));
  below = below_snoc (length new) images place
      (subst (λ n. AreBelow n images) (sym (ap length k.grown ∙ length-append old k.more))
      (below_more (length old) (length k.more) images (omega arith) h.below)) k.within;
}

pub no_images : (home : List ℕ) (nodes : List Node) → AreImages home nodes [] []
no_images home nodes = record { are = refl; below = tt }

-- a table that grew from another one
pub record Grown (old new : List Node) : Type 0 where
  pub more : List Node
  pub grown : new ≡ old ++ more

pub grown_none : (old : List Node) → Grown old old
grown_none old = record { more = []; grown = sym (append-nil old) }

pub grown_then : (a b c : List Node) (x : Node) (place : ℕ) → Grown a b → Adds b c x place → Grown a c
grown_then a b c x place h k = record {
  more = h.more ++ k.more;
  grown = k.grown ∙ ap (λ z. z ++ k.more) h.grown ∙ append_assoc a h.more k.more;
}

-- ---- a walk over the nodes of a tree

-- what was gone through: the trees so far have their images, and with the nodes that are left they are all
pub record Walk (home : List ℕ) (all left : List TypeNode) (old new : List Node) (images : List ℕ) : Type 0 where
  pub trees : List Tree
  pub rest : unfolded_after trees left ≡ unfolded all
  pub here : AreImages home new images trees
  pub grown : Grown old new

pub walk_begins : (home : List ℕ) (all : List TypeNode) (old : List Node) (images : List ℕ) → images ≡ []
    → Walk home all all old old images
walk_begins home all old images e = record {
  trees = [];
  rest = refl;
  here = subst (λ z. AreImages home old z []) (sym e) (no_images home old);
  grown = grown_none old;
}

pub walk_next : (home : List ℕ) (all left more : List TypeNode) (x : TypeNode) (old table new : List Node)
    (images longer : List ℕ) (place : ℕ) → left ≡ x ∷ more → longer ≡ images ++ place ∷ []
    → Walk home all left old table images
    → ((trees : List Tree) → AreImages home table images trees
    → Adds table new (type_node home (node_tree trees x)) place)
    → Walk home all more old new longer
walk_next home all left more x old table new images longer place e f w h =
    let added : Adds table new (type_node home (node_tree w.trees x)) place = h w.trees w.here in
    record {
      trees = w.trees ++ node_tree w.trees x ∷ [];
      rest = ap (unfolded_after w.trees) (sym e) ∙ w.rest;
      here = subst (λ z. AreImages home new z (w.trees ++ node_tree w.trees x ∷ [])) (sym f)
          (images_grow home table new images w.trees (node_tree w.trees x) place w.here added);
      grown = grown_then old table new (type_node home (node_tree w.trees x)) place w.grown added;
    }

last_get : {A : Type 0} (xs : List A) (x : A) → slice_get (xs ++ x ∷ []) (length xs) ≡ Some x
last_get [] x = refl
last_get (y ∷ ys) x = last_get ys x

last_below : (n : ℕ) (front : List ℕ) (p : ℕ) → AreBelow n (front ++ p ∷ []) → p < n
last_below n [] p h = h.0
last_below n (q ∷ qs) p h = last_below n qs p h.1

-- the last image is the place of the whole tree
pub walk_ends : (home : List ℕ) (all left : List TypeNode) (old new : List Node) (images front : List ℕ) (place : ℕ)
    (tree : Tree) → left ≡ [] → root all ≡ tree → images ≡ front ++ place ∷ []
    → Walk home all left old new images → Adds old new (type_node home tree) place
walk_ends home all left old new images front place tree e r f w =
    let trees : w.trees ≡ unfolded all = ap (unfolded_after w.trees) (sym e) ∙ w.rest in
    let many : length images ≡ length w.trees =
    sym (length-map images (node_at new)) ∙ ap length w.here.are ∙ length-map w.trees (type_node home) in
    let one : length images ≡ length front + 1 = ap length f ∙ length-append front (place ∷ []) in
    let count : length w.trees ≡ length all = ap length trees ∙ trees_of_nodes all in
    let last : length all - 1 ≡ length front = omega (arith, many, one, count) in
    let there : slice_get images (length front) ≡ Some place =
    ap (λ z. slice_get z (length front)) f ∙ last_get front place in
    let within : AreBelow (length new) (front ++ place ∷ []) = subst (AreBelow (length new)) f w.here.below in
    record {
      more = w.grown.more;
      grown = w.grown.grown;
      within = last_below (length new) front place within;
      is = image_at home new images w.trees (length front) place w.here there
          ∙ ap (type_node home) (ap₂ (λ z n. get_or z n tree_nodes.nowhere) trees (sym last) ∙ r);
    }

pub if_ok : {A E : Type 0} {P Q : A → Type 0} (r : Result A E) → IfOk r P → ((x : A) → P x → Q x) → IfOk r Q
if_ok (Ok x) h f = f x h
if_ok (Err e) h f = tt

pub rest_at : {X : Type 0} (xs items : List X) (i : ℕ) (d : X) → items ≡ xs → i < length items
    → drop i xs ≡ get_or items i d ∷ drop (i + 1) xs
rest_at xs items i d e h = ap (drop i) (sym e) ∙ drop_more items i d h ∙ ap (λ z. get_or items i d ∷ drop (i + 1) z) e

pub picked_next : (images left rest : List ℕ) (p q : ℕ) (picked new : List ℕ) (all : List (Option ℕ)) → left ≡ p ∷ rest
    → slice_get images p ≡ Some q → new ≡ picked ++ q ∷ []
    → map Some picked ++ map (λ x. slice_get images x) left ≡ all
    → map Some new ++ map (λ x. slice_get images x) rest ≡ all
picked_next images left rest p q picked new all e g f h =
    ap (λ z. map Some z ++ map (λ x. slice_get images x) rest) f
    ∙ ap (λ z. z ++ map (λ x. slice_get images x) rest) (map-append Some picked (q ∷ []))
    ∙ append_assoc (map Some picked) (Some q ∷ []) (map (λ x. slice_get images x) rest)
    ∙ ap (λ o. map Some picked ++ o ∷ map (λ x. slice_get images x) rest) (sym g)
    ∙ ap (λ z. map Some picked ++ map (λ x. slice_get images x) z) (sym e) ∙ h

-- a field more
pub fields_next : (labels more : List (List ℕ)) (places rest : List ℕ) (fields new : List NamedPlace) (f : NamedPlace)
    (all : List (List ℕ × ℕ)) → labels ≡ f.name ∷ more → places ≡ f.place ∷ rest → new ≡ fields ++ f ∷ []
    → map pair_of fields ++ zip labels places ≡ all → map pair_of new ++ zip more rest ≡ all
fields_next labels more places rest fields new f all e g k h =
    ap (λ z. map pair_of z ++ zip more rest) k
    ∙ ap (λ z. z ++ zip more rest) (map-append pair_of fields (f ∷ []))
    ∙ append_assoc (map pair_of fields) (pair_of f ∷ []) (zip more rest)
    ∙ ap₂ (λ ls ps. map pair_of fields ++ zip ls ps) (sym e) (sym g) ∙ h

pub drop_get : {A : Type 0} (xs : List A) (i : ℕ) (x : A) → slice_get xs i ≡ Some x → drop i xs ≡ x ∷ drop (i + 1) xs
drop_get xs i x e = drop_more xs i x (slice_get_within xs i x e)
    ∙ ap (λ z. z ∷ drop (i + 1) xs) (get_or_from_slice_get xs i x x e)

pub no_more : {A : Type 0} (xs : List A) (n : ℕ) → n ≡ length xs → drop n xs ≡ []
no_more xs n e = ap (λ k. drop k xs) e ∙ drop-length xs
