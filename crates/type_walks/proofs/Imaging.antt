-- The images of nodes, one after the other.
use Rattle.std.proofs.Common.{◌≡◌, ℕ, zero, suc, ◌+◌, ◌-◌, ◌<◌, ◌≤◌, List, [], ◌∷◌, ◌++◌, length, map, take, drop, refl, sym, ap, ap₂, ◌∙◌, subst, Option, Some, None, arith, ◌⊎◌, inl, inr, slice_get, get_or}
use Rattle.std.specs.Prelude.{Result, Ok, Err, IfOk, OnOk}
use Rattle.cm_base.specs.declared.fault.NoMemory.{NoMemory}
use Rattle.std.proofs.lemmas.List.{append_assoc, map-append, length-append, length-map, drop_more, length-take-le}
use Rattle.std.proofs.lemmas.Option.{slice_get-get_or}
use Rattle.semantic_objects.specs.declared.node.TypeNode.{TypeNode}
use Rattle.semantic_objects.specs.declared.node.TypeNode.TheVariants as node
use Rattle.semantic_objects.specs.declared.symbol.Symbol.{Symbol}
use Rattle.semantic_objects.specs.declared.symbol.Symbol.TheVariants as symbol
use Rattle.semantic_objects.specs.Trees.{Tree, Trees, trees_of}
use Rattle.semantic_objects.specs.Nodes.{node_tree, unfolded, tree_at, trees_at, root, AreBelow, IsNodeAt, AreNodes, AreTree}
use Rattle.semantic_objects.specs.Adding.{Appended}
use Rattle.semantic_objects.proofs.Unfolding.{at_front, root_push, read_same}
use Rattle.semantic_objects.proofs.Adding.{front_root}
use Rattle.unification.specs.Closing.{plug, plug_all}
use Rattle.type_walks.specs.Images.{AreImages, ArePicked, arguments_at, Grown}

-- ---- lists

pub some_is : {A : Type 0} (x y : A) → Some x ≡ Some y → x ≡ y
some_is x y h = cc

pub length_snoc : {A : Type 0} (xs : List A) (x : A) → length (xs ++ x ∷ []) ≡ length xs + 1
length_snoc xs x = length-append xs (x ∷ [])

further : {P Q : Type 0} (p n : ℕ) → P ⊎ ((p ≡ n) × Q) → P ⊎ ((suc p ≡ suc n) × Q)
further p n (inl h) = inl h
further p n (inr h) = inr (ap suc h.0, h.1)

-- an item of a list with one more is one of those before, or the last one
pub get_snoc : {A : Type 0} (xs : List A) (x y : A) (p : ℕ) → slice_get (xs ++ x ∷ []) p ≡ Some y
    → (slice_get xs p ≡ Some y) ⊎ ((p ≡ length xs) × (x ≡ y))
get_snoc [] x y zero e = inr (refl, some_is x y e)
get_snoc [] x y (suc p) e = absurd (cc)
get_snoc (z ∷ xs) x y zero e = inl e
get_snoc (z ∷ xs) x y (suc p) e = further p (length xs) (get_snoc xs x y p e)

pub get_last : {A : Type 0} (xs : List A) (x : A) → slice_get (xs ++ x ∷ []) (length xs) ≡ Some x
get_last [] x = refl
get_last (z ∷ xs) x = get_last xs x

-- what is left of a list that is gone through as the same one
pub rest_at : {X : Type 0} (xs items : List X) (i : ℕ) (d : X) → items ≡ xs → i < length items
    → drop i xs ≡ get_or items i d ∷ drop (i + 1) xs
rest_at xs items i d e h = ap (drop i) (sym e) ∙ drop_more items i d h ∙ ap (λ z. get_or items i d ∷ drop (i + 1) z) e

pub item_at : {X : Type 0} (xs items : List X) (i : ℕ) (d : X) → items ≡ xs → i < length items
    → slice_get xs i ≡ Some (get_or items i d)
item_at xs items i d e h = sym (ap (λ z. slice_get z i) e) ∙ slice_get-get_or items i d h

-- ---- images that are picked

pub picked_next : (images left rest : List ℕ) (p q : ℕ) (picked new : List ℕ) (all : List (Option ℕ)) → left ≡ p ∷ rest
    → slice_get images p ≡ Some q → new ≡ picked ++ q ∷ []
    → map Some picked ++ map (λ x. slice_get images x) left ≡ all
    → map Some new ++ map (λ x. slice_get images x) rest ≡ all
picked_next images left rest p q picked new all e g f h =
    ap (λ z. map Some z ++ map (λ x. slice_get images x) rest) f
    ∙ ap (λ z. z ++ map (λ x. slice_get images x) rest) (map-append Some picked (q ∷ []))
    ∙ append_assoc (map Some picked) (Some q ∷ []) (map (λ x. slice_get images x) rest)
    ∙ ap (λ o. map Some picked ++ o ∷ map (λ x. slice_get images x) rest) (sym g)
    ∙ ap (λ z. map Some picked ++ map (λ x. slice_get images x) z) (sym e) ∙ h

pub picked_below : (g : Tree → Tree) (nodes made : List TypeNode) (images ps qs : List ℕ) → AreImages g nodes made images
    → ArePicked images ps qs → AreBelow (length made) qs
picked_below g nodes made images [] [] h e = tt
picked_below g nodes made images [] (q ∷ qs) h e = absurd (cc)
picked_below g nodes made images (p ∷ ps) [] h e = absurd (cc)
picked_below g nodes made images (p ∷ ps) (q ∷ qs) h e =
    let k : slice_get images p ≡ Some q = cc in
    let l : map (λ x. slice_get images x) ps ≡ map Some qs = cc in
    (h.below p q k, picked_below g nodes made images ps qs h l)

pub picked_trees : (g : Tree → Tree) (nodes made : List TypeNode) (images ps qs : List ℕ) → AreImages g nodes made images
    → ArePicked images ps qs → trees_at (unfolded made) qs ≡ map g (trees_at (unfolded nodes) ps)
picked_trees g nodes made images [] [] h e = refl
picked_trees g nodes made images [] (q ∷ qs) h e = absurd (cc)
picked_trees g nodes made images (p ∷ ps) [] h e = absurd (cc)
picked_trees g nodes made images (p ∷ ps) (q ∷ qs) h e =
    let k : slice_get images p ≡ Some q = cc in
    let l : map (λ x. slice_get images x) ps ≡ map Some qs = cc in
    ap₂ (λ t ts. t ∷ ts) (h.is p q k) (picked_trees g nodes made images ps qs h l)

pub picked_many : (images ps qs : List ℕ) → ArePicked images ps qs → length qs ≡ length ps
picked_many images ps qs e = sym (length-map qs Some) ∙ sym (ap length e) ∙ length-map ps (λ x. slice_get images x)

-- a node over images
pub picked_node : (g : Tree → Tree) (nodes made : List TypeNode) (images ps qs : List ℕ) (at : ℕ) (c d : Symbol)
    → AreImages g nodes made images → ArePicked images ps qs → IsNodeAt at (node.Made c ps) → d ≡ c
    → IsNodeAt (length made) (node.Made d qs)
picked_node g nodes made images ps qs at c d h e n f = subst (λ s. IsNodeAt (length made) (node.Made s qs)) (sym f) (
  record {
    below = picked_below g nodes made images ps qs h e;
    counted = picked_many images ps qs e ∙ n.0.counted;
  },
  n.1,
)

-- ---- nodes that are added

node_next : (xs : List TypeNode) (x y : TypeNode) (p : ℕ) → AreNodes xs → IsNodeAt (length xs) x
    → (slice_get xs p ≡ Some y) ⊎ ((p ≡ length xs) × (x ≡ y)) → IsNodeAt p y
node_next xs x y p h k (inl e) = h.each p y e
node_next xs x y p h k (inr e) = subst (λ n. IsNodeAt n y) (sym e.0) (subst (IsNodeAt (length xs)) e.1 k)

appended_node : (xs : List TypeNode) (x : TypeNode) → IsNodeAt (length xs) x
    → Appended xs (xs ++ x ∷ []) (length xs) (node_tree (unfolded xs) x)
appended_node xs x h =
    let k : length (xs ++ x ∷ []) ≡ length xs + 1 = length_snoc xs x in
    let l : length xs ≡ length (xs ++ x ∷ []) - 1 = omega (arith, k) in
    record {
      front = λ p i. at_front xs (x ∷ []) p i;
      longer = omega (arith, k);
      there = ap (tree_at (xs ++ x ∷ [])) l ∙ root_push xs x;
      within = omega (arith, k);
      nodes = λ n. record { each = λ p y e. node_next xs x y p n h (get_snoc xs x y p e) };
    }

pub appended_one : (xs new : List TypeNode) (x : TypeNode) (at : ℕ) → new ≡ xs ++ x ∷ [] → at ≡ length xs
    → IsNodeAt (length xs) x → Appended xs new at (node_tree (unfolded xs) x)
appended_one xs new x at e f h = subst (λ z. Appended xs z at (node_tree (unfolded xs) x)) (sym e)
    (subst (λ n. Appended xs (xs ++ x ∷ []) n (node_tree (unfolded xs) x)) (sym f) (appended_node xs x h))

-- what stands there already
pub appended_none : (xs : List TypeNode) (at : ℕ) (t : Tree) → at < length xs → tree_at xs at ≡ t → Appended xs xs at t
appended_none xs at t h e =
    record { front = λ p i. refl; longer = omega arith; there = e; within = h; nodes = λ n. n }

pub appended_as : (xs ys : List TypeNode) (at : ℕ) (t u : Tree) → Appended xs ys at t → t ≡ u → Appended xs ys at u
appended_as xs ys at t u h e = subst (Appended xs ys at) e h

pub grown_none : (xs : List TypeNode) → Grown xs xs
grown_none xs = record { front = λ p i. refl; longer = omega arith; nodes = λ n. n }

pub grown_then : (a b c : List TypeNode) (at : ℕ) (t : Tree) → Grown a b → Appended b c at t → Grown a c
grown_then a b c at t h k =
    let l : length a ≤ length b = h.longer in
    let m : length b ≤ length c = k.longer in
    record {
      front = λ p i. k.front p (omega (arith, l, i)) ∙ h.front p i;
      longer = omega (arith, l, m);
      nodes = λ n. k.nodes (h.nodes n);
    }

pub below_grown : (a b : List TypeNode) (ps : List ℕ) → Grown a b → AreBelow (length a) ps → AreBelow (length b) ps
below_grown a b [] h k = tt
below_grown a b (p ∷ ps) h k =
    let l : length a ≤ length b = h.longer in
    let m : p < length a = k.0 in
    (omega (arith, l, m), below_grown a b ps h k.1)

pub trees_grown : (a b : List TypeNode) (ps : List ℕ) → Grown a b → AreBelow (length a) ps
    → trees_at (unfolded b) ps ≡ trees_at (unfolded a) ps
trees_grown a b ps h k = read_same (unfolded b) (unfolded a) (length a) ps h.front k

-- ---- one image more

abbrev none_get : ℕ → Option ℕ
none_get p = slice_get [] p

nothing_at : (p q : ℕ) → none_get p ≡ Some q → ⊥
nothing_at zero q h = cc
nothing_at (suc p) q h = cc

pub images_none : (g : Tree → Tree) (nodes made : List TypeNode) (images : List ℕ) → images ≡ []
    → AreImages g nodes made images
images_none g nodes made images e = record {
  below = λ p q h. absurd (nothing_at p q (sym (ap (λ z. slice_get z p) e) ∙ h));
  is = λ p q h. absurd (nothing_at p q (sym (ap (λ z. slice_get z p) e) ∙ h));
}

image_below : (g : Tree → Tree) (nodes old new : List TypeNode) (images : List ℕ) (place p q : ℕ) (t : Tree)
    → AreImages g nodes old images → Appended old new place t
    → (slice_get images p ≡ Some q) ⊎ ((p ≡ length images) × (place ≡ q)) → q < length new
image_below g nodes old new images place p q t h k (inl e) =
    let l : q < length old = h.below p q e in
    let m : length old ≤ length new = k.longer in
    omega (arith, l, m)
image_below g nodes old new images place p q t h k (inr e) = subst (λ n. n < length new) e.1 k.within

image_is : (g : Tree → Tree) (nodes old new : List TypeNode) (images : List ℕ) (place p q : ℕ)
    → AreImages g nodes old images → Appended old new place (g (tree_at nodes (length images)))
    → (slice_get images p ≡ Some q) ⊎ ((p ≡ length images) × (place ≡ q)) → tree_at new q ≡ g (tree_at nodes p)
image_is g nodes old new images place p q h k (inl e) = k.front q (h.below p q e) ∙ h.is p q e
image_is g nodes old new images place p q h k (inr e) =
    ap (tree_at new) (sym e.1) ∙ k.there ∙ ap (λ n. g (tree_at nodes n)) (sym e.0)

pub images_push : (g : Tree → Tree) (nodes old new : List TypeNode) (images more : List ℕ) (place at : ℕ)
    → AreImages g nodes old images → Appended old new place (g (tree_at nodes at)) → length images ≡ at
    → more ≡ images ++ place ∷ [] → AreImages g nodes new more
images_push g nodes old new images more place at h k e f =
    let l : Appended old new place (g (tree_at nodes (length images))) =
    subst (λ n. Appended old new place (g (tree_at nodes n))) (sym e) k in
    subst (AreImages g nodes new) (sym f) (record {
      below = λ p q i. image_below g nodes old new images place p q (g (tree_at nodes (length images))) h l
          (get_snoc images place q p i);
      is = λ p q i. image_is g nodes old new images place p q h l (get_snoc images place q p i);
    })

-- the last image
last_at : (images front : List ℕ) (n : ℕ) (place : ℕ) → length images ≡ n → images ≡ front ++ place ∷ []
    → slice_get images (n - 1) ≡ Some place
last_at images front n place e f =
    let k : length images ≡ length front + 1 = ap length f ∙ length_snoc front place in
    let l : n - 1 ≡ length front = omega (arith, k, e) in
    ap₂ (λ z m. slice_get z m) f l ∙ get_last front place

pub last_below : (g : Tree → Tree) (nodes made : List TypeNode) (images front : List ℕ) (place : ℕ)
    → AreImages g nodes made images → length images ≡ length nodes → images ≡ front ++ place ∷ [] → place < length made
last_below g nodes made images front place h e f =
    h.below (length nodes - 1) place (last_at images front (length nodes) place e f)

pub last_is : (g : Tree → Tree) (nodes made : List TypeNode) (images front : List ℕ) (place : ℕ)
    → AreImages g nodes made images → length images ≡ length nodes → images ≡ front ++ place ∷ []
    → tree_at made place ≡ g (root nodes)
last_is g nodes made images front place h e f =
    h.is (length nodes - 1) place (last_at images front (length nodes) place e f)

-- ---- arguments

pub argument_there : (made : List TypeNode) (args : List ℕ) (i q : ℕ) → slice_get args i ≡ Some q
    → tree_at made q ≡ arguments_at made args i
argument_there made [] i q h = absurd (nothing_at i q h)
argument_there made (p ∷ args) zero q h = ap (tree_at made) (sym (some_is p q h))
argument_there made (p ∷ args) (suc i) q h = argument_there made args i q h

pub argument_below : (n : ℕ) (args : List ℕ) (i q : ℕ) → AreBelow n args → slice_get args i ≡ Some q → q < n
argument_below n [] i q h e = absurd (nothing_at i q e)
argument_below n (p ∷ args) zero q h e = subst (λ z. z < n) (some_is p q e) h.0
argument_below n (p ∷ args) (suc i) q h e = argument_below n args i q h.1 e

pub argument_past : (made : List TypeNode) (args : List ℕ) (i : ℕ) → slice_get args i ≡ None
    → Tree.Made (symbol.Record []) Trees.Nil ≡ arguments_at made args i
argument_past made [] i h = refl
argument_past made (p ∷ args) zero h = absurd (cc)
argument_past made (p ∷ args) (suc i) h = argument_past made args i h

pub plug_trees : (θ : ℕ → Tree) (ts : List Tree) → trees_of (map (plug θ) ts) ≡ plug_all θ (trees_of ts)
plug_trees θ [] = refl
plug_trees θ (t ∷ ts) = ap (Trees.Cons (plug θ t)) (plug_trees θ ts)

-- ---- nodes up to a place

taken_get : {A : Type 0} (n : ℕ) (xs : List A) (p : ℕ) (x : A) → slice_get (take n xs) p ≡ Some x
    → slice_get xs p ≡ Some x
taken_get zero [] p x h = h
taken_get zero (y ∷ ys) zero x h = absurd (cc)
taken_get zero (y ∷ ys) (suc p) x h = absurd (cc)
taken_get (suc n) [] p x h = h
taken_get (suc n) (y ∷ ys) zero x h = h
taken_get (suc n) (y ∷ ys) (suc p) x h = taken_get n ys p x h

pub cut_tree : (nodes cut : List TypeNode) (place : ℕ) → cut ≡ take (place + 1) nodes → place < length nodes
    → AreNodes nodes → AreTree cut
cut_tree nodes cut place e h n =
    let k : length (take (place + 1) nodes) ≡ place + 1 = length-take-le (place + 1) nodes (omega (arith, h)) in
    subst AreTree (sym e) (record {
      nodes = record { each = λ p x g. n.each p x (taken_get (place + 1) nodes p x g) };
      some = omega (arith, k);
    })

pub cut_root : (nodes cut : List TypeNode) (place : ℕ) → cut ≡ take (place + 1) nodes → place < length nodes
    → root cut ≡ tree_at nodes place
cut_root nodes cut place e h = front_root nodes cut place e h

-- ---- what calls answer

pub appended_ok : (xs ys : List TypeNode) (t u : Tree) (r : Result ℕ NoMemory) → IfOk r (λ at. Appended xs ys at t)
    → t ≡ u → IfOk r (λ at. Appended xs ys at u)
appended_ok xs ys t u (Ok at) h e = appended_as xs ys at t u h e
appended_ok xs ys t u (Err fault) h e = tt

pub grown_appended : (a b : List TypeNode) (at : ℕ) (t : Tree) → Grown a b → at < length b → tree_at b at ≡ t
    → Appended a b at t
grown_appended a b at t h k e =
    record { front = h.front; longer = h.longer; there = e; within = k; nodes = h.nodes }

pub nothing_there : (made : List TypeNode) (args : List ℕ) (i : ℕ) (labels : List (List ℕ)) (parts : List ℕ)
    → labels ≡ [] → parts ≡ [] → slice_get args i ≡ None
    → node_tree (unfolded made) (node.Made (symbol.Record labels) parts) ≡ arguments_at made args i
nothing_there made args i labels parts e f h =
    ap₂ (λ l p. node_tree (unfolded made) (node.Made (symbol.Record l) p)) e f ∙ argument_past made args i h

pub plugged_node : (θ : ℕ → Tree) (nodes made : List TypeNode) (images places parts : List ℕ) (at : ℕ) (s d : Symbol)
    → AreImages (plug θ) nodes made images → ArePicked images places parts → d ≡ s
    → tree_at nodes at ≡ Tree.Made s (trees_of (trees_at (unfolded nodes) places))
    → Tree.Made d (trees_of (trees_at (unfolded made) parts)) ≡ plug θ (tree_at nodes at)
plugged_node θ nodes made images places parts at s d h k e f =
    ap₂ Tree.Made e (ap trees_of (picked_trees (plug θ) nodes made images places parts h k)
    ∙ plug_trees θ (trees_at (unfolded nodes) places))
    ∙ sym (ap (plug θ) f)

abbrev no_nodes : List TypeNode
no_nodes = []

pub nodes_none : (xs : List TypeNode) → xs ≡ [] → AreNodes xs
nodes_none xs e = subst AreNodes (sym e) (record { each = none_each })
  where
    none_each : (p : ℕ) (x : TypeNode) → slice_get no_nodes p ≡ Some x → IsNodeAt p x
    none_each zero x h = absurd (cc)
    none_each (suc p) x h = absurd (cc)

pub on_ok : {A E P Q : Type 0} (r : Result A E) → OnOk r P → (P → Q) → OnOk r Q
on_ok (Ok x) h f = f h
on_ok (Err e) h f = tt

pub if_ok : {A E : Type 0} {P Q : A → Type 0} (r : Result A E) → IfOk r P → ((x : A) → P x → Q x) → IfOk r Q
if_ok (Ok x) h f = f x h
if_ok (Err e) h f = tt
