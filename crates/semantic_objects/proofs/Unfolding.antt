-- What nodes unfold to: a node's tree stands at its place, whatever comes after it.
use Rattle.std.proofs.Common.{◌≡◌, ℕ, zero, suc, ◌+◌, ◌-◌, ◌<◌, refl, sym, ap, ap₂, ◌∙◌, arith, Some, List, [], ◌∷◌, ◌++◌, length, map, get_or}
use Rattle.std.specs.Prelude.{slice_get}
use Rattle.std.proofs.lemmas.List.{append_assoc, append-nil, length-append, get_or_append_left, get_or-append-add}
use Rattle.std.proofs.Math.Seq.{get_or-append_seam}
use Rattle.semantic_objects.specs.declared.node.TypeNode.{TypeNode}
use Rattle.semantic_objects.specs.declared.node.TypeNode.TheVariants as node
use Rattle.semantic_objects.specs.Trees.{Tree, trees_of}
use Rattle.semantic_objects.specs.Nodes.{nowhere, trees_at, node_tree, unfolded_after, unfolded, tree_at, root, AreBelow, IsNodeAt, AreNodes}
use Rattle.semantic_objects.specs.Adding.{moved}

-- ---- the trees that nodes add

-- the trees of nodes alone, after those that were made before
abbrev pub added : List Tree → List TypeNode → List Tree
added made [] = []
added made (x ∷ xs) = node_tree made x ∷ added (made ++ node_tree made x ∷ []) xs

unfolded_adds : (made : List Tree) (xs : List TypeNode) → unfolded_after made xs ≡ made ++ added made xs
unfolded_adds made [] = sym (append-nil made)
unfolded_adds made (x ∷ xs) = unfolded_adds (made ++ node_tree made x ∷ []) xs
    ∙ append_assoc made (node_tree made x ∷ []) (added (made ++ node_tree made x ∷ []) xs)

length-added : (made : List Tree) (xs : List TypeNode) → length (added made xs) ≡ length xs
length-added made [] = refl
length-added made (x ∷ xs) =
    let k : length (added (made ++ node_tree made x ∷ []) xs) ≡ length xs =
    length-added (made ++ node_tree made x ∷ []) xs in
    omega (arith, k)

pub length-unfolded : (made : List Tree) (xs : List TypeNode)
    → length (unfolded_after made xs) ≡ length made + length xs
length-unfolded made xs = ap length (unfolded_adds made xs) ∙ length-append made (added made xs)
    ∙ ap (λ n. length made + n) (length-added made xs)

-- as many trees as nodes
pub trees_of_nodes : (xs : List TypeNode) → length (unfolded xs) ≡ length xs
trees_of_nodes xs = let k : length (unfolded xs) ≡ 0 + length xs = length-unfolded [] xs in omega (arith, k)

unfolded_in_turn : (made : List Tree) (xs ys : List TypeNode)
    → unfolded_after made (xs ++ ys) ≡ unfolded_after (unfolded_after made xs) ys
unfolded_in_turn made [] ys = refl
unfolded_in_turn made (x ∷ xs) ys = unfolded_in_turn (made ++ node_tree made x ∷ []) xs ys

-- nodes that come after others add their trees behind those of the others
unfolded_more : (xs ys : List TypeNode) → unfolded (xs ++ ys) ≡ unfolded xs ++ added (unfolded xs) ys
unfolded_more xs ys = unfolded_in_turn [] xs ys ∙ unfolded_adds (unfolded xs) ys

-- ---- the tree at a place

pub at_front : (xs ys : List TypeNode) (p : ℕ) → p < length xs → tree_at (xs ++ ys) p ≡ tree_at xs p
at_front xs ys p h =
    let k : length (unfolded xs) ≡ length xs = trees_of_nodes xs in
    ap (λ z. get_or z p nowhere) (unfolded_more xs ys)
    ∙ get_or_append_left (unfolded xs) (added (unfolded xs) ys) nowhere p (omega (arith, h, k))

at_end : (xs : List TypeNode) (x : TypeNode) → tree_at (xs ++ x ∷ []) (length xs) ≡ node_tree (unfolded xs) x
at_end xs x =
    ap (λ z. get_or z (length xs) nowhere) (unfolded_more xs (x ∷ []))
    ∙ ap (λ n. get_or (unfolded xs ++ node_tree (unfolded xs) x ∷ []) n nowhere) (sym (trees_of_nodes xs))
    ∙ get_or-append_seam (unfolded xs) (node_tree (unfolded xs) x) [] nowhere

pub root_push : (xs : List TypeNode) (x : TypeNode) → root (xs ++ x ∷ []) ≡ node_tree (unfolded xs) x
root_push xs x =
    let k : length (xs ++ x ∷ []) ≡ length xs + 1 = length-append xs (x ∷ []) in
    let last : length (xs ++ x ∷ []) - 1 ≡ length xs = omega (arith, k) in
    ap (tree_at (xs ++ x ∷ [])) last ∙ at_end xs x

-- ---- trees that agree before a place

abbrev Agree : ℕ → List Tree → List Tree → Type 0
Agree n a b = (p : ℕ) → p < n → get_or a p nowhere ≡ get_or b p nowhere

pub read_same : (a b : List Tree) (n : ℕ) (ps : List ℕ)
    → ((p : ℕ) → p < n → get_or a p nowhere ≡ get_or b p nowhere) → AreBelow n ps → trees_at a ps ≡ trees_at b ps
read_same a b n [] same below = refl
read_same a b n (p ∷ ps) same below =
    ap₂ (λ t ts. t ∷ ts) (same p below.0) (read_same a b n ps same below.1)

same_node : (a b : List Tree) (n : ℕ) (x : TypeNode) → Agree n a b → IsNodeAt n x → node_tree a x ≡ node_tree b x
same_node a b n (node.Bound i) same h = refl
same_node a b n (node.Free v) same h = refl
same_node a b n (node.Made c ps) same h =
    ap (λ ts. Tree.Made c (trees_of ts)) (read_same a b n ps same h.0.below)

-- ---- what stands at a node

some_is : {A : Type 0} (x y : A) → Some x ≡ Some y → x ≡ y
some_is x y h = cc

-- a list, cut behind one of its items
record Cut (xs : List TypeNode) (i : ℕ) (x : TypeNode) : Type 0 where
  front : List TypeNode
  rest : List TypeNode
  whole : xs ≡ (front ++ x ∷ []) ++ rest
  place : length front ≡ i

cut_at : (xs : List TypeNode) (i : ℕ) (x : TypeNode) → slice_get xs i ≡ Some x → Cut xs i x
cut_at [] i x h = absurd (cc)
cut_at (y ∷ ys) zero x h =
    record { front = []; rest = ys; whole = ap (λ z. z ∷ ys) (some_is y x h); place = refl }
cut_at (y ∷ ys) (suc i) x h =
    let c : Cut ys i x = cut_at ys i x h in
    let k : length c.front ≡ i = c.place in
    record { front = y ∷ c.front; rest = c.rest; whole = ap (λ z. y ∷ z) c.whole; place = omega (arith, k) }

-- the tree at a place, from the trees before it and from all
noted_cut : (xs : List TypeNode) (i : ℕ) (x : TypeNode) → IsNodeAt i x → Cut xs i x
    → tree_at xs i ≡ node_tree (unfolded xs) x
noted_cut xs i x h c =
    let up_to : List TypeNode = c.front ++ x ∷ [] in
    let k : length up_to ≡ length c.front + 1 = length-append c.front (x ∷ []) in
    let place : length c.front ≡ i = c.place in
    let before : Agree i (unfolded c.front) (unfolded xs) = λ p l.
    sym (ap (λ z. tree_at z p) c.whole ∙ at_front up_to c.rest p (omega (arith, k, place, l))
    ∙ at_front c.front (x ∷ []) p (omega (arith, place, l))) in
    ap (λ z. tree_at z i) c.whole ∙ at_front up_to c.rest i (omega (arith, k, place))
    ∙ ap (tree_at up_to) (sym place) ∙ at_end c.front x ∙ same_node (unfolded c.front) (unfolded xs) i x before h

pub noted : (xs : List TypeNode) (i : ℕ) (x : TypeNode) → AreNodes xs → slice_get xs i ≡ Some x
    → tree_at xs i ≡ node_tree (unfolded xs) x
noted xs i x h e = noted_cut xs i x (h.each i x e) (cut_at xs i x e)

-- ---- nodes that are moved behind others

moved_places : (made a : List Tree) (ps : List ℕ)
    → trees_at (made ++ a) (map (λ p. length made + p) ps) ≡ trees_at a ps
moved_places made a [] = refl
moved_places made a (p ∷ ps) = ap₂ (λ t ts. t ∷ ts) (get_or-append-add made a p nowhere) (moved_places made a ps)

moved_node : (made a : List Tree) (x : TypeNode) → node_tree (made ++ a) (moved (length made) x) ≡ node_tree a x
moved_node made a (node.Bound i) = refl
moved_node made a (node.Free v) = refl
moved_node made a (node.Made c ps) = ap (λ ts. Tree.Made c (trees_of ts)) (moved_places made a ps)

-- they add the trees that they would alone
moved_add : (made a : List Tree) (xs : List TypeNode) → added (made ++ a) (map (moved (length made)) xs) ≡ added a xs
moved_add made a [] = refl
moved_add made a (x ∷ xs) =
    let t : Tree = node_tree a x in
    let same : node_tree (made ++ a) (moved (length made) x) ≡ t = moved_node made a x in
    ap (λ z. z ∷ added ((made ++ a) ++ z ∷ []) (map (moved (length made)) xs)) same
    ∙ ap (λ z. t ∷ added z (map (moved (length made)) xs)) (append_assoc made a (t ∷ []))
    ∙ ap (λ z. t ∷ z) (moved_add made (a ++ t ∷ []) xs)

pub unfolded_both : (xs ys : List TypeNode) (n : ℕ) → length xs ≡ n
    → unfolded (xs ++ map (moved n) ys) ≡ unfolded xs ++ unfolded ys
unfolded_both xs ys n h =
    let size : n ≡ length (unfolded xs) = sym (trees_of_nodes xs ∙ h) in
    unfolded_more xs (map (moved n) ys)
    ∙ ap (λ k. unfolded xs ++ added (unfolded xs) (map (moved k) ys)) size
    ∙ ap (λ z. unfolded xs ++ added z (map (moved (length (unfolded xs))) ys)) (sym (append-nil (unfolded xs)))
    ∙ ap (λ z. unfolded xs ++ z) (moved_add (unfolded xs) [] ys ∙ sym (unfolded_adds [] ys))
