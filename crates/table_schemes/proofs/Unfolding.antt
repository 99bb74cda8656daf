-- What the nodes of a scheme unfold to: a node's tree stands at its place, whatever comes after it.
use Rattle.std.proofs.Common.{◌≡◌, ℕ, zero, suc, ◌+◌, refl, sym, ap, ap₂, ◌∙◌, subst, arith, Some, List, [], ◌∷◌, ◌++◌, length, map, get_or, slice_get}
use Rattle.std.proofs.lemmas.List.{append_assoc, append-nil, length-append, get_or_append_left}
use Rattle.std.proofs.Math.Seq.{get_or-append_seam}
use Rattle.semantic_objects.specs.Trees.{Tree, trees_of}
use Rattle.semantic_objects.specs.Nodes.{nowhere}
use Rattle.type_nodes.specs.Tables.{Table}
use Rattle.table_schemes.specs.declared.scheme.OpenPart.{OpenPart}
use Rattle.table_schemes.specs.declared.scheme.OpenPart.TheVariants as part
use Rattle.table_schemes.specs.declared.scheme.OpenNode.{OpenNode}
use Rattle.table_schemes.specs.Meaning.{part_tree, node_tree, unfolded_after, unfolded, IsPartOf, IsNodeAt, AreNodes}

-- the trees of nodes alone, after those that were made before
abbrev added : Table → List Tree → List OpenNode → List Tree
added t made [] = []
added t made (x ∷ xs) = node_tree t made x ∷ added t (made ++ node_tree t made x ∷ []) xs

unfolded_adds : (t : Table) (made : List Tree) (xs : List OpenNode) → unfolded_after t made xs ≡ made ++ added t made xs
unfolded_adds t made [] = sym (append-nil made)
unfolded_adds t made (x ∷ xs) = unfolded_adds t (made ++ node_tree t made x ∷ []) xs
    ∙ append_assoc made (node_tree t made x ∷ []) (added t (made ++ node_tree t made x ∷ []) xs)

length-added : (t : Table) (made : List Tree) (xs : List OpenNode) → length (added t made xs) ≡ length xs
length-added t made [] = refl
length-added t made (x ∷ xs) =
    let k : length (added t (made ++ node_tree t made x ∷ []) xs) ≡ length xs =
    length-added t (made ++ node_tree t made x ∷ []) xs in
    omega (arith, k)

-- as many trees as nodes
pub trees_of_nodes : (t : Table) (xs : List OpenNode) → length (unfolded t xs) ≡ length xs
trees_of_nodes t xs = ap length (unfolded_adds t [] xs) ∙ length-added t [] xs

unfolded_in_turn : (t : Table) (made : List Tree) (xs ys : List OpenNode)
    → unfolded_after t made (xs ++ ys) ≡ unfolded_after t (unfolded_after t made xs) ys
unfolded_in_turn t made [] ys = refl
unfolded_in_turn t made (x ∷ xs) ys = unfolded_in_turn t (made ++ node_tree t made x ∷ []) xs ys

-- nodes that come after others add their trees behind those of the others
pub unfolded_more : (t : Table) (xs ys : List OpenNode) → unfolded t (xs ++ ys) ≡ unfolded t xs ++ added t (unfolded t xs) ys
unfolded_more t xs ys = unfolded_in_turn t [] xs ys ∙ unfolded_adds t (unfolded t xs) ys

-- ---- the tree of a part

-- a part that stands before others is the same tree once these are there
pub part_front : (t : Table) (xs ys : List OpenNode) (a : OpenPart) → IsPartOf t (length xs) a
    → part_tree t (unfolded t (xs ++ ys)) a ≡ part_tree t (unfolded t xs) a
part_front t xs ys (part.Closed a) h = refl
part_front t xs ys (part.Bound i) h = refl
part_front t xs ys (part.Open k) h =
    let l : length (unfolded t xs) ≡ length xs = trees_of_nodes t xs in
    ap (λ z. get_or z k nowhere) (unfolded_more t xs ys)
    ∙ get_or_append_left (unfolded t xs) (added t (unfolded t xs) ys) nowhere k (omega (arith, h, l))

pub parts_front : (t : Table) (xs ys : List OpenNode) (parts : List OpenPart)
    → ((i : ℕ) (a : OpenPart) → slice_get parts i ≡ Some a → IsPartOf t (length xs) a)
    → map (part_tree t (unfolded t (xs ++ ys))) parts ≡ map (part_tree t (unfolded t xs)) parts
parts_front t xs ys [] h = refl
parts_front t xs ys (a ∷ parts) h =
    ap₂ (λ z zs. z ∷ zs) (part_front t xs ys a (h 0 a refl)) (parts_front t xs ys parts (λ i b e. h (suc i) b e))

node_front : (t : Table) (xs ys : List OpenNode) (x : OpenNode) → IsNodeAt t (length xs) x
    → node_tree t (unfolded t (xs ++ ys)) x ≡ node_tree t (unfolded t xs) x
node_front t xs ys x h = ap (λ z. Tree.Made x.symbol (trees_of z)) (parts_front t xs ys x.parts h.parts)

-- the tree of the last node
pub last_tree : (t : Table) (xs : List OpenNode) (x : OpenNode)
    → get_or (unfolded t (xs ++ x ∷ [])) (length xs) nowhere ≡ node_tree t (unfolded t xs) x
last_tree t xs x =
    ap (λ z. get_or z (length xs) nowhere) (unfolded_more t xs (x ∷ []))
    ∙ ap (λ n. get_or (unfolded t xs ++ node_tree t (unfolded t xs) x ∷ []) n nowhere) (sym (trees_of_nodes t xs))
    ∙ get_or-append_seam (unfolded t xs) (node_tree t (unfolded t xs) x) [] nowhere

-- ---- what stands at a node

-- a list, cut behind one of its items
record Cut (xs : List OpenNode) (i : ℕ) (x : OpenNode) : Type 0 where
  front : List OpenNode
  rest : List OpenNode
  whole : xs ≡ front ++ x ∷ rest
  place : length front ≡ i

cut_at : (xs : List OpenNode) (i : ℕ) (x : OpenNode) → slice_get xs i ≡ Some x → Cut xs i x
cut_at [] i x h = absurd (cc)
cut_at (y ∷ ys) zero x h =
    let e : y ≡ x = cc in
    record { front = []; rest = ys; whole = ap (λ z. z ∷ ys) e; place = refl }
cut_at (y ∷ ys) (suc i) x h =
    let c : Cut ys i x = cut_at ys i x h in
    record { front = y ∷ c.front; rest = c.rest; whole = ap (λ z. y ∷ z) c.whole; place = ap suc c.place }

-- the tree at a place is that of the node there
pub noted : (t : Table) (xs : List OpenNode) (i : ℕ) (x : OpenNode) → AreNodes t xs → slice_get xs i ≡ Some x
    → get_or (unfolded t xs) i nowhere ≡ node_tree t (unfolded t xs) x
noted t xs i x h e =
    let c : Cut xs i x = cut_at xs i x e in
    let front = c.front in
    let up_to : List OpenNode = front ++ x ∷ [] in
    let split : xs ≡ up_to ++ c.rest = c.whole ∙ sym (append_assoc front (x ∷ []) c.rest) in
    let k : length up_to ≡ length front + 1 = length-append front (x ∷ []) in
    let node : IsNodeAt t (length front) x = subst (λ n. IsNodeAt t n x) (sym c.place) (h i x e) in
    ap (λ n. get_or (unfolded t xs) n nowhere) (sym c.place)
    ∙ ap (λ z. get_or (unfolded t z) (length front) nowhere) split
    ∙ part_front t up_to c.rest (part.Open (length front)) (omega (arith, k))
    ∙ last_tree t front x
    ∙ sym (node_front t front (x ∷ c.rest) x node)
    ∙ ap (λ z. node_tree t (unfolded t z) x) (sym c.whole)
