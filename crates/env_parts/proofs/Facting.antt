-- Facts of types: side by side, and node by node.
use Rattle.std.proofs.Common.{◌≡◌, ℕ, zero, suc, ◌+◌, ◌-◌, ◌<◌, ◌≤◌, refl, sym, ap, ap₂, ◌∙◌, subst, arith, Some, drop, List, [], ◌∷◌, ◌++◌, length, map, get_or, Bool, true, false, ◌||◌}
use Rattle.std.specs.Prelude.{min, max, slice_get}
use Rattle.std.proofs.lemmas.List.{append_assoc, append-nil, length-append}
use Rattle.std.proofs.Math.Seq.{get_or-append_seam}
use Rattle.semantic_objects.specs.declared.node.TypeNode.{TypeNode}
use Rattle.semantic_objects.specs.declared.node.TypeNode.TheVariants as node
use Rattle.semantic_objects.specs.declared.symbol.Symbol.{Symbol}
use Rattle.semantic_objects.specs.declared.entry.ConEntry.{ConEntry}
use Rattle.semantic_objects.specs.declared.name.Owner.{Owner}
use Rattle.semantic_objects.specs.Trees.{Tree, Trees, trees_of}
use Rattle.semantic_objects.specs.Nodes.{nowhere, trees_at, node_tree, unfolded_after, unfolded, root}
use Rattle.semantic_objects.proofs.Unfolding.{length-unfolded}
use Rattle.env_parts.specs.declared.facts.Facts.{Facts}
use Rattle.env_parts.specs.Types.{tree_size, trees_size, holds_free, any_holds_free, holds_name, any_holds_name, names, is_bound, is_unit, facts_of_tree, no_facts, both, facts_of, con_types}
use Rattle.env_parts.specs.TypeSteps.{over, over_all, facts_at, facts_of_node, joined}
use Rattle.env_parts.proofs.Tabling.{got, drop_next, drop_past}

facts_same : (f g b c u v : Bool) (n m : ℕ) → f ≡ g → n ≡ m → b ≡ c → u ≡ v
    → (let x : Facts = record { has_free = f; largest = n; has_bound_name = b; has_unit_name = u } in x)
    ≡ (let y : Facts = record { has_free = g; largest = m; has_bound_name = c; has_unit_name = v } in y)
facts_same f g b c u v n m h i j k = cc

or_assoc : (a b c : Bool) → ((a || b) || c) ≡ (a || (b || c))
or_assoc true b c = refl
or_assoc false b c = refl

or_false : (a : Bool) → (a || false) ≡ a
or_false true = refl
or_false false = refl

max_assoc : (a b c : ℕ) → max (max a b) c ≡ max a (max b c)
max_assoc a b c = omega arith

max_zero : (a : ℕ) → max a 0 ≡ a
max_zero a = omega arith

zero_max : (a : ℕ) → max 0 a ≡ a
zero_max a = omega arith

pub both_assoc : (a b c : Facts) → both (both a b) c ≡ both a (both b c)
both_assoc a b c = facts_same _ _ _ _ _ _ _ _ (or_assoc a.has_free b.has_free c.has_free)
    (max_assoc a.largest b.largest c.largest)
    (or_assoc a.has_bound_name b.has_bound_name c.has_bound_name)
    (or_assoc a.has_unit_name b.has_unit_name c.has_unit_name)

pub none_both : (a : Facts) → both no_facts a ≡ a
none_both a = facts_same _ _ _ _ _ _ _ _ refl (zero_max a.largest) refl refl

pub both_none : (a : Facts) → both a no_facts ≡ a
both_none a = facts_same _ _ _ _ _ _ _ _ (or_false a.has_free) (max_zero a.largest) (or_false a.has_bound_name)
    (or_false a.has_unit_name)

pub facts_of-append : (xs ys : List Tree) → facts_of (xs ++ ys) ≡ both (facts_of xs) (facts_of ys)
facts_of-append [] ys = sym (none_both (facts_of ys))
facts_of-append (x ∷ xs) ys =
    ap (both (facts_of_tree x)) (facts_of-append xs ys) ∙ sym (both_assoc (facts_of_tree x) (facts_of xs) (facts_of ys))

-- facts that are joined one after the other
pub joined_both : (f : Facts) (ts : List Tree) → joined f (map facts_of_tree ts) ≡ both f (facts_of ts)
joined_both f [] = sym (both_none f)
joined_both f (t ∷ ts) =
    joined_both (both f (facts_of_tree t)) ts ∙ both_assoc f (facts_of_tree t) (facts_of ts)

pub joined_types : (ts : List Tree) → joined no_facts (map facts_of_tree ts) ≡ facts_of ts
joined_types ts = joined_both no_facts ts ∙ none_both (facts_of ts)

-- one part more
size_more : (ts : List Tree) (t : Tree) → trees_size (trees_of (ts ++ t ∷ [])) ≡ trees_size (trees_of ts) + tree_size t
size_more [] t = omega arith
size_more (x ∷ xs) t =
    let h : trees_size (trees_of (xs ++ t ∷ [])) ≡ trees_size (trees_of xs) + tree_size t = size_more xs t in
    omega (arith, h)

free_more : (ts : List Tree) (t : Tree)
    → any_holds_free (trees_of (ts ++ t ∷ [])) ≡ (any_holds_free (trees_of ts) || holds_free t)
free_more [] t = or_false (holds_free t)
free_more (x ∷ xs) t = ap (λ b. holds_free x || b) (free_more xs t)
    ∙ sym (or_assoc (holds_free x) (any_holds_free (trees_of xs)) (holds_free t))

name_more : (of : Owner → Bool) (ts : List Tree) (t : Tree)
    → any_holds_name of (trees_of (ts ++ t ∷ [])) ≡ (any_holds_name of (trees_of ts) || holds_name of t)
name_more of [] t = or_false (holds_name of t)
name_more of (x ∷ xs) t = ap (λ b. holds_name of x || b) (name_more of xs t)
    ∙ sym (or_assoc (holds_name of x) (any_holds_name of (trees_of xs)) (holds_name of t))

made_more : (of : Owner → Bool) (c : Symbol) (ts : List Tree) (t : Tree)
    → (names of c || any_holds_name of (trees_of (ts ++ t ∷ [])))
    ≡ ((names of c || any_holds_name of (trees_of ts)) || holds_name of t)
made_more of c ts t = ap (λ b. names of c || b) (name_more of ts t)
    ∙ sym (or_assoc (names of c) (any_holds_name of (trees_of ts)) (holds_name of t))

capped_more : (m n k : ℕ) → k ≡ m + n → min (1 + k) 65537 ≡ min (min (1 + m) 65537 + min n 65537) 65537
capped_more m n k h = omega (arith, h)

over_step : (c : Symbol) (ts : List Tree) (t : Tree)
    → facts_of_tree (Tree.Made c (trees_of (ts ++ t ∷ [])))
    ≡ over (facts_of_tree (Tree.Made c (trees_of ts))) (facts_of_tree t)
over_step c ts t = facts_same _ _ _ _ _ _ _ _ (free_more ts t)
    (capped_more (trees_size (trees_of ts)) (tree_size t) (trees_size (trees_of (ts ++ t ∷ []))) (size_more ts t))
    (made_more is_bound c ts t) (made_more is_unit c ts t)

pub over_all_is : (c : Symbol) (done rest : List Tree)
    → over_all (facts_of_tree (Tree.Made c (trees_of done))) (map facts_of_tree rest)
    ≡ facts_of_tree (Tree.Made c (trees_of (done ++ rest)))
over_all_is c done [] = ap (λ ts. facts_of_tree (Tree.Made c (trees_of ts))) (sym (append-nil done))
over_all_is c done (t ∷ ts) =
    ap (λ f. over_all f (map facts_of_tree ts)) (sym (over_step c done t))
    ∙ over_all_is c (done ++ t ∷ []) ts
    ∙ ap (λ z. facts_of_tree (Tree.Made c (trees_of z))) (append_assoc done (t ∷ []) ts)

-- the facts at a place are those of the tree there
pub get_or_map : {A B : Type 0} (f : A → B) (xs : List A) (p : ℕ) (d : A) → get_or (map f xs) p (f d) ≡ f (get_or xs p d)
get_or_map f [] p d = refl
get_or_map f (x ∷ xs) zero d = refl
get_or_map f (x ∷ xs) (suc p) d = get_or_map f xs p d

facts_at_is : (made : List Tree) (places : List ℕ)
    → facts_at (map facts_of_tree made) places ≡ map facts_of_tree (trees_at made places)
facts_at_is made [] = refl
facts_at_is made (p ∷ ps) = ap₂ (λ x xs. x ∷ xs) (get_or_map facts_of_tree made p nowhere) (facts_at_is made ps)

pub node_is : (made : List Tree) (x : TypeNode)
    → facts_of_node (map facts_of_tree made) x ≡ facts_of_tree (node_tree made x)
node_is made (node.Bound i) = refl
node_is made (node.Free n) = refl
node_is made (node.Made c ps) = ap (over_all (facts_of_tree (Tree.Made c Trees.Nil))) (facts_at_is made ps)
    ∙ over_all_is c [] (trees_at made ps)

-- the facts of nodes in their order
abbrev pub facts_after : List Facts → List TypeNode → List Facts
facts_after made [] = made
facts_after made (x ∷ xs) = facts_after (made ++ facts_of_node made x ∷ []) xs

map_more : (made : List Tree) (t : Tree) → map facts_of_tree (made ++ t ∷ []) ≡ map facts_of_tree made ++ facts_of_tree t ∷ []
map_more [] t = refl
map_more (x ∷ xs) t = ap (λ z. facts_of_tree x ∷ z) (map_more xs t)

pub facts_after_is : (made : List Tree) (xs : List TypeNode)
    → facts_after (map facts_of_tree made) xs ≡ map facts_of_tree (unfolded_after made xs)
facts_after_is made [] = refl
facts_after_is made (x ∷ xs) =
    ap (λ z. facts_after z xs) (ap (λ f. map facts_of_tree made ++ f ∷ []) (node_is made x)
    ∙ sym (map_more made (node_tree made x)))
    ∙ facts_after_is (made ++ node_tree made x ∷ []) xs

length_map : {A B : Type 0} (f : A → B) (xs : List A) → length (map f xs) ≡ length xs
length_map f [] = refl
length_map f (x ∷ xs) = ap suc (length_map f xs)

-- the last facts are those of the tree
pub last_is : (front : List Facts) (last : Facts) (xs : List TypeNode)
    → front ++ last ∷ [] ≡ map facts_of_tree (unfolded xs) → last ≡ facts_of_tree (root xs)
last_is front last xs h =
    let a : length (front ++ last ∷ []) ≡ length front + 1 = length-append front (last ∷ []) in
    let b : length (front ++ last ∷ []) ≡ length (unfolded xs) = ap length h ∙ length_map facts_of_tree (unfolded xs) in
    let c : length (unfolded xs) ≡ 0 + length xs = length-unfolded [] xs in
    let d : length front ≡ length xs - 1 = omega (arith, a, b, c) in
    sym (get_or-append_seam front last [] (facts_of_tree nowhere))
    ∙ ap (λ z. get_or z (length front) (facts_of_tree nowhere)) h
    ∙ get_or_map facts_of_tree (unfolded xs) (length front) nowhere
    ∙ ap (λ n. facts_of_tree (get_or (unfolded xs) n nowhere)) d

-- one part more of a node, and the last node, and the last constructor
pub over_next : (made : List Facts) (ps items : List ℕ) (k : ℕ) (f part whole : Facts) → items ≡ ps → k < length items
    → Some part ≡ slice_get made (get_or items k 0) → over_all f (facts_at made (drop k ps)) ≡ whole
    → over_all (over f part) (facts_at made (drop (k + 1) ps)) ≡ whole
over_next made ps items k f part whole e l h i =
    let l' : k < length ps = subst (λ z. k < length z) e l in
    let h' : Some part ≡ slice_get made (get_or ps k 0) = subst (λ z. Some part ≡ slice_get made (get_or z k 0)) e h in
    ap (λ z. over_all (over f z) (facts_at made (drop (k + 1) ps)))
    (sym (got made (get_or ps k 0) part (facts_of_tree nowhere) h'))
    ∙ sym (ap (λ z. over_all f (facts_at made z)) (drop_next k ps 0 l'))
    ∙ i

pub tree_done : (made front : List Facts) (last : Facts) (xs : List TypeNode) (k : ℕ) (t : Tree)
    → facts_after made (drop k xs) ≡ facts_after [] xs → length xs ≤ k → made ≡ front ++ last ∷ [] → root xs ≡ t
    → last ≡ facts_of_tree t
tree_done made front last xs k t i l e r =
    last_is front last xs (sym e ∙ ap (facts_after made) (sym (drop_past k xs l)) ∙ i ∙ facts_after_is [] xs)
    ∙ ap facts_of_tree r

pub cons_done : (f : Facts) (cons items : List ConEntry) (k : ℕ) → items ≡ cons → length items ≤ k
    → joined f (map facts_of_tree (con_types (drop k cons))) ≡ joined no_facts (map facts_of_tree (con_types cons))
    → f ≡ facts_of (con_types cons)
cons_done f cons items k e l i =
    let l' : length cons ≤ k = subst (λ z. length z ≤ k) e l in
    sym (ap (λ z. joined f (map facts_of_tree (con_types z))) (drop_past k cons l')) ∙ i
    ∙ joined_types (con_types cons)
