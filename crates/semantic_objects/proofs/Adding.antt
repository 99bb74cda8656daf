-- Trees that are added to nodes, and what the last node says.
use Rattle.std.proofs.Common.{◌≡◌, ℕ, zero, suc, ◌+◌, ◌-◌, ◌<◌, ◌≤◌, refl, sym, ap, ap₂, ◌∙◌, subst, arith, Some, List, [], ◌∷◌, ◌++◌, length, map, take, drop, get_or}
use Rattle.std.specs.Prelude.{slice_get}
use Rattle.std.proofs.lemmas.List.{append_assoc, length-append, length-map, map-append, get_or-append-add, take-append-drop, length-take-le, drop_more}
use Rattle.std.proofs.lemmas.Option.{slice_get-get_or}
use Rattle.semantic_objects.specs.declared.symbol.Symbol.{Symbol}
use Rattle.semantic_objects.specs.declared.node.TypeNode.{TypeNode}
use Rattle.semantic_objects.specs.declared.node.TypeNode.TheVariants as node
use Rattle.semantic_objects.specs.Symbols.{part_count, HasRisingLabels}
use Rattle.semantic_objects.specs.Trees.{Tree, trees_of}
use Rattle.semantic_objects.specs.Nodes.{nowhere, trees_at, node_tree, unfolded, tree_at, root, AreBelow, IsNodeAt, IsOver, AreNodes, AreTree}
use Rattle.semantic_objects.specs.Adding.{moved, Appended, Placed, PlacedSoFar}
use Rattle.semantic_objects.proofs.Unfolding.{trees_of_nodes, at_front, root_push, noted, unfolded_both, read_same}

-- ---- places

-- places that a map brings from below one number to below another one
below_mapped : (f : ℕ → ℕ) (n m : ℕ) → ((p : ℕ) → p < n → f p < m) → (ps : List ℕ) → AreBelow n ps
    → AreBelow m (map f ps)
below_mapped f n m h [] below = tt
below_mapped f n m h (p ∷ ps) below = (h p below.0, below_mapped f n m h ps below.1)

below_wider : (n m : ℕ) (ps : List ℕ) → n ≤ m → AreBelow n ps → AreBelow m ps
below_wider n m [] h below = tt
below_wider n m (p ∷ ps) h below = (let k = below.0 in omega (arith, h, k), below_wider n m ps h below.1)

below_joined : (n : ℕ) (ps qs : List ℕ) → AreBelow n ps → AreBelow n qs → AreBelow n (ps ++ qs)
below_joined n [] qs h k = k
below_joined n (p ∷ ps) qs h k = (h.0, below_joined n ps qs h.1 k)

pub below_at : (n i : ℕ) (ps : List ℕ) → AreBelow n ps → i < length ps → get_or ps i 0 < n
below_at n i [] h k = absurd (omega (arith, k))
below_at n zero (p ∷ ps) h k = h.0
below_at n (suc i) (p ∷ ps) h k = below_at n i ps h.1 (omega (arith, k))

-- ---- items of lists that were put together

some_is : {A : Type 0} (x y : A) → Some x ≡ Some y → x ≡ y
some_is x y h = cc

-- an item of two lists is one of the first, or one of the second
item_of_both : {A P : Type 0} (xs ys : List A) (i : ℕ) (x : A) → slice_get (xs ++ ys) i ≡ Some x
    → (slice_get xs i ≡ Some x → P) → ((j : ℕ) → length xs + j ≡ i → slice_get ys j ≡ Some x → P) → P
item_of_both [] ys i x e first second = second i (omega arith) e
item_of_both (z ∷ zs) ys zero x e first second = first e
item_of_both (z ∷ zs) ys (suc i) x e first second =
    item_of_both zs ys i x e first (λ j h f. second j (omega (arith, h)) f)

item_of_map : {A B P : Type 0} (f : A → B) (xs : List A) (i : ℕ) (y : B) → slice_get (map f xs) i ≡ Some y
    → ((x : A) → slice_get xs i ≡ Some x → f x ≡ y → P) → P
item_of_map f [] i y e found = absurd (cc)
item_of_map f (x ∷ xs) zero y e found = found x refl (some_is (f x) y e)
item_of_map f (x ∷ xs) (suc i) y e found = item_of_map f xs i y e found

item_of_one : {A : Type 0} (P : ℕ → A → Type 0) (n : ℕ) (x : A) → P n x → (i : ℕ) (y : A)
    → slice_get (x ∷ []) i ≡ Some y → P (n + i) y
item_of_one P n x h zero y e =
    let k : n ≡ n + 0 = omega arith in subst (λ z. P z y) k (subst (P n) (some_is x y e) h)
item_of_one P n x h (suc i) y e = absurd (cc)

-- nodes with further ones behind them
nodes_joined : (xs ys : List TypeNode) → AreNodes xs
    → ((j : ℕ) (x : TypeNode) → slice_get ys j ≡ Some x → IsNodeAt (length xs + j) x) → AreNodes (xs ++ ys)
nodes_joined xs ys h k = record {
  each = λ i x e. item_of_both xs ys i x e (h.each i x) (λ j same f. subst (λ z. IsNodeAt z x) same (k j x f));
}

node_moved : (by k : ℕ) (x : TypeNode) → IsNodeAt k x → IsNodeAt (by + k) (moved by x)
node_moved by k (node.Bound i) h = tt
node_moved by k (node.Free v) h = tt
node_moved by k (node.Made c ps) h =
    let over : IsOver k ps (part_count c) = h.0 in (
      record {
        below = below_mapped (λ p. by + p) k (by + k) (λ p l. omega (arith, l)) ps over.below;
        counted = length-map ps (λ p. by + p) ∙ over.counted;
      },
      h.1,
    )

nodes_moved : (xs ys : List TypeNode) (by : ℕ) → by ≡ length xs → AreNodes xs → AreNodes ys
    → AreNodes (xs ++ map (moved by) ys)
nodes_moved xs ys by size h k = nodes_joined xs (map (moved by) ys) h
    (λ j x e. item_of_map (moved by) ys j x e
    (λ y there same. subst (λ n. IsNodeAt (n + j) x) size
    (subst (IsNodeAt (by + j)) same (node_moved by j y (k.each j y there)))))

nodes_push : (xs : List TypeNode) (x : TypeNode) → AreNodes xs → IsNodeAt (length xs) x → AreNodes (xs ++ x ∷ [])
nodes_push xs x h k = nodes_joined xs (x ∷ []) h (item_of_one IsNodeAt (length xs) x k)

-- ---- a tree behind other nodes

-- the place of a tree's last node behind others
last_place : (old own : List TypeNode) (by : ℕ) → by ≡ length old → 0 < length own
    → length (old ++ map (moved by) own) - 1 ≡ length (unfolded old) + (length own - 1)
last_place old own by size some =
    let all : length (old ++ map (moved by) own) ≡ length old + length (map (moved by) own) =
    length-append old (map (moved by) own) in
    let more : length (map (moved by) own) ≡ length own = length-map own (moved by) in
    let trees : length (unfolded old) ≡ length old = trees_of_nodes old in
    omega (arith, all, more, trees, some)

appended : (old own : List TypeNode) (by : ℕ) → by ≡ length old → AreTree own
    → Appended old (old ++ map (moved by) own) (length (old ++ map (moved by) own) - 1) (root own)
appended old own by size h =
    let more : List TypeNode = map (moved by) own in
    let some : 0 < length own = h.some in
    let all : length (old ++ more) ≡ length old + length more = length-append old more in
    let as_many : length more ≡ length own = length-map own (moved by) in
    record {
      front = λ p k. at_front old more p k;
      longer = omega (arith, all);
      there = ap (tree_at (old ++ more)) (last_place old own by size some)
          ∙ ap (λ z. get_or z (length (unfolded old) + (length own - 1)) nowhere) (unfolded_both old own by (sym size))
          ∙ get_or-append-add (unfolded old) (unfolded own) (length own - 1) nowhere;
      within = omega (arith, all, as_many, some);
      nodes = λ k. nodes_moved old own by size k h.nodes;
    }

pub appended_at : (old new ms : List TypeNode) (by len : ℕ) (t : Tree) → new ≡ old ++ map (moved by) ms
    → by ≡ length old → len ≡ length new → AreTree ms → root ms ≡ t → Appended old new (len - 1) t
appended_at old new ms by len t is size longer h whole =
    subst (Appended old new (len - 1)) whole
    (subst (λ n. Appended old new (n - 1) (root ms)) (sym longer)
    (subst (λ z. Appended old z (length z - 1) (root ms)) (sym is) (appended old ms by size h)))

-- ---- some trees behind other nodes

placed_push : (old mid new : List TypeNode) (ps : List ℕ) (at : ℕ) (t : Tree) (rest all : List Tree)
    → PlacedSoFar old mid ps (t ∷ rest) all → Appended mid new at t → PlacedSoFar old new (ps ++ at ∷ []) rest all
placed_push old mid new ps at t rest all before one =
    let longer : length old ≤ length mid = before.longer in
    let longer_too : length mid ≤ length new = one.longer in
    let same : trees_at (unfolded new) ps ≡ trees_at (unfolded mid) ps =
    read_same (unfolded new) (unfolded mid) (length mid) ps one.front before.below in
    let read : trees_at (unfolded new) (ps ++ at ∷ []) ≡ trees_at (unfolded mid) ps ++ t ∷ [] =
    map-append (λ p. tree_at new p) ps (at ∷ []) ∙ ap₂ (λ ts u. ts ++ u ∷ []) same one.there in
    record {
      read = ap (λ z. z ++ rest) read ∙ append_assoc (trees_at (unfolded mid) ps) (t ∷ []) rest ∙ before.read;
      below = below_joined (length new) ps (at ∷ []) (below_wider (length mid) (length new) ps longer_too before.below)
          (one.within, tt);
      front = λ p k. one.front p (omega (arith, k, longer)) ∙ before.front p k;
      longer = omega (arith, longer, longer_too);
      nodes = λ k. one.nodes (before.nodes k);
    }

pub placed_step : (old mid new : List TypeNode) (ps qs : List ℕ) (at i : ℕ) (t : Tree) (ts us all : List Tree)
    → us ≡ ts → i < length us → t ≡ get_or us i t → PlacedSoFar old mid ps (drop i ts) all → Appended mid new at t
    → qs ≡ ps ++ at ∷ []
    → PlacedSoFar old new qs (drop (i + 1) ts) all
placed_step old mid new ps qs at i t ts us all slice below item before one places =
    let next : drop i ts ≡ t ∷ drop (i + 1) ts =
    ap (drop i) (sym slice) ∙ drop_more us i t below
    ∙ ap₂ (λ u vs. u ∷ drop (i + 1) vs) (sym item) slice in
    subst (λ z. PlacedSoFar old new z (drop (i + 1) ts) all) (sym places)
    (placed_push old mid new ps at t (drop (i + 1) ts) all
    (subst (λ z. PlacedSoFar old mid ps z all) next before) one)

-- ---- a symbol over trees

-- the last tree's own nodes are kept, and the others are added to them
pub over_kept : (own nodes new : List TypeNode) (c : Symbol) (ps qs : List ℕ) (at : ℕ) (t : Tree)
    (ts all : List Tree) → AreTree own → at + 1 ≡ length own → root own ≡ t → Placed own nodes ps ts
    → qs ≡ ps ++ at ∷ [] → new ≡ nodes ++ node.Made c qs ∷ [] → all ≡ ts ++ t ∷ []
    → root new ≡ Tree.Made c (trees_of all)
over_kept own nodes new c ps qs at t ts all h last whole placed places is trees =
    let there : tree_at nodes at ≡ t =
    placed.front at (omega (arith, last))
    ∙ ap (tree_at own) (let k : at ≡ length own - 1 = omega (arith, last) in k) ∙ whole in
    let read : trees_at (unfolded nodes) qs ≡ all =
    ap (trees_at (unfolded nodes)) places ∙ map-append (λ p. tree_at nodes p) ps (at ∷ [])
    ∙ ap₂ (λ us u. us ++ u ∷ []) placed.read there ∙ sym trees in
    ap root is ∙ root_push nodes (node.Made c qs) ∙ ap (λ us. Tree.Made c (trees_of us)) read

pub over_nodes : (own nodes new : List TypeNode) (c : Symbol) (ps qs : List ℕ) (at : ℕ) (ts : List Tree)
    → length ts + 1 ≡ part_count c → HasRisingLabels c → AreTree own → at + 1 ≡ length own → Placed own nodes ps ts
    → qs ≡ ps ++ at ∷ [] → new ≡ nodes ++ node.Made c qs ∷ [] → AreTree new
over_nodes own nodes new c ps qs at ts parts rising h last placed places is =
    let longer : length own ≤ length nodes = placed.longer in
    let as_many : length ps ≡ length ts =
    sym (length-map ps (λ p. tree_at nodes p)) ∙ ap length placed.read in
    let one_more : length (ps ++ at ∷ []) ≡ length ps + 1 = length-append ps (at ∷ []) in
    let over : IsOver (length nodes) (ps ++ at ∷ []) (part_count c) = record {
      below = below_joined (length nodes) ps (at ∷ []) placed.below (omega (arith, last, longer), tt);
      counted = omega (arith, as_many, one_more, parts);
    } in
    let size : length (nodes ++ node.Made c qs ∷ []) ≡ length nodes + 1 = length-append nodes (node.Made c qs ∷ []) in
    subst AreTree (sym is) (record {
      nodes = nodes_push nodes (node.Made c qs) (placed.nodes h.nodes)
          (subst (λ z. IsOver (length nodes) z (part_count c)) (sym places) over, rising);
      some = omega (arith, size);
    })

-- ---- a front of nodes

pub front_root : (ns copy : List TypeNode) (at : ℕ) → copy ≡ take (at + 1) ns → at < length ns
    → root copy ≡ tree_at ns at
front_root ns copy at is within =
    let size : length (take (at + 1) ns) ≡ at + 1 = length-take-le (at + 1) ns (omega (arith, within)) in
    let last : length (take (at + 1) ns) - 1 ≡ at = omega (arith, size) in
    ap root is ∙ ap (tree_at (take (at + 1) ns)) last
    ∙ sym (ap (λ z. tree_at z at) (sym (take-append-drop (at + 1) ns))
    ∙ at_front (take (at + 1) ns) (drop (at + 1) ns) at (omega (arith, size)))

-- ---- the last node

-- the last node as it is read from a slice of the nodes
last_read : (ns us : List TypeNode) (n : ℕ) (x y : TypeNode) → AreTree ns → us ≡ ns → n ≡ length ns
    → y ≡ get_or us (n - 1) y → y ≡ x → slice_get ns (length ns - 1) ≡ Some x
last_read ns us n x y h slice size item is =
    let some : 0 < length ns = h.some in
    slice_get-get_or ns (length ns - 1) y (omega (arith, some))
    ∙ ap Some (sym (ap₂ (λ z k. get_or z (k - 1) y) slice size) ∙ sym item ∙ is)

last_over : (ns us : List TypeNode) (n : ℕ) (c : Symbol) (ps : List ℕ) (y : TypeNode) → AreTree ns → us ≡ ns
    → n ≡ length ns → y ≡ get_or us (n - 1) y → y ≡ node.Made c ps → IsNodeAt (length ns - 1) (node.Made c ps)
last_over ns us n c ps y h slice size item is =
    h.nodes.each (length ns - 1) (node.Made c ps) (last_read ns us n (node.Made c ps) y h slice size item is)

pub last_below : (ns us : List TypeNode) (n : ℕ) (c : Symbol) (ps : List ℕ) (y : TypeNode) → AreTree ns → us ≡ ns
    → n ≡ length ns → y ≡ get_or us (n - 1) y → y ≡ node.Made c ps → AreBelow (length ns) ps
last_below ns us n c ps y h slice size item is =
    below_wider (length ns - 1) (length ns) ps (omega arith) (last_over ns us n c ps y h slice size item is).0.below

-- how many parts the last node has, and that its labels rise
pub last_counted : (ns us ws : List TypeNode) (n : ℕ) (c : Symbol) (ps : List ℕ) (y : TypeNode) (ts : List Tree)
    → AreTree ns → us ≡ ns → n ≡ length ns → y ≡ get_or us (n - 1) y → y ≡ node.Made c ps
    → ts ≡ trees_at (unfolded ws) ps → length ts ≡ part_count c
last_counted ns us ws n c ps y ts h slice size item is read =
    ap length read ∙ length-map ps (λ p. tree_at ws p)
    ∙ (last_over ns us n c ps y h slice size item is).0.counted

pub last_rising : (ns us : List TypeNode) (n : ℕ) (c : Symbol) (ps : List ℕ) (y : TypeNode) → AreTree ns → us ≡ ns
    → n ≡ length ns → y ≡ get_or us (n - 1) y → y ≡ node.Made c ps → HasRisingLabels c
last_rising ns us n c ps y h slice size item is = (last_over ns us n c ps y h slice size item is).1

pub last_is : (ns us : List TypeNode) (n : ℕ) (x y : TypeNode) (t : Tree) → AreTree ns → us ≡ ns → n ≡ length ns
    → y ≡ get_or us (n - 1) y → y ≡ x → root ns ≡ t → node_tree (unfolded ns) x ≡ t
last_is ns us n x y t h slice size item is whole =
    sym (noted ns (length ns - 1) x h.nodes (last_read ns us n x y h slice size item is)) ∙ whole

pub last_made : (ns us ws : List TypeNode) (n : ℕ) (c d : Symbol) (ps : List ℕ) (y : TypeNode) (t : Tree)
    (ts : List Tree) → AreTree ns → us ≡ ns → ws ≡ ns → n ≡ length ns → y ≡ get_or us (n - 1) y → y ≡ node.Made c ps
    → root ns ≡ t → d ≡ c → ts ≡ trees_at (unfolded ws) ps
    → Tree.Made d (trees_of ts) ≡ t
last_made ns us ws n c d ps y t ts h slice again size item is whole symbol read =
    ap₂ (λ e us. Tree.Made e (trees_of us)) symbol (read ∙ ap (λ z. trees_at (unfolded z) ps) again)
    ∙ last_is ns us n (node.Made c ps) y t h slice size item is whole
