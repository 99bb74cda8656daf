-- One row more is told.
use Rattle.std.proofs.Common.{◌≡◌, ℕ, zero, suc, ◌+◌, ◌-◌, ◌<◌, refl, sym, ap, subst, ◌∙◌, List, [], ◌∷◌, ◌++◌, length, get_or, Bool, true, false, Some, None, arith}
use Rattle.std.specs.Prelude.{slice_get}
use Rattle.std.proofs.lemmas.List.{length-append, get_or_append_left}
use Rattle.node_bytes.specs.Nodes.{Node}
use Rattle.node_bytes.specs.Tables.{nowhere, row_node}
use Rattle.node_bytes.specs.declared.table.Row.{Row}
use Rattle.semantic_objects.specs.declared.node.TypeNode.{TypeNode}
use Rattle.semantic_objects.specs.declared.node.TypeNode.TheVariants as node
use Rattle.semantic_objects.specs.Nodes.{node_tree, unfolded, tree_at, IsNodeAt, AreNodes}
use Rattle.semantic_objects.proofs.Unfolding.{at_front, root_push}
use Rattle.interface_nodes.specs.Fields.{node_at}
use Rattle.row_types.specs.declared.rows.TypeRows.{TypeRows}
use Rattle.row_types.specs.Told.{Told, AreTold, Makes, TellsRow}

item_of_snoc : {A P : Type 0} (xs : List A) (y x : A) (i : ℕ) → slice_get (xs ++ y ∷ []) i ≡ Some x
    → (slice_get xs i ≡ Some x → P) → (i ≡ length xs → x ≡ y → P) → P
item_of_snoc [] y x zero e first second = second refl (cc)
item_of_snoc [] y x (suc i) e first second = absurd (cc)
item_of_snoc (z ∷ zs) y x zero e first second = first e
item_of_snoc (z ∷ zs) y x (suc i) e first second =
    item_of_snoc zs y x i e first (λ h k. second (ap suc h) k)

nodes_push : (xs : List TypeNode) (x : TypeNode) → AreNodes xs → IsNodeAt (length xs) x → AreNodes (xs ++ x ∷ [])
nodes_push xs x h k = record {
  each = λ i y e. item_of_snoc xs x y i e (h.each i y)
      (λ at is. subst (λ n. IsNodeAt n y) (sym at) (subst (IsNodeAt (length xs)) (sym is) k));
}

at_end : (xs : List TypeNode) (x : TypeNode) → tree_at (xs ++ x ∷ []) (length xs) ≡ node_tree (unfolded xs) x
at_end xs x =
    let k : length (xs ++ x ∷ []) ≡ length xs + 1 = length-append xs (x ∷ []) in
    let last : length (xs ++ x ∷ []) - 1 ≡ length xs = omega (arith, k) in
    ap (tree_at (xs ++ x ∷ [])) (sym last) ∙ root_push xs x

-- the last item of a list
pub last_item : {A : Type 0} (xs : List A) (x d : A) (n : ℕ) → length xs ≡ n → get_or (xs ++ x ∷ []) n d ≡ x
last_item [] x d n e = subst (λ k. get_or (x ∷ []) k d ≡ x) e refl
last_item (y ∷ ys) x d zero e = absurd (cc)
last_item (y ∷ ys) x d (suc n) e = let k : length ys ≡ n = cc in last_item ys x d n k

pub split_below : {P : Type 0} (p n : ℕ) → p < n + 1 → (p < n → P) → (p ≡ n → P) → P
split_below zero zero lt f g = g refl
split_below zero (suc n) lt f g = f (omega arith)
split_below (suc p) zero lt f g = absurd (omega (arith, lt))
split_below (suc p) (suc n) lt f g =
    split_below p n (omega (arith, lt)) (λ h. f (omega (arith, h))) (λ e. g (ap suc e))

added : (home : List ℕ) (made : List Node) (old new : TypeRows) (y : Node) (x : TypeNode) (is : Bool)
    → AreTold home made old → IsNodeAt (length old.nodes) x → Told home y (node_tree (unfolded old.nodes) x) is
    → new.nodes ≡ old.nodes ++ x ∷ [] → new.told ≡ old.told ++ is ∷ [] → AreTold home (made ++ y ∷ []) new
added home made old new y x is h k t nodes told =
    let count : length (made ++ y ∷ []) ≡ length made + 1 = length-append made (y ∷ []) in
    let n : length new.nodes ≡ length old.nodes + 1 = ap length nodes ∙ length-append old.nodes (x ∷ []) in
    let m : length new.told ≡ length old.told + 1 = ap length told ∙ length-append old.told (is ∷ []) in
    let a = h.nodes_counted in
    let b = h.told_counted in
    record {
      ordered = subst AreNodes (sym nodes) (nodes_push old.nodes x h.ordered k);
      nodes_counted = omega (arith, count, n, a);
      told_counted = omega (arith, count, m, b);
      each = λ p lt. split_below p (length made) (omega (arith, lt, count)) (earlier p) (last p);
    }
  where
    earlier : (p : ℕ) → p < length made
        → Told home (node_at (made ++ y ∷ []) p) (tree_at new.nodes p) (get_or new.told p false)
    earlier p lt =
        let a = h.nodes_counted in
        let b = h.told_counted in
        let at_node : node_at (made ++ y ∷ []) p ≡ node_at made p = get_or_append_left made (y ∷ []) nowhere p lt in
        let at_tree : tree_at new.nodes p ≡ tree_at old.nodes p =
        ap (λ (z : List TypeNode). tree_at z p) nodes ∙ at_front old.nodes (x ∷ []) p (omega (arith, lt, a)) in
        let at_told : get_or new.told p false ≡ get_or old.told p false =
        ap (λ (z : List Bool). get_or z p false) told
        ∙ get_or_append_left old.told (is ∷ []) false p (omega (arith, lt, b)) in
        subst (λ z. Told home z (tree_at new.nodes p) (get_or new.told p false)) (sym at_node)
        (subst (λ z. Told home (node_at made p) z (get_or new.told p false)) (sym at_tree)
        (subst (Told home (node_at made p) (tree_at old.nodes p)) (sym at_told) (h.each p lt)))

    last : (p : ℕ) → p ≡ length made
        → Told home (node_at (made ++ y ∷ []) p) (tree_at new.nodes p) (get_or new.told p false)
    last p e =
        let at_node : node_at (made ++ y ∷ []) p ≡ y = last_item made y nowhere p (sym e) in
        let at_tree : tree_at new.nodes p ≡ node_tree (unfolded old.nodes) x =
        ap (λ (z : List TypeNode). tree_at z p) nodes ∙ ap (tree_at (old.nodes ++ x ∷ [])) (e ∙ sym h.nodes_counted)
        ∙ at_end old.nodes x in
        let at_told : get_or new.told p false ≡ is =
        ap (λ (z : List Bool). get_or z p false) told
        ∙ last_item old.told is false p (h.told_counted ∙ sym e) in
        subst (λ z. Told home z (tree_at new.nodes p) (get_or new.told p false)) (sym at_node)
        (subst (λ z. Told home y z (get_or new.told p false)) (sym at_tree)
        (subst (Told home y (node_tree (unfolded old.nodes) x)) (sym at_told) t))

pub type_added : (home : List ℕ) (old new : TypeRows) (row : Row) (x : TypeNode)
    → Makes home row.tag row.items old (Some x) → new.nodes ≡ old.nodes ++ x ∷ []
    → new.told ≡ old.told ++ true ∷ [] → TellsRow home old row new true
type_added home old new row x h nodes told made t =
    let m = h made t in added home made old new (row_node made row) x true t m.0 m.1 nodes told

pub none_added : (home : List ℕ) (old new : TypeRows) (row : Row) → Makes home row.tag row.items old None
    → new.nodes ≡ old.nodes ++ node.Bound 0 ∷ [] → new.told ≡ old.told ++ false ∷ []
    → TellsRow home old row new false
none_added home old new row h nodes told made t =
    added home made old new (row_node made row) (node.Bound 0) false t tt (h made t) nodes told

pub none_told : (home : List ℕ) (rows : TypeRows) → rows.nodes ≡ [] → rows.told ≡ [] → AreTold home [] rows
none_told home rows nodes told = record {
  ordered = subst AreNodes (sym nodes) (record { each = λ p x s. absurd (no_item p x s) });
  nodes_counted = ap length nodes;
  told_counted = ap length told;
  each = λ p lt. absurd (omega (arith, lt));
}
  where
    no_item : (p : ℕ) (x : TypeNode) → slice_get [] p ≡ Some x → ⊥
    no_item p x s = cc
