-- shorter ways stay, and are forgotten where something is undone
use Rattle.std.proofs.Common.{◌≡◌, ℕ, ◌<◌, ◌≤◌, List, length, sym, ap, ◌∙◌, subst, Option, Some, arith, ◌⊎◌, inl, inr, slice_get}
use Rattle.std.proofs.lemmas.Bool.{ltb-true, ltb-false}
use Rattle.std.specs.Prelude.{ltb}
use Rattle.semantic_objects.specs.declared.name.TyId.{TyId}
use Rattle.semantic_objects.specs.declared.name.TyId.TheVariants as id
use Rattle.unification.specs.Types.{State}
use Rattle.unification.proofs.Putting.{either_way}
use Rattle.type_nodes.specs.declared.node.Birth.{Birth}
use Rattle.type_nodes.specs.declared.node.Node.{Node}
use Rattle.type_nodes.specs.declared.entry.Entry.{Entry}
use Rattle.type_nodes.specs.declared.entry.Entry.TheVariants as entry
use Rattle.type_nodes.specs.Nodes.{Store, with_birth, with_node}
use Rattle.type_nodes.specs.declared.way.Way.{Way}
use Rattle.type_nodes.specs.Tables.{Table, LinkedTo, rank, with_variable_of, with_node_of, with_entry}
use Rattle.type_nodes.specs.Keeping.{IsKept, IsHistory}
use Rattle.type_nodes.specs.Ways.{IsNextEra, IsWay, AreWays}
use Rattle.type_nodes.proofs.Binding.{bound_other, linked_marked, state_bound, state_marked}
use Rattle.type_nodes.proofs.Histories.{rank_front, has_front, stands_front, whole_front, rank_node, has_node, state_node, whole_node}
use Rattle.type_nodes.proofs.Cells.{linked_beyond, table_with}

linked_variable : (t : Table) (b : Birth) (v : ℕ) (a : TyId) → IsKept t → LinkedTo t v a → LinkedTo (with_variable_of b t) v a
linked_variable t b v a k l = either_way (ltb v (length t.births))
    (λ e. record {
      whole = ap (λ f. f v) (stands_front t b) ∙ l.whole ∙ sym (whole_front t b a);
      has = has_front t b a l.has;
      falls = (let i = rank_front t b a l.has in let j = rank_front t b (id.Variable v) (ltb-true v (length t.births) e) in
          subst (λ x. x < rank (with_variable_of b t) (id.Variable v)) (sym i) (subst (λ x. rank t a < x) (sym j) l.falls));
    })
    (λ e. absurd (linked_beyond t v a k (ltb-false v (length t.births) e) l))

linked_node : (t : Table) (x : Node) (v : ℕ) (a : TyId) → IsHistory t → LinkedTo t v a → LinkedTo (with_node_of x t) v a
linked_node t x v a h l = record {
  whole = ap (λ (s : State). s.stands v) (state_node t x h) ∙ l.whole ∙ sym (whole_node t x a h l.has);
  has = has_node t x a l.has;
  falls = subst (λ n. n < rank t (id.Variable v)) (sym (rank_node t x a)) l.falls;
}

pub ways_variable : (t : Table) (b : Birth) (ways : List (Option Way)) (era : ℕ) → IsKept t → AreWays t ways era
    → AreWays (with_variable_of b t) ways era
ways_variable t b ways era k h v w e = record {
  past = (h v w e).past;
  leads = λ i m. linked_variable t b v w.to k ((h v w e).leads i m);
}

pub ways_node : (t : Table) (x : Node) (ways : List (Option Way)) (era : ℕ) → IsHistory t → AreWays t ways era
    → AreWays (with_node_of x t) ways era
ways_node t x ways era k h v w e = record {
  past = (h v w e).past;
  leads = λ i m. linked_node t x v w.to k ((h v w e).leads i m);
}

pub ways_with_variable : (old new : Store) (es : List Entry) (b : Birth) (ways : List (Option Way)) (era : ℕ)
    → IsKept (table_with old es) → new ≡ with_birth b old → AreWays (table_with old es) ways era → AreWays (table_with new es) ways era
ways_with_variable old new es b ways era k e h = subst (λ s. AreWays (table_with s es) ways era) (sym e)
    (ways_variable (table_with old es) b ways era k h)

pub ways_with_node : (old new : Store) (es : List Entry) (x : Node) (ways : List (Option Way)) (era : ℕ)
    → IsHistory (table_with old es) → new ≡ with_node x old → AreWays (table_with old es) ways era → AreWays (table_with new es) ways era
ways_with_node old new es x ways era k e h = subst (λ s. AreWays (table_with s es) ways era) (sym e)
    (ways_node (table_with old es) x ways era k h)

pub ways_bound : (t : Table) (u : ℕ) (a : TyId) (ways : List (Option Way)) (era : ℕ) → AreWays t ways era
    → AreWays (with_entry (entry.Bound u a) t) ways era
ways_bound t u a ways era h v w e = record {
  past = (h v w e).past;
  leads = λ i m. bound_other t u v a w.to ((h v w e).leads i m) (state_bound t u a);
}

pub ways_marked : (t : Table) (u : ℕ) (ways : List (Option Way)) (era : ℕ) → AreWays t ways era
    → AreWays (with_entry (entry.Marked u) t) ways era
ways_marked t u ways era h v w e = record {
  past = (h v w e).past;
  leads = λ i m. linked_marked t u v w.to ((h v w e).leads i m) (state_marked t u);
}

-- whatever is undone
pub ways_back : (t new : Table) (ways : List (Option Way)) (era next : ℕ) → IsNextEra era next → AreWays t ways era
    → AreWays new ways next
ways_back t new ways era next n h v w e =
    let past : w.era ≤ era = (h v w e).past in
    let more : era ≤ next = n.0 in
    record {
      past = omega (arith, past, more);
      leads = λ i m. absurd (let l : era < next = n.1 m in omega (arith, l, i, past));
    }

-- a way more
way_more : (t : Table) (u : ℕ) (old : List (Option Way)) (to : TyId) (era v : ℕ) (w : Way) → LinkedTo t u to → AreWays t old era
    → (slice_get old v ≡ Some (Some w)) ⊎ ((v ≡ u) × (w ≡ record { to = to; era = era })) → IsWay t era v w
way_more t u old to era v w l h (inl e) = h v w e
way_more t u old to era v w l h (inr e) = subst (λ z. IsWay t era z w) (sym e.0)
    (subst (IsWay t era u) (sym e.1) (record { past = omega arith; leads = λ i m. l }))

pub ways_more : (t : Table) (u : ℕ) (old new : List (Option Way)) (to : TyId) (era : ℕ) → LinkedTo t u to
    → ((v : ℕ) (w : Way) → slice_get new v ≡ Some (Some w) → (slice_get old v ≡ Some (Some w))
    ⊎ ((v ≡ u) × (w ≡ record { to = to; era = era }))) → AreWays t old era → AreWays t new era
ways_more t u old new to era l s h v w e = way_more t u old to era v w l h (s v w e)
