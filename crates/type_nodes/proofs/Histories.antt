-- tables stay tables: an entry more, a variable more, a node more, and entries taken back
use Rattle.std.proofs.Common.{◌≡◌, ℕ, zero, suc, ◌+◌, ◌<◌, ◌≤◌, List, [], ◌∷◌, ◌++◌, length, refl, sym, ap, ap₂, ◌∙◌, subst, Some, Bool, true, false, cond, arith, ◌⊎◌, inl, inr, slice_get, get_or, take}
use Rattle.std.proofs.lemmas.Option.{slice_get-get_or, slice_get_within}
use Rattle.std.proofs.lemmas.List.{get_or_append_left, get_or_push, take-append-le}
use Rattle.std.proofs.Math.Seq.{take-suc, take-length, take-append_seam}
use Rattle.std.proofs.lemmas.Bool.{eqb-true, eqb-false, ltb-true, ltb-false}
use Rattle.std.specs.Prelude.{eqb, ltb, ◌||◌}
use Rattle.semantic_objects.specs.declared.name.TyId.{TyId}
use Rattle.semantic_objects.specs.declared.name.TyId.TheVariants as id
use Rattle.unification.specs.Types.{State, put, occurs, admits}
use Rattle.unification.specs.Instances.{with_variable}
use Rattle.unification.specs.Fitting.{IsFit}
use Rattle.unification.proofs.Putting.{either_way, or_right}
use Rattle.unification.proofs.Requiring.{admits_more}
use Rattle.type_nodes.specs.declared.node.Birth.{Birth}
use Rattle.type_nodes.specs.declared.node.Node.{Node}
use Rattle.type_nodes.specs.Nodes.{AreMade, IsNode, made, born, birth_in, marked_in, rigid_in}
use Rattle.type_nodes.proofs.Knowing.{get_front}
use Rattle.type_nodes.proofs.Making.{length_snoc, get_snoc, made_birth, made_node, type_front, id_more}
use Rattle.type_nodes.specs.declared.entry.Entry.{Entry}
use Rattle.type_nodes.specs.declared.entry.Entry.TheVariants as entry
use Rattle.type_nodes.specs.Tables.{Table, store_of, Has, type_of, state, whole, rank, IsHead, with_variable_of, with_node_of, with_entry, cut}
use Rattle.type_nodes.specs.Keeping.{IsOpen, MayStand, MayFollow, IsHistory, IsKept}
use Rattle.type_nodes.proofs.Playing.{after_stands, after_marks, marks_it, after_alike}
use Rattle.type_nodes.proofs.Binding.{same_marks, kept_bound, kept_marked}

pub birth_beyond : (births : List Birth) (n : ℕ) → length births ≤ n
    → birth_in births n ≡ record { marked = false; rigid = false }
birth_beyond [] n h = refl
birth_beyond (b ∷ bs) zero h = absurd (omega (arith, h))
birth_beyond (b ∷ bs) (suc n) h = birth_beyond bs n (omega (arith, h))

born_within : (births : List Birth) (is : Birth → Bool) → is (record { marked = false; rigid = false }) ≡ false
    → (n : ℕ) → is (birth_in births n) ≡ true → n < length births
born_within births is none n h = either_way (ltb n (length births)) (λ e. ltb-true n (length births) e)
    (λ e. let k : false ≡ true = sym none ∙ sym (ap is (birth_beyond births n (ltb-false n (length births) e))) ∙ h in absurd (cc))

fit_born : (births : List Birth) → IsFit (born births)
fit_born births = record {
  settled = record {
    solves = record { types = λ n. refl; marks = λ n k. k };
    leaves = record { alone = λ n k. refl; unmarked = λ n i j. j };
  };
  beyond = λ n k. refl;
  below = λ n k m e. (let i : m ≡ n = eqb-true m n e in omega (arith, i, k));
  marks = born_within births (λ (b : Birth). b.marked) refl;
  rigid = born_within births (λ (b : Birth). b.rigid) refl;
}

kept_born : (t : Table) → AreMade (store_of t) → IsKept (record { births = t.births; nodes = t.nodes; trail = [] })
kept_born t h = record {
  made = h;
  fit = fit_born t.births;
  next = refl;
  rigid = refl;
  unlinked = λ v e. refl;
  linked = λ v a e. absurd (cc);
  steady = λ v e. refl;
}

kept_entry : (t : Table) (e : Entry) → IsKept t → MayFollow t e → IsKept (with_entry e t)
kept_entry t (entry.Bound v a) k m = kept_bound t v a k m
kept_entry t (entry.Marked v) k m = kept_marked t v k m

first_entry : Entry
first_entry = entry.Marked 0

kept_cut : (t : Table) (n : ℕ) → IsHistory t → n ≤ length t.trail → IsKept (cut n t)
kept_cut t zero h l = kept_born t h.made
kept_cut t (suc n) h l =
    let e : Entry = get_or t.trail n first_entry in
    let at : slice_get t.trail n ≡ Some e = slice_get-get_or t.trail n first_entry (omega (arith, l)) in
    subst (λ es. IsKept (record { births = t.births; nodes = t.nodes; trail = es }))
    (sym (take-suc t.trail n first_entry (omega (arith, l))))
    (kept_entry (cut n t) e (kept_cut t n h (omega (arith, l))) (h.follows n e at))

pub kept : (t : Table) → IsHistory t → IsKept t
kept t h = subst (λ es. IsKept (record { births = t.births; nodes = t.nodes; trail = es })) (take-length t.trail)
    (kept_cut t (length t.trail) h (omega arith))

-- entries taken back
pub take_less : {X : Type 0} (i n : ℕ) (xs : List X) → i ≤ n → take i (take n xs) ≡ take i xs
take_less zero n xs h = refl
take_less (suc i) zero xs h = absurd (omega (arith, h))
take_less (suc i) (suc n) [] h = refl
take_less (suc i) (suc n) (x ∷ xs) h = ap (λ l. x ∷ l) (take_less i n xs (omega (arith, h)))

follow_at : (t : Table) (xs ys : List Entry) (e : Entry) → xs ≡ ys
    → MayFollow (record { births = t.births; nodes = t.nodes; trail = xs }) e
    → MayFollow (record { births = t.births; nodes = t.nodes; trail = ys }) e
follow_at t xs ys e h m = subst (λ z. MayFollow (record { births = t.births; nodes = t.nodes; trail = z }) e) h m

pub history_cut : (t : Table) (n : ℕ) → IsHistory t → IsHistory (cut n t)
history_cut t n h = record {
  made = h.made;
  follows = λ i e k. (let g = get_front n i t.trail e k in
      follow_at t _ _ e (sym (take_less i n t.trail (let l : i < n = g.0 in omega (arith, l)))) (h.follows i e g.1));
}

-- an entry more
entry_at : (t : Table) (e x : Entry) (i : ℕ) → IsHistory t → MayFollow t e
    → (slice_get t.trail i ≡ Some x) ⊎ ((i ≡ length t.trail) × (e ≡ x)) → MayFollow (cut i (with_entry e t)) x
entry_at t e x i h m (inl k) = let l : i < length t.trail = slice_get_within t.trail i x k in
    follow_at t _ _ x (sym (take-append-le i t.trail (e ∷ []) (omega (arith, l)))) (h.follows i x k)
entry_at t e x i h m (inr k) = follow_at t _ _ x
    (sym (ap (λ j. take j (t.trail ++ e ∷ [])) k.0 ∙ take-append_seam t.trail (e ∷ []))) (subst (MayFollow t) k.1 m)

pub history_entry : (t : Table) (e : Entry) → IsHistory t → MayFollow t e → IsHistory (with_entry e t)
history_entry t e h m = record {
  made = h.made;
  follows = λ i x k. entry_at t e x i h m (get_snoc t.trail e x i k);
}

-- a variable more
pub rank_front : (t : Table) (b : Birth) (a : TyId) → Has t a → rank (with_variable_of b t) a ≡ rank t a
rank_front t b (id.Variable v) h = ap (λ (x : Birth). cond x.rigid 0 (v + 1)) (get_or_append_left t.births (b ∷ []) _ v h)
rank_front t b (id.Made i) h = refl

head_front : (t : Table) (b : Birth) (a : TyId) → IsHead t a → IsHead (with_variable_of b t) a
head_front t b (id.Variable v) h = h
head_front t b (id.Made i) h = h

pub has_front : (t : Table) (b : Birth) (a : TyId) → Has t a → Has (with_variable_of b t) a
has_front t b a h = id_more _ _ _ _ a (let k : length (t.births ++ b ∷ []) ≡ length t.births + 1 = length_snoc t.births b in
    omega (arith, k)) (omega arith) h

pub stands_front : (t : Table) (b : Birth) → (state (with_variable_of b t)).stands ≡ (state t).stands
stands_front t b = after_stands (made t.nodes) (born (t.births ++ b ∷ [])) (born t.births) t.trail refl

pub whole_front : (t : Table) (b : Birth) (a : TyId) → whole (with_variable_of b t) a ≡ whole t a
whole_front t b a = ap (λ f. put f (type_of t a)) (stands_front t b)

pub marks_as : (t : Table) (v : ℕ) → (state t).marks v ≡ (marked_in t.births v || marks_it v t.trail)
marks_as t v = after_marks (made t.nodes) (born t.births) t.trail v

pub marks_front : (t : Table) (b : Birth) (v : ℕ) → v < length t.births
    → (state (with_variable_of b t)).marks v ≡ (state t).marks v
marks_front t b v h = marks_as (with_variable_of b t) v
    ∙ ap (λ (x : Birth). x.marked || marks_it v t.trail) (get_or_append_left t.births (b ∷ []) _ v h) ∙ sym (marks_as t v)

marks_grow : (t : Table) (b : Birth) (v : ℕ) → IsKept t → (state t).marks v ≡ true
    → (state (with_variable_of b t)).marks v ≡ true
marks_grow t b v k h = marks_front t b v (subst (λ n. v < n) k.next (k.fit.marks v h)) ∙ h

open_front : (t : Table) (b : Birth) (v : ℕ) → IsOpen t v → IsOpen (with_variable_of b t) v
open_front t b v h = record {
  within = (let k : length (t.births ++ b ∷ []) ≡ length t.births + 1 = length_snoc t.births b in omega (arith, k, h.within));
  unlinked = h.unlinked;
  flexible = ap (λ (x : Birth). x.rigid) (get_or_append_left t.births (b ∷ []) _ v h.within) ∙ h.flexible;
}

follow_front : (t : Table) (b : Birth) (e : Entry) → IsKept t → MayFollow t e → MayFollow (with_variable_of b t) e
follow_front t b (entry.Bound v a) k m = record {
  at = open_front t b v m.at;
  has = has_front t b a m.has;
  head = head_front t b a m.head;
  absent = ap (occurs v) (whole_front t b a) ∙ m.absent;
  admitted = λ h. admits_more (state t).marks (state (with_variable_of b t)).marks (whole (with_variable_of b t) a)
      (λ n i. marks_grow t b n k i)
      (subst (λ u. admits (state t).marks u ≡ true) (sym (whole_front t b a))
      (m.admitted (sym (marks_front t b v m.at.within) ∙ h)));
  falls = (let i = rank_front t b a m.has in let j = rank_front t b (id.Variable v) m.at.within in
      let l : rank t a < rank t (id.Variable v) = m.falls in
      subst (λ x. x < rank (with_variable_of b t) (id.Variable v)) (sym i) (subst (λ x. rank t a < x) (sym j) l));
}
follow_front t b (entry.Marked v) k m = record {
  at = open_front t b v m.at;
  unmarked = marks_front t b v m.at.within ∙ m.unmarked;
}

pub history_variable : (t : Table) (b : Birth) → IsHistory t → IsHistory (with_variable_of b t)
history_variable t b h = record {
  made = made_birth (store_of t) b h.made;
  follows = λ i e k. follow_front (cut i t) b e (kept (cut i t) (history_cut t i h)) (h.follows i e k);
}

-- the state has one variable more
born_here : (births : List Birth) (b : Birth) (n : ℕ) → n ≡ length births → birth_in (births ++ b ∷ []) n ≡ b
born_here births b n h = get_or_push births b _ n (sym h)

no_mark : (t : Table) → IsKept t → marks_it (length t.births) t.trail ≡ false
no_mark t k = either_way (marks_it (length t.births) t.trail)
    (λ e. let l : length t.births < length t.births = subst (λ n. length t.births < n) k.next
    (k.fit.marks (length t.births) (marks_as t (length t.births) ∙ or_right _ _ e)) in absurd (omega (arith, l)))
    (λ e. e)

or_no : (a b : Bool) → b ≡ false → (a || b) ≡ a
or_no true b h = refl
or_no false b h = h

shorter : (n k : ℕ) → eqb (suc n) (suc k) ≡ false → eqb n k ≡ false
shorter n k h = either_way (eqb n k) (λ e. absurd (eqb-false (suc n) (suc k) h (ap suc (eqb-true n k e)))) (λ e. e)

birth_other : (births : List Birth) (b : Birth) (n : ℕ) → eqb n (length births) ≡ false
    → birth_in (births ++ b ∷ []) n ≡ birth_in births n
birth_other [] b zero h = absurd (cc)
birth_other [] b (suc n) h = refl
birth_other (x ∷ xs) b zero h = refl
birth_other (x ∷ xs) b (suc n) h = birth_other xs b n (shorter n (length xs) h)

pub mark_new : (t : Table) (b : Birth) (n : ℕ) → IsKept t
    → (state (with_variable_of b t)).marks n ≡ cond (eqb n (length t.births)) b.marked ((state t).marks n)
mark_new t b n k = either_way (eqb n (length t.births))
    (λ e. let i : n ≡ length t.births = eqb-true n (length t.births) e in
    marks_as (with_variable_of b t) n ∙ or_no _ _ (ap (λ z. marks_it z t.trail) i ∙ no_mark t k)
    ∙ ap (λ (x : Birth). x.marked) (born_here t.births b n i)
    ∙ sym (ap (λ z. cond z b.marked ((state t).marks n)) e))
    (λ e. marks_as (with_variable_of b t) n
    ∙ ap (λ (x : Birth). x.marked || marks_it n t.trail) (birth_other t.births b n e) ∙ sym (marks_as t n)
    ∙ sym (ap (λ z. cond z b.marked ((state t).marks n)) e))

rigid_new : (births : List Birth) (b : Birth) (n : ℕ)
    → rigid_in (births ++ b ∷ []) n ≡ cond (eqb n (length births)) b.rigid (rigid_in births n)
rigid_new births b n = either_way (eqb n (length births))
    (λ e. ap (λ (x : Birth). x.rigid) (born_here births b n (eqb-true n (length births) e))
    ∙ sym (ap (λ z. cond z b.rigid (rigid_in births n)) e))
    (λ e. ap (λ (x : Birth). x.rigid) (birth_other births b n e) ∙ sym (ap (λ z. cond z b.rigid (rigid_in births n)) e))

state_same : (s r : State) → s.next ≡ r.next → s.stands ≡ r.stands → s.marks ≡ r.marks → s.rigid ≡ r.rigid → s ≡ r
state_same s r a b c d = λ i. record { next = a i; stands = b i; marks = c i; rigid = d i }

pub state_variable : (t : Table) (b : Birth) → IsHistory t
    → state (with_variable_of b t) ≡ with_variable b.rigid b.marked (state t)
state_variable t b h =
    let k : IsKept t = kept t h in
    let j : IsKept (with_variable_of b t) = kept (with_variable_of b t) (history_variable t b h) in
    state_same _ _
    (j.next ∙ length_snoc t.births b ∙ ap (λ n. n + 1) (sym k.next))
    (stands_front t b)
    (same_marks _ _ (λ n. mark_new t b n k ∙ ap (λ z. cond (eqb n z) b.marked ((state t).marks n)) (sym k.next)))
    (j.rigid ∙ same_marks _ _ (λ n. rigid_new t.births b n
    ∙ ap₂ (λ z f. cond (eqb n z) b.rigid (f n)) (sym k.next) (sym k.rigid)))

-- a node more
pub bound_has : (t : Table) (i v : ℕ) (a : TyId) → IsHistory t → slice_get t.trail i ≡ Some (entry.Bound v a) → Has t a
bound_has t i v a h e = (let m : MayStand (cut i t) v a = h.follows i (entry.Bound v a) e in m.has)

pub state_node : (t : Table) (x : Node) → IsHistory t → state (with_node_of x t) ≡ state t
state_node t x h = after_alike (made (t.nodes ++ x ∷ [])) (made t.nodes) (born t.births) t.trail
    (λ i v a e. type_front t.nodes (x ∷ []) (length t.births) a (bound_has t i v a h e))

pub whole_node : (t : Table) (x : Node) (a : TyId) → IsHistory t → Has t a → whole (with_node_of x t) a ≡ whole t a
whole_node t x a h l = ap₂ (λ (s : State) u. put s.stands u) (state_node t x h) (type_front t.nodes (x ∷ []) (length t.births) a l)

pub has_node : (t : Table) (x : Node) (a : TyId) → Has t a → Has (with_node_of x t) a
has_node t x a h = id_more _ _ _ _ a (omega arith)
    (let k : length (t.nodes ++ x ∷ []) ≡ length t.nodes + 1 = length_snoc t.nodes x in omega (arith, k)) h

head_node : (t : Table) (x : Node) (a : TyId) → IsHead t a → IsHead (with_node_of x t) a
head_node t x (id.Variable v) h = h
head_node t x (id.Made i) h = h

pub rank_node : (t : Table) (x : Node) (a : TyId) → rank (with_node_of x t) a ≡ rank t a
rank_node t x (id.Variable v) = refl
rank_node t x (id.Made i) = refl

follow_node : (t : Table) (x : Node) (e : Entry) → IsHistory t → MayFollow t e → MayFollow (with_node_of x t) e
follow_node t x (entry.Bound v a) h m =
    let same : state (with_node_of x t) ≡ state t = state_node t x h in
    let type : whole (with_node_of x t) a ≡ whole t a = whole_node t x a h m.has in
    record {
      at = record { within = m.at.within; unlinked = m.at.unlinked; flexible = m.at.flexible };
      has = has_node t x a m.has;
      head = head_node t x a m.head;
      absent = ap (occurs v) type ∙ m.absent;
      admitted = λ k. ap₂ (λ (s : State) u. admits s.marks u) same type ∙ m.admitted (sym (ap (λ (s : State). s.marks v) same) ∙ k);
      falls = subst (λ n. n < rank t (id.Variable v)) (sym (rank_node t x a)) m.falls;
    }
follow_node t x (entry.Marked v) h m = record {
  at = record { within = m.at.within; unlinked = m.at.unlinked; flexible = m.at.flexible };
  unmarked = ap (λ (s : State). s.marks v) (state_node t x h) ∙ m.unmarked;
}

pub history_node : (t : Table) (x : Node) → IsHistory t → IsNode (store_of t) x → IsHistory (with_node_of x t)
history_node t x h n = record {
  made = made_node (store_of t) x h.made n;
  follows = λ i e k. follow_node (cut i t) x e (history_cut t i h) (h.follows i e k);
}
