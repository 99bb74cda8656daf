-- links and marks that are kept beside a trail
use Rattle.std.proofs.Common.{◌≡◌, ℕ, zero, suc, ◌+◌, ◌<◌, ◌≤◌, List, [], ◌∷◌, ◌++◌, length, refl, sym, ap, ap₂, ◌∙◌, subst, Option, Some, None, Bool, true, false, cond, arith, ◌⊎◌, inl, inr, slice_get, take}
use Rattle.std.proofs.lemmas.Option.{slice_get_within}
use Rattle.std.proofs.lemmas.List.{get_or-take, length-take-le, length-set}
use Rattle.std.proofs.Math.Seq.{take-append_seam}
use Rattle.std.proofs.lemmas.Bool.{eq-eqb, eqb-true, eqb-false}
use Rattle.std.specs.Prelude.{eqb, slice_set, ◌||◌}
use Rattle.semantic_objects.specs.declared.name.TyId.{TyId}
use Rattle.unification.specs.Types.{Ty, State, occurs, marked}
use Rattle.unification.specs.Instances.{with_variable}
use Rattle.unification.proofs.Putting.{either_way}
use Rattle.type_nodes.specs.declared.node.Birth.{Birth}
use Rattle.type_nodes.specs.declared.node.Node.{Node}
use Rattle.type_nodes.specs.Nodes.{Store, AreMade, IsNode, with_birth, with_node, birth_in}
use Rattle.type_nodes.proofs.Knowing.{get_front, no_item}
use Rattle.type_nodes.proofs.Making.{length_snoc, get_snoc, made_nothing}
use Rattle.type_nodes.specs.declared.entry.Entry.{Entry}
use Rattle.type_nodes.specs.declared.entry.Entry.TheVariants as entry
use Rattle.type_nodes.specs.Tables.{Table, store_of, state, whole, link, LinkedTo, LinkOf, with_variable_of, with_node_of, with_entry, cut, IsFrontOf}
use Rattle.type_nodes.specs.Keeping.{MayStand, MayMark, MayFollow, IsHistory, IsKept, IsTable, Remembers, last_variable, links_without, marks_without}
use Rattle.type_nodes.proofs.Playing.{link_bound, link_marked, marks_it}
use Rattle.type_nodes.proofs.Binding.{whole_below, state_bound, state_marked}
use Rattle.type_nodes.proofs.Histories.{kept, state_variable, history_cut, history_entry, history_variable, history_node, state_node, marks_as, marks_front, mark_new}

-- what isn't a variable of the table has no link
pub linked_beyond : (t : Table) (v : ℕ) (a : TyId) → IsKept t → length t.births ≤ v → LinkedTo t v a → ⊥
linked_beyond t v a k h l =
    let e : Ty.Var v ≡ whole t a = sym (k.fit.beyond v (subst (λ n. n ≤ v) (sym k.next) h)) ∙ l.whole in
    let i : v < (state t).next = whole_below t a k l.has v (subst (λ u. occurs v u ≡ true) e (eq-eqb v v refl)) in
    let j : (state t).next ≡ length t.births = k.next in omega (arith, i, j, h)

link_none : (t : Table) (v : ℕ) (o : Option TyId) → IsKept t → length t.births ≤ v → link t v ≡ o → None ≡ o
link_none t v None k h e = refl
link_none t v (Some a) k h e = absurd (linked_beyond t v a k h (k.linked v a e))

pub table_nothing : IsTable (record { births = []; nodes = []; trail = [] }) [] []
table_nothing =
    let h : IsHistory (record { births = []; nodes = []; trail = [] }) = record { made = made_nothing; follows = λ i e k. absurd (no_item i e k) } in
    record {
      history = h;
      kept = kept _ h;
      links_counted = refl;
      marks_counted = refl;
      links_are = λ v o e. absurd (no_item v o e);
      marks_are = λ v b e. absurd (no_item v b e);
    }

link_new : (t : Table) (ls : List (Option TyId)) (v : ℕ) (o : Option TyId) → IsKept t → length ls ≡ length t.births
    → ((w : ℕ) (p : Option TyId) → slice_get ls w ≡ Some p → p ≡ link t w)
    → (slice_get ls v ≡ Some o) ⊎ ((v ≡ length ls) × (None ≡ o)) → o ≡ link t v
link_new t ls v o k n h (inl e) = h v o e
link_new t ls v o k n h (inr e) = sym e.1 ∙ link_none t v (link t v) k (let i : v ≡ length ls = e.0 in omega (arith, i, n)) refl

mark_fresh : (t : Table) (b : Birth) (ms : List Bool) (v : ℕ) (m : Bool) → IsKept t → length ms ≡ length t.births
    → ((w : ℕ) (p : Bool) → slice_get ms w ≡ Some p → p ≡ (state t).marks w)
    → (slice_get ms v ≡ Some m) ⊎ ((v ≡ length ms) × (b.marked ≡ m)) → m ≡ (state (with_variable_of b t)).marks v
mark_fresh t b ms v m k n h (inl e) = h v m e
    ∙ sym (marks_front t b v (let l : v < length ms = slice_get_within ms v m e in omega (arith, l, n)))
mark_fresh t b ms v m k n h (inr e) = sym e.1
    ∙ sym (mark_new t b v k ∙ ap (λ z. cond z b.marked ((state t).marks v)) (eq-eqb v (length t.births) (e.0 ∙ n)))

pub table_variable : (t : Table) (ls : List (Option TyId)) (ms : List Bool) (b : Birth) → IsTable t ls ms
    → IsTable (with_variable_of b t) (ls ++ None ∷ []) (ms ++ b.marked ∷ [])
table_variable t ls ms b h =
    let g : IsHistory (with_variable_of b t) = history_variable t b h.history in
    record {
      history = g;
      kept = kept _ g;
      links_counted = length_snoc ls None ∙ ap (λ n. n + 1) h.links_counted ∙ sym (length_snoc t.births b);
      marks_counted = length_snoc ms b.marked ∙ ap (λ n. n + 1) h.marks_counted ∙ sym (length_snoc t.births b);
      links_are = λ v o e. link_new t ls v o h.kept h.links_counted h.links_are (get_snoc ls None o v e);
      marks_are = λ v m e. mark_fresh t b ms v m h.kept h.marks_counted h.marks_are (get_snoc ms b.marked m v e);
    }

pub table_node : (t : Table) (ls : List (Option TyId)) (ms : List Bool) (x : Node) → IsTable t ls ms
    → IsNode (store_of t) x → IsTable (with_node_of x t) ls ms
table_node t ls ms x h n =
    let g : IsHistory (with_node_of x t) = history_node t x h.history n in
    record {
      history = g;
      kept = kept _ g;
      links_counted = h.links_counted;
      marks_counted = h.marks_counted;
      links_are = h.links_are;
      marks_are = λ v m e. h.marks_are v m e ∙ sym (ap (λ (s : State). s.marks v) (state_node t x h.history));
    }

-- an item of a list that was changed at one place
unequal : (v i : ℕ) → (v ≡ i → ⊥) → eqb v i ≡ false
unequal v i h = either_way (eqb v i) (λ e. absurd (h (eqb-true v i e))) (λ e. e)

next_cases : {P Q : Type 0} (v i : ℕ) → ((v ≡ i) × P) ⊎ ((eqb v i ≡ false) × Q)
    → ((suc v ≡ suc i) × P) ⊎ ((eqb (suc v) (suc i) ≡ false) × Q)
next_cases v i (inl p) = inl (ap suc p.0, p.1)
next_cases v i (inr q) = inr (unequal (suc v) (suc i) (λ e. eqb-false v i q.0 (omega (arith, e))), q.1)

pub set_cases : {X : Type 0} (xs : List X) (v i : ℕ) (x y : X) → slice_get (slice_set xs v x) i ≡ Some y
    → v < length xs → ((v ≡ i) × (x ≡ y)) ⊎ ((eqb v i ≡ false) × (slice_get xs i ≡ Some y))
set_cases [] v i x y h l = absurd (omega (arith, l))
set_cases (z ∷ zs) zero zero x y h l = inl (refl, cc)
set_cases (z ∷ zs) zero (suc i) x y h l = inr (unequal zero (suc i) (λ e. omega (arith, e)), h)
set_cases (z ∷ zs) (suc v) zero x y h l = inr (unequal (suc v) zero (λ e. omega (arith, e)), h)
set_cases (z ∷ zs) (suc v) (suc i) x y h l = next_cases v i (set_cases zs v i x y h (omega (arith, l)))

link_bound_at : (t : Table) (ls : List (Option TyId)) (v w : ℕ) (a : TyId) (o : Option TyId)
    → ((i : ℕ) (p : Option TyId) → slice_get ls i ≡ Some p → p ≡ link t i)
    → ((v ≡ w) × (Some a ≡ o)) ⊎ ((eqb v w ≡ false) × (slice_get ls w ≡ Some o))
    → o ≡ cond (eqb v w) (Some a) (link t w)
link_bound_at t ls v w a o h (inl e) = sym e.1 ∙ sym (ap (λ b. cond b (Some a) (link t w)) (eq-eqb v w e.0))
link_bound_at t ls v w a o h (inr e) = h w o e.1 ∙ sym (ap (λ b. cond b (Some a) (link t w)) e.0)

pub table_bound : (t : Table) (ls : List (Option TyId)) (ms : List Bool) (v : ℕ) (a : TyId) → IsTable t ls ms
    → MayStand t v a → IsTable (with_entry (entry.Bound v a) t) (slice_set ls v (Some a)) ms
table_bound t ls ms v a h m =
    let g : IsHistory (with_entry (entry.Bound v a) t) = history_entry t (entry.Bound v a) h.history m in
    record {
      history = g;
      kept = kept _ g;
      links_counted = length-set ls v (Some a) ∙ h.links_counted;
      marks_counted = h.marks_counted;
      links_are = λ w o e. link_bound_at t ls v w a o h.links_are
          (set_cases ls v w (Some a) o e (let l : v < length t.births = m.at.within in omega (arith, l, h.links_counted)))
          ∙ sym (link_bound w v a None t.trail);
      marks_are = λ w b e. h.marks_are w b e ∙ sym (ap (λ (s : State). s.marks w) (state_bound t v a));
    }

mark_at : (q : ℕ → Bool) (ms : List Bool) (v w : ℕ) (b : Bool)
    → ((i : ℕ) (p : Bool) → slice_get ms i ≡ Some p → p ≡ q i)
    → ((v ≡ w) × (true ≡ b)) ⊎ ((eqb v w ≡ false) × (slice_get ms w ≡ Some b)) → b ≡ marked v q w
mark_at q ms v w b h (inl e) = sym e.1 ∙ sym (ap (λ z. z || q w) (eq-eqb v w e.0))
mark_at q ms v w b h (inr e) = h w b e.1 ∙ sym (ap (λ z. z || q w) e.0)

pub table_marked : (t : Table) (ls : List (Option TyId)) (ms : List Bool) (v : ℕ) → IsTable t ls ms → MayMark t v
    → IsTable (with_entry (entry.Marked v) t) ls (slice_set ms v true)
table_marked t ls ms v h m =
    let g : IsHistory (with_entry (entry.Marked v) t) = history_entry t (entry.Marked v) h.history m in
    record {
      history = g;
      kept = kept _ g;
      links_counted = h.links_counted;
      marks_counted = length-set ms v true ∙ h.marks_counted;
      links_are = λ w o e. h.links_are w o e ∙ sym (link_marked w v None t.trail);
      marks_are = λ w b e. mark_at (state t).marks ms v w b h.marks_are
          (set_cases ms v w true b e (let l : v < length t.births = m.at.within in omega (arith, l, h.marks_counted)))
          ∙ sym (ap (λ (s : State). s.marks w) (state_marked t v));
    }

-- the last entry taken back
link_back : (t : Table) (ls : List (Option TyId)) (v w : ℕ) (a : TyId) (o : Option TyId) → link t v ≡ None
    → ((i : ℕ) (p : Option TyId) → slice_get ls i ≡ Some p → p ≡ cond (eqb v i) (Some a) (link t i))
    → ((v ≡ w) × (None ≡ o)) ⊎ ((eqb v w ≡ false) × (slice_get ls w ≡ Some o)) → o ≡ link t w
link_back t ls v w a o k h (inl e) = sym e.1 ∙ sym k ∙ ap (link t) e.0
link_back t ls v w a o k h (inr e) = h w o e.1 ∙ ap (λ b. cond b (Some a) (link t w)) e.0

mark_back : (q : ℕ → Bool) (ms : List Bool) (v w : ℕ) (b : Bool) → q v ≡ false
    → ((i : ℕ) (p : Bool) → slice_get ms i ≡ Some p → p ≡ marked v q i)
    → ((v ≡ w) × (false ≡ b)) ⊎ ((eqb v w ≡ false) × (slice_get ms w ≡ Some b)) → b ≡ q w
mark_back q ms v w b k h (inl e) = sym e.1 ∙ sym k ∙ ap q e.0
mark_back q ms v w b k h (inr e) = h w b e.1 ∙ ap (λ z. z || q w) e.0

get_last : {X : Type 0} (xs : List X) (x : X) → slice_get (xs ++ x ∷ []) (length xs) ≡ Some x
get_last [] x = refl
get_last (y ∷ ys) x = get_last ys x

last_follows : (t : Table) (e : Entry) → IsHistory (with_entry e t) → MayFollow t e
last_follows t e h = subst (λ es. MayFollow (record { births = t.births; nodes = t.nodes; trail = es }) e)
    (take-append_seam t.trail (e ∷ [])) (h.follows (length t.trail) e (get_last t.trail e))

front_history : (t : Table) (e : Entry) → IsHistory (with_entry e t) → IsHistory t
front_history t e h = subst (λ es. IsHistory (record { births = t.births; nodes = t.nodes; trail = es }))
    (take-append_seam t.trail (e ∷ [])) (history_cut (with_entry e t) (length t.trail) h)

pub pop_bound : (t : Table) (ls : List (Option TyId)) (ms : List Bool) (v : ℕ) (a : TyId)
    → IsTable (with_entry (entry.Bound v a) t) ls ms → IsTable t (slice_set ls v None) ms
pop_bound t ls ms v a h =
    let g : IsHistory t = front_history t (entry.Bound v a) h.history in
    let m : MayStand t v a = last_follows t (entry.Bound v a) h.history in
    record {
      history = g;
      kept = kept t g;
      links_counted = length-set ls v None ∙ h.links_counted;
      marks_counted = h.marks_counted;
      links_are = λ w o e. link_back t ls v w a o m.at.unlinked
          (λ i p k. h.links_are i p k ∙ link_bound i v a None t.trail)
          (set_cases ls v w None o e (let l : v < length t.births = m.at.within in omega (arith, l, h.links_counted)));
      marks_are = λ w b e. h.marks_are w b e ∙ ap (λ (s : State). s.marks w) (state_bound t v a);
    }

pub pop_marked : (t : Table) (ls : List (Option TyId)) (ms : List Bool) (v : ℕ)
    → IsTable (with_entry (entry.Marked v) t) ls ms → IsTable t ls (slice_set ms v false)
pop_marked t ls ms v h =
    let g : IsHistory t = front_history t (entry.Marked v) h.history in
    let m : MayMark t v = last_follows t (entry.Marked v) h.history in
    record {
      history = g;
      kept = kept t g;
      links_counted = h.links_counted;
      marks_counted = length-set ms v false ∙ h.marks_counted;
      links_are = λ w o e. h.links_are w o e ∙ link_marked w v None t.trail;
      marks_are = λ w b e. mark_back (state t).marks ms v w b m.unmarked
          (λ i p k. h.marks_are i p k ∙ ap (λ (s : State). s.marks i) (state_marked t v))
          (set_cases ms v w false b e (let l : v < length t.births = m.at.within in omega (arith, l, h.marks_counted)));
    }

follows_within : (t : Table) (e : Entry) → MayFollow t e → last_variable e < length t.births
follows_within t (entry.Bound v a) m = m.at.within
follows_within t (entry.Marked v) m = m.at.within

pop_entry : (t : Table) (ls : List (Option TyId)) (ms : List Bool) (e : Entry) → IsTable (with_entry e t) ls ms
    → IsTable t (links_without e ls) (marks_without e ms)
pop_entry t ls ms (entry.Bound v a) h = pop_bound t ls ms v a h
pop_entry t ls ms (entry.Marked v) h = pop_marked t ls ms v h

abbrev with_trail : Table → List Entry → Table
with_trail t es = record { births = t.births; nodes = t.nodes; trail = es }

pub table_pop : (t : Table) (all rest : List Entry) (ls ks : List (Option TyId)) (ms ns : List Bool) (e : Entry)
    → IsTable (record { births = t.births; nodes = t.nodes; trail = all }) ls ms → all ≡ rest ++ e ∷ []
    → ks ≡ links_without e ls → ns ≡ marks_without e ms
    → IsTable (record { births = t.births; nodes = t.nodes; trail = rest }) ks ns
table_pop t all rest ls ks ms ns e h a b c =
    subst (λ k. IsTable (with_trail t rest) k ns) (sym b)
    (subst (λ n. IsTable (with_trail t rest) (links_without e ls) n) (sym c)
    (pop_entry (with_trail t rest) ls ms e (subst (λ es. IsTable (with_trail t es) ls ms) a h)))

pub last_within : (t : Table) (all rest : List Entry) (ls : List (Option TyId)) (ms : List Bool) (e : Entry)
    → IsTable (record { births = t.births; nodes = t.nodes; trail = all }) ls ms → all ≡ rest ++ e ∷ []
    → (last_variable e < length ls) × (last_variable e < length ms)
last_within t all rest ls ms e h a =
    let g : IsTable (with_entry e (with_trail t rest)) ls ms = subst (λ es. IsTable (with_trail t es) ls ms) a h in
    let l : last_variable e < length t.births = follows_within (with_trail t rest) e (last_follows (with_trail t rest) e g.history) in
    (omega (arith, l, g.links_counted), omega (arith, l, g.marks_counted))

-- variables and nodes taken back to those of a table that was one
mark_old : (p t : Table) (v : ℕ) → take (length p.births) t.births ≡ p.births → t.trail ≡ p.trail
    → v < length p.births → (state t).marks v ≡ (state p).marks v
mark_old p t v h e l = marks_as t v
    ∙ ap₂ (λ (b : Birth) es. b.marked || marks_it v es)
    (sym (get_or-take (length p.births) t.births v (record { marked = false; rigid = false }) l) ∙ ap (λ bs. birth_in bs v) h) e
    ∙ sym (marks_as p v)

link_old : (p t : Table) (v : ℕ) → t.trail ≡ p.trail → link t v ≡ link p v
link_old p t v e = ap (λ es. link (record { births = []; nodes = []; trail = es }) v) e

pub table_back : (p t : Table) (ls : List (Option TyId)) (ms : List Bool) (n : ℕ) → IsTable t ls ms → IsHistory p
    → n ≡ length p.births → take (length p.births) t.births ≡ p.births → t.trail ≡ p.trail
    → length p.births ≤ length t.births → IsTable p (take n ls) (take n ms)
table_back p t ls ms n h g k births trail less = record {
  history = g;
  kept = kept p g;
  links_counted = length-take-le n ls (omega (arith, k, less, h.links_counted)) ∙ k;
  marks_counted = length-take-le n ms (omega (arith, k, less, h.marks_counted)) ∙ k;
  links_are = λ v o e. (let i = get_front n v ls o e in h.links_are v o i.1 ∙ link_old p t v trail);
  marks_are = λ v b e. (let i = get_front n v ms b e in h.marks_are v b i.1
      ∙ mark_old p t v births trail (let l : v < n = i.0 in omega (arith, l, k)));
}

pub front_less : {X : Type 0} (xs ys : List X) (n : ℕ) → take n ys ≡ xs → n ≡ length xs → length xs ≤ length ys
front_less [] ys n h e = omega arith
front_less (x ∷ xs) [] zero h e = absurd (omega (arith, e))
front_less (x ∷ xs) [] (suc n) h e = absurd (cc)
front_less (x ∷ xs) (y ∷ ys) zero h e = absurd (omega (arith, e))
front_less (x ∷ xs) (y ∷ ys) (suc n) h e = (let i : take n ys ≡ xs = cc in
    let k : length xs ≤ length ys = front_less xs ys n i (omega (arith, e)) in omega (arith, k))

-- what a variable is linked to
pub link_read : (t : Table) (v : ℕ) (o : Option TyId) → IsKept t → o ≡ link t v → LinkOf t v o
link_read t v None k e = (sym e, k.unlinked v (sym e))
link_read t v (Some a) k e = k.linked v a (sym e)

-- a table of fields
abbrev pub table_with : Store → List Entry → Table
table_with s es = record { births = s.births; nodes = s.nodes; trail = es }

pub added_variable : (old new : Store) (es : List Entry) (ls ks : List (Option TyId)) (ms ns : List Bool) (b : Birth)
    → IsTable (table_with old es) ls ms → new ≡ with_birth b old → ks ≡ ls ++ None ∷ [] → ns ≡ ms ++ b.marked ∷ []
    → IsTable (table_with new es) ks ns
added_variable old new es ls ks ms ns b h e f g =
    subst (λ s. IsTable (table_with s es) ks ns) (sym e)
    (subst (λ k. IsTable (table_with (with_birth b old) es) k ns) (sym f)
    (subst (λ n. IsTable (table_with (with_birth b old) es) (ls ++ None ∷ []) n) (sym g)
    (table_variable (table_with old es) ls ms b h)))

pub added_node : (old new : Store) (es : List Entry) (ls : List (Option TyId)) (ms : List Bool) (x : Node)
    → IsTable (table_with old es) ls ms → IsNode old x → new ≡ with_node x old → IsTable (table_with new es) ls ms
added_node old new es ls ms x h n e = subst (λ s. IsTable (table_with s es) ls ms) (sym e)
    (table_node (table_with old es) ls ms x h n)

pub state_added : (old new : Store) (es : List Entry) (ls : List (Option TyId)) (ms : List Bool) (b : Birth) (t : Table)
    → IsTable (table_with old es) ls ms → new ≡ with_birth b old → table_with old es ≡ t
    → state (table_with new es) ≡ with_variable b.rigid b.marked (state t)
state_added old new es ls ms b t h e f = ap (λ s. state (table_with s es)) e
    ∙ state_variable (table_with old es) b h.history ∙ ap (λ u. with_variable b.rigid b.marked (state u)) f

pub state_kept : (old new : Store) (es : List Entry) (ls : List (Option TyId)) (ms : List Bool) (x : Node) (t : Table)
    → IsTable (table_with old es) ls ms → new ≡ with_node x old → table_with old es ≡ t
    → state (table_with new es) ≡ state t
state_kept old new es ls ms x t h e f = ap (λ s. state (table_with s es)) e
    ∙ state_node (table_with old es) x h.history ∙ ap state f

-- a table that is undone
pub front_entries : (p now old : Table) (v n e : ℕ) → Remembers p v n e → p ≡ now → IsFrontOf now old
    → e ≤ length old.trail
front_entries p now old v n e m k h =
    let f : IsFrontOf p old = subst (λ z. IsFrontOf z old) (sym k) h in
    let l : length p.trail ≤ length old.trail = front_less p.trail old.trail (length p.trail) f.trail refl in
    omega (arith, l, m.entries)

pub made_back : (p now old t : Table) (v n e : ℕ) → Remembers p v n e → p ≡ now → IsFrontOf now old → t ≡ cut e old
    → AreMade (record { births = take v t.births; nodes = take n t.nodes })
made_back p now old t v n e m k h i =
    let f : IsFrontOf p old = subst (λ z. IsFrontOf z old) (sym k) h in
    let w : take v t.births ≡ p.births = ap₂ (λ j (z : Table). take j z.births) m.variables i ∙ f.births in
    let x : take n t.nodes ≡ p.nodes = ap₂ (λ j (z : Table). take j z.nodes) m.nodes i ∙ f.nodes in
    let y : store_of p ≡ record { births = take v t.births; nodes = take n t.nodes } =
    λ j. record { births = sym w j; nodes = sym x j } in
    subst AreMade y m.history.made

pub undone : (p now old t : Table) (s : Store) (ls ks : List (Option TyId)) (ms ns : List Bool) (v n e : ℕ)
    → Remembers p v n e → p ≡ now → IsFrontOf now old → t ≡ cut e old → IsTable t ls ms
    → s ≡ record { births = take v t.births; nodes = take n t.nodes } → ks ≡ take v ls → ns ≡ take v ms
    → IsTable (table_with s t.trail) ks ns
undone p now old t s ls ks ms ns v n e m k h i g a b c =
    let f : IsFrontOf p old = subst (λ z. IsFrontOf z old) (sym k) h in
    let births : take (length p.births) t.births ≡ p.births = ap (λ (z : Table). take (length p.births) z.births) i ∙ f.births in
    let nodes : take (length p.nodes) t.nodes ≡ p.nodes = ap (λ (z : Table). take (length p.nodes) z.nodes) i ∙ f.nodes in
    let trail : t.trail ≡ p.trail = ap (λ (z : Table). z.trail) i ∙ ap (λ j. take j old.trail) m.entries ∙ f.trail in
    let less : length p.births ≤ length t.births = front_less p.births t.births (length p.births) births refl in
    let o : IsTable p (take v ls) (take v ms) = table_back p t ls ms v g m.history m.variables births trail less in
    let w : s.births ≡ p.births = ap (λ (z : Store). z.births) a ∙ ap (λ j. take j t.births) m.variables ∙ births in
    let x : s.nodes ≡ p.nodes = ap (λ (z : Store). z.nodes) a ∙ ap (λ j. take j t.nodes) m.nodes ∙ nodes in
    let y : p ≡ table_with s t.trail = λ j. record { births = sym w j; nodes = sym x j; trail = sym trail j } in
    subst (λ z. IsTable z ks ns) y (subst (λ q. IsTable p q ns) (sym b) (subst (λ r. IsTable p (take v ls) r) (sym c) o))
