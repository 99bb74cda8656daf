-- how trails are played
use Rattle.std.proofs.Common.{◌≡◌, ℕ, suc, List, [], ◌∷◌, ◌++◌, refl, ap, ◌∙◌, Option, Some, Bool, true, false, cond, slice_get}
use Rattle.std.specs.Prelude.{eqb, ◌||◌}
use Rattle.semantic_objects.specs.declared.name.TyId.{TyId}
use Rattle.unification.specs.Types.{Ty, State, put}
use Rattle.unification.specs.Unification.{bind}
use Rattle.type_nodes.specs.Nodes.{type_in}
use Rattle.type_nodes.specs.declared.entry.Entry.{Entry}
use Rattle.type_nodes.specs.declared.entry.Entry.TheVariants as entry
use Rattle.type_nodes.specs.Tables.{bound_in, marked_state, after_entry, after_entries, link_after}

pub after_snoc : (m : List Ty) (s : State) (es : List Entry) (e : Entry)
    → after_entries m s (es ++ e ∷ []) ≡ after_entry m (after_entries m s es) e
after_snoc m s [] e = refl
after_snoc m s (x ∷ xs) e = after_snoc m (after_entry m s x) xs e

pub link_bound : (v w : ℕ) (a : TyId) (o : Option TyId) (es : List Entry)
    → link_after v o (es ++ entry.Bound w a ∷ []) ≡ cond (eqb w v) (Some a) (link_after v o es)
link_bound v w a o [] = refl
link_bound v w a o (entry.Bound x b ∷ es) = link_bound v w a (cond (eqb x v) (Some b) o) es
link_bound v w a o (entry.Marked x ∷ es) = link_bound v w a o es

pub link_marked : (v w : ℕ) (o : Option TyId) (es : List Entry)
    → link_after v o (es ++ entry.Marked w ∷ []) ≡ link_after v o es
link_marked v w o [] = refl
link_marked v w o (entry.Bound x b ∷ es) = link_marked v w (cond (eqb x v) (Some b) o) es
link_marked v w o (entry.Marked x ∷ es) = link_marked v w o es

pub after_next : (m : List Ty) (s : State) (es : List Entry) → (after_entries m s es).next ≡ s.next
after_next m s [] = refl
after_next m s (entry.Bound v a ∷ es) = after_next m (bound_in v (put s.stands (type_in m a)) s) es
after_next m s (entry.Marked v ∷ es) = after_next m (marked_state v s) es

pub after_rigid : (m : List Ty) (s : State) (es : List Entry) → (after_entries m s es).rigid ≡ s.rigid
after_rigid m s [] = refl
after_rigid m s (entry.Bound v a ∷ es) = after_rigid m (bound_in v (put s.stands (type_in m a)) s) es
after_rigid m s (entry.Marked v ∷ es) = after_rigid m (marked_state v s) es

-- what stands for variables doesn't hang on marks
pub after_stands : (m : List Ty) (s r : State) (es : List Entry) → s.stands ≡ r.stands
    → (after_entries m s es).stands ≡ (after_entries m r es).stands
after_stands m s r [] h = h
after_stands m s r (entry.Bound v a ∷ es) h = after_stands m (bound_in v (put s.stands (type_in m a)) s)
    (bound_in v (put r.stands (type_in m a)) r) es (ap (λ f. bind v (put f (type_in m a)) f) h)
after_stands m s r (entry.Marked v ∷ es) h = after_stands m (marked_state v s) (marked_state v r) es h

-- whether a trail marks a variable
abbrev pub marks_it : ℕ → List Entry → Bool
marks_it n [] = false
marks_it n (entry.Bound v a ∷ es) = marks_it n es
marks_it n (entry.Marked v ∷ es) = eqb v n || marks_it n es

or_twist : (a b c : Bool) → ((a || b) || c) ≡ (b || (a || c))
or_twist true true c = refl
or_twist true false c = refl
or_twist false true c = refl
or_twist false false c = refl

or_none : (a : Bool) → a ≡ (a || false)
or_none true = refl
or_none false = refl

pub after_marks : (m : List Ty) (s : State) (es : List Entry) (n : ℕ)
    → (after_entries m s es).marks n ≡ (s.marks n || marks_it n es)
after_marks m s [] n = or_none (s.marks n)
after_marks m s (entry.Bound v a ∷ es) n = after_marks m (bound_in v (put s.stands (type_in m a)) s) es n
after_marks m s (entry.Marked v ∷ es) n = after_marks m (marked_state v s) es n
    ∙ or_twist (eqb v n) (s.marks n) (marks_it n es)

-- the nodes that a trail names are all that it hangs on
pub after_alike : (m k : List Ty) (s : State) (es : List Entry)
    → ((i v : ℕ) (a : TyId) → slice_get es i ≡ Some (entry.Bound v a) → type_in m a ≡ type_in k a)
    → after_entries m s es ≡ after_entries k s es
after_alike m k s [] h = refl
after_alike m k s (entry.Bound v a ∷ es) h =
    ap (λ t. after_entries m (bound_in v (put s.stands t) s) es) (h 0 v a refl)
    ∙ after_alike m k (bound_in v (put s.stands (type_in k a)) s) es (λ i w b e. h (suc i) w b e)
after_alike m k s (entry.Marked v ∷ es) h = after_alike m k (marked_state v s) es (λ i w b e. h (suc i) w b e)
