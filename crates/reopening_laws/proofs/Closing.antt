-- A scheme under a choice around is open inside: its variables are other ones there.
use Rattle.std.proofs.Common.{◌≡◌, ℕ, zero, suc, ◌+◌, ◌<◌, List, [], ◌∷◌, ◌++◌, map, length, get_or, refl, sym, ap, ap₂, ◌∙◌, subst, arith, Bool, true, false, ◌||◌, ◌&&◌, not, cond}
use Rattle.std.proofs.lemmas.Bool.{eq-eqb, eqb-true}
use Rattle.std.proofs.lemmas.List.{length-map}
use Rattle.std.specs.Prelude.{eqb}
use Rattle.semantic_objects.specs.Trees.{Tree, Trees, BindsBelow, binds, binds_any}
use Rattle.unification.specs.Types.{Ty, Types, Substitution, State, put, occurs}
use Rattle.unification.specs.Instances.{fill}
use Rattle.unification.specs.Closing.{is_among, place_of, found_in, found_in_all, closed_over, filler, put_tree, put_trees}
use Rattle.unification.specs.Fitting.{IsFit}
use Rattle.unification.proofs.Walking.{either_way, or_left, or_right, or_either, or_false_left, or_false_right, and_left, and_right, and_both, not_both}
use Rattle.unification.proofs.Canonical.{place_below, stands_there}
use Rattle.unification.proofs.Closing.{found_all, found_only}
use Rattle.unification.proofs.Filling.{fill_closed, fill_put}
use Rattle.unification.proofs.Putting.{put_alike, put_solved}
use Rattle.static_semantics.specs.RuleConditions.{do_differ}
use Rattle.static_semantics.proofs.Ages.{known_itself}
use Rattle.inference_laws.proofs.Nodes.{closed_binds}
use Rattle.reopening_laws.specs.Reopening.{Reopened, OpenInside}
use Rattle.phrase_laws.proofs.Patterns.{not_true}
use Rattle.phrase_laws.proofs.TypeBindings.{absent_still}

-- ---- what is found differs

eqb_back : (n m : ℕ) → eqb n m ≡ false → eqb m n ≡ false
eqb_back n m h = either_way (eqb m n)
    (λ e. absurd (not_both (eqb n m) h (eq-eqb n m (sym (eqb-true m n e)))))
    (λ e. e)

differ_new : (n : ℕ) (vs : List ℕ) → is_among n vs ≡ false → do_differ vs ≡ true → do_differ (vs ++ n ∷ []) ≡ true
differ_new n [] h k = refl
differ_new n (m ∷ vs) h k =
    and_both (not (is_among m (vs ++ n ∷ []))) (do_differ (vs ++ n ∷ []))
    (ap not (absent_still m n vs (not_true (is_among m vs) (and_left (not (is_among m vs)) (do_differ vs) k))
    (eqb_back n m (or_false_left (eqb n m) (is_among n vs) h))))
    (differ_new n vs (or_false_right (eqb n m) (is_among n vs) h) (and_right (not (is_among m vs)) (do_differ vs) k))

noticed_differs : (kept met : Bool) (n : ℕ) (vs : List ℕ) → is_among n vs ≡ met → do_differ vs ≡ true
    → do_differ (cond (kept || met) vs (vs ++ n ∷ [])) ≡ true
noticed_differs true met n vs e h = h
noticed_differs false true n vs e h = h
noticed_differs false false n vs e h = differ_new n vs e h

mutual
  found_differs : (kept : ℕ → Bool) (t : Ty) (vs : List ℕ) → do_differ vs ≡ true → do_differ (found_in kept t vs) ≡ true
  found_differs kept (Ty.Var n) vs h = noticed_differs (kept n) (is_among n vs) n vs refl h
  found_differs kept (Ty.Made c ts) vs h = found_all_differ kept ts vs h

  found_all_differ : (kept : ℕ → Bool) (ts : Types) (vs : List ℕ) → do_differ vs ≡ true
      → do_differ (found_in_all kept ts vs) ≡ true
  found_all_differ kept Types.Nil vs h = h
  found_all_differ kept (Types.Cons t ts) vs h =
      found_all_differ kept ts (found_in kept t vs) (found_differs kept t vs h)

-- ---- numbers after others

abbrev pub shifted : ℕ → List ℕ → List ℕ
shifted from vs = map (λ v. from + v) vs

eqb_shifted : (from a b : ℕ) → eqb (from + a) (from + b) ≡ eqb a b
eqb_shifted from a b = either_way (eqb a b)
    (λ e. eq-eqb (from + a) (from + b) (ap (λ z. from + z) (eqb-true a b e)) ∙ sym e)
    (λ e. either_way (eqb (from + a) (from + b))
    (λ i. let j : from + a ≡ from + b = eqb-true (from + a) (from + b) i in
    let same : a ≡ b = omega (arith, j) in absurd (not_both (eqb a b) e (eq-eqb a b same)))
    (λ i. i ∙ sym e))

among_shifted : (from v : ℕ) (vs : List ℕ) → is_among (from + v) (shifted from vs) ≡ is_among v vs
among_shifted from v [] = refl
among_shifted from v (w ∷ vs) = ap₂ (λ a b. a || b) (eqb_shifted from v w) (among_shifted from v vs)

pub differ_shifted : (from : ℕ) (vs : List ℕ) → do_differ (shifted from vs) ≡ do_differ vs
differ_shifted from [] = refl
differ_shifted from (v ∷ vs) = ap₂ (λ a b. not a && b) (among_shifted from v vs) (differ_shifted from vs)

get_shifted : (from : ℕ) (vs : List ℕ) (i : ℕ) → i < length vs → get_or (shifted from vs) i 0 ≡ from + get_or vs i 0
get_shifted from [] i h = absurd (omega (arith, h))
get_shifted from (v ∷ vs) zero h = refl
get_shifted from (v ∷ vs) (suc i) h = get_shifted from vs i (omega (arith, h))

-- ---- a scheme's body under a choice

mutual
  binds_put : (s : Substitution) (i : ℕ) (x : Tree) → binds i (put_tree s x) ≡ true → binds i x ≡ true
  binds_put s i (Tree.Bound j) h = h
  binds_put s i (Tree.Free n) h =
      let l : i < length {A = ℕ} [] = closed_binds [] (s n) i h in absurd (omega (arith, l))
  binds_put s i (Tree.Made c ts) h = binds_put_any s i ts h

  binds_put_any : (s : Substitution) (i : ℕ) (xs : Trees) → binds_any i (put_trees s xs) ≡ true
      → binds_any i xs ≡ true
  binds_put_any s i Trees.Nil h = h
  binds_put_any s i (Trees.Cons x xs) h = or_either (binds i (put_tree s x)) (binds_any i (put_trees s xs)) h
      (λ e. or_left (binds i x) (binds_any i xs) (binds_put s i x e))
      (λ e. or_right (binds i x) (binds_any i xs) (binds_put_any s i xs e))

module _ (kept closes : ℕ → Bool) (p u : State) (h : IsFit u) (r : Reopened closes p u) (t : Ty)
    (agree : (n : ℕ) → occurs n (put u.stands t) ≡ true → closes n ≡ not (kept n)) where
  abbrev vs : List ℕ
  vs = found_in kept (put u.stands t) []

  abbrev filling : Substitution
  filling i = Ty.Var (get_or (shifted r.from vs) i 0)

  -- a variable of the type that isn't among those found is kept
  pub kept_or : (n : ℕ) → occurs n (put u.stands t) ≡ true → is_among n vs ≡ false → kept n ≡ true
  kept_or n e a = either_way (kept n) (λ k. k)
      (λ k. absurd (not_both (is_among n vs) a (found_all kept n (put u.stands t) [] e k)))

  closed_as : (n : ℕ) → occurs n (put u.stands t) ≡ true → (c : Bool) → is_among n vs ≡ c
      → cond c (filling (place_of n vs)) (p.stands n) ≡ r.inside.stands n
  closed_as n e true a =
      ap Ty.Var (get_shifted r.from vs (place_of n vs) (place_below n vs a)
      ∙ ap (λ z. r.from + z) (stands_there n vs a))
      ∙ sym (r.closed n (agree n e ∙ ap not (found_only (λ m. kept m ≡ false) kept (put u.stands t) []
      (λ m i. absurd (cc)) (λ m i j. j) n a)) (known_itself u n t h.settled e))
  closed_as n e false a =
      let alone : u.stands n ≡ Ty.Var n = known_itself u n t h.settled e in
      sym (r.around (Ty.Var n) (λ v i. ap closes (eqb-true v n (subst (λ z. occurs v z ≡ true) alone i))
      ∙ agree n e ∙ ap not (kept_or n e a)))

  opened : fill filling Ty.Var (put_tree p.stands (closed_over vs (put u.stands t))) ≡ put r.inside.stands t
  opened = fill_put filling p.stands (closed_over vs (put u.stands t))
      ∙ fill_closed filling p.stands vs (put u.stands t)
      ∙ put_alike (filler vs filling p.stands) r.inside.stands (put u.stands t)
      (λ n e. closed_as n e (is_among n vs) refl)
      ∙ put_solved r.inside u t r.solves

  marks_of : (ws : List ℕ) → map u.marks ws ≡ map r.inside.marks (shifted r.from ws)
  marks_of [] = refl
  marks_of (w ∷ ws) = ap₂ (λ a b. a ∷ b) (sym (r.marked w)) (marks_of ws)

  bound_below : BindsBelow (length (shifted r.from vs)) (put_tree p.stands (closed_over vs (put u.stands t)))
  bound_below i e =
      let body : Tree = closed_over vs (put u.stands t) in
      let l : i < length vs = closed_binds vs (put u.stands t) i (binds_put p.stands i body e) in
      let m : length (shifted r.from vs) ≡ length vs = length-map vs (λ v. r.from + v) in omega (arith, l, m)

  pub open_inside : OpenInside kept p u r.inside r.from t
  open_inside = record {
    differ = differ_shifted r.from vs ∙ found_differs kept (put u.stands t) [] refl;
    marks = marks_of vs;
    bound = bound_below;
    opened = opened;
  }
