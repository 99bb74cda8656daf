-- A `val` has a derivation, where its bindings have.
use Rattle.std.proofs.Common.{◌≡◌, ℕ, List, [], ◌∷◌, ◌++◌, map, refl, sym, ap, ap₂, ◌∙◌, subst, Option, Some, None, Bool, true, false, ◌&&◌, not, ◌||◌, ◌+◌, ◌<◌, cond, arith, inl, inr}
use Rattle.std.proofs.lemmas.Bool.{eqb-true}
use Rattle.std.specs.Prelude.{eqb, ◌⊎◌}
use Rattle.std.specs.List.{list_any}
use Rattle.sml_trees.specs.declared.name.Name.{Name}
use Rattle.unification.specs.Closing.{is_among}
use Rattle.static_semantics.specs.BasicTypes.{is_one_of, is_equality_variable}
use Rattle.sml_trees.specs.declared.name.At.{At}
use Rattle.semantic_objects.specs.Environments.{Env, empty_env}
use Rattle.unification.specs.Types.{Ty, Substitution, State, admits, put, occurs}
use Rattle.unification.specs.Unification.{Solves, LeavesRigid}
use Rattle.unification.proofs.Walking.{either_way, not_both, or_either, or_left, or_right, and_right}
use Rattle.bare_phrases.specs.Phrases.{Rules, DecPhrase}
use Rattle.static_semantics.specs.WrittenVariables.{written_in}
use Rattle.static_semantics.specs.Inferring.{Progress, Scope, Bound, gives, under_bound, with_written, is_kept, free_in_env, free_in_written, has_too_large, sized_dec}
use Rattle.static_semantics.specs.TypeInference.{numbers, as_written}
use Rattle.static_semantics.specs.CoreInference.{Group, RecPats, rec_bound, rec_groups, closed_groups, closed_val, left_over, none_left}
use Rattle.static_semantics.specs.EnvironmentsPut.{put_env, put_rows, put_scope}
use Rattle.static_semantics.specs.RuleConditions.{are_distinct, do_differ, BindsOwn, ClosesVal, GroupsHaveSchemes, groups_bound, unscoped}
use Rattle.static_semantics.specs.Elaborates.{ElaboratesBinds, ElaboratesRecs, ElaboratesDec}
use Rattle.static_semantics.specs.Holding.{Given, AllItems, AllRows}
use Rattle.static_semantics.specs.Growing.{IsReady}
use Rattle.static_semantics.proofs.Holding.{given_where}
use Rattle.static_semantics.proofs.Growing.{ready_later}
use Rattle.static_semantics.proofs.TypesGrow.{MadeIn}
use Rattle.inference_laws.specs.Promises.{Any}
use Rattle.phrase_laws.specs.Derived.{DecDerived}
use Rattle.reopening_laws.specs.Reopening.{Reopened}
use Rattle.phrase_laws.proofs.Finding.{rows_after_put, is_named_put, distinct_put, under_bound_put}
use Rattle.reopening_laws.proofs.Keeping.{mapped_after, new_apart}
use Rattle.reopening_laws.proofs.Closing.{shifted, differ_shifted}
use Rattle.phrase_laws.proofs.Patterns.{not_true}
use Rattle.phrase_laws.proofs.TypeBindings.{IsOwn}
use Rattle.elaboration_laws.proofs.Own.{texts_of, texts_in, named_one, OwnDerived}
use Rattle.reopening_laws.proofs.Reopening.{reopened}
use Rattle.reopening_laws.proofs.Around.{scope_around}
use Rattle.reopening_laws.proofs.Schemes.{ClosesOf, GroupCloses, put_groups, groups_bound_put, all_schemes, groups_have_schemes, groups_made, marks_agree, free_below}
use Rattle.closing_laws.specs.Variables.{Closing, all_closing, variables_of, stays_open}
use Rattle.closing_laws.proofs.Rows.{val_made as made_is, open_is}
use Rattle.elaboration_laws.proofs.Apart.{Apart, open_in}
use Rattle.elaboration_laws.proofs.Bindings.{after_both, BindsDerived, put_recs, RecPatsHold, RecPatsDerived, RecExpsDerived, rec_bound_put, rec_groups_put, rec_groups_bound}

-- ---- the groups

groups_bound_after : (xs ys : List Group) → groups_bound (xs ++ ys) ≡ groups_bound xs ++ groups_bound ys
groups_bound_after [] ys = refl
groups_bound_after (group ∷ xs) ys = ap (λ z. group.1 ++ z) (groups_bound_after xs ys)
    ∙ sym (after_both group.1 (groups_bound xs) (groups_bound ys))

-- ---- the whole

-- the scope of the bindings, in which the written variables of the `val` are
abbrev pub inner_scope : List (List ℕ × ℕ) → Scope → Scope
inner_scope own sc = with_written (as_written own) sc

unscoped_put : (s : Substitution) (outer : List (List ℕ × Ty)) (tyvars : List Name) (texts : List (List ℕ))
    → unscoped outer tyvars texts ≡ unscoped (put_rows s outer) tyvars texts
unscoped_put s outer tyvars [] = refl
unscoped_put s outer tyvars (text ∷ texts) = ap₂ (λ (c : Bool) (more : List (List ℕ)).
    cond (is_one_of (texts_in tyvars) text) more (cond c more (text ∷ more)))
    (sym (is_named_put s text outer)) (unscoped_put s outer tyvars texts)

-- the written variables with other numbers
abbrev moved : ℕ → List (List ℕ × ℕ) → List (List ℕ × ℕ)
moved from rows = map (λ (row : List ℕ × ℕ). (row.0, from + row.1)) rows

moved_texts : (from : ℕ) (rows : List (List ℕ × ℕ)) → texts_of (moved from rows) ≡ texts_of rows
moved_texts from [] = refl
moved_texts from (row ∷ rows) = ap (λ z. row.0 ∷ z) (moved_texts from rows)

moved_numbers : (from : ℕ) (rows : List (List ℕ × ℕ)) → numbers (moved from rows) ≡ shifted from (numbers rows)
moved_numbers from [] = refl
moved_numbers from (row ∷ rows) = ap (λ z. (from + row.1) ∷ z) (moved_numbers from rows)

moved_distinct : (from : ℕ) (rows : List (List ℕ × ℕ)) → are_distinct (moved from rows) ≡ are_distinct rows
moved_distinct from [] = refl
moved_distinct from (row ∷ rows) = ap₂ (λ (a b : Bool). not a && b)
    (named_one row.0 (moved from rows) ∙ ap (λ z. is_one_of z row.0) (moved_texts from rows)
    ∙ sym (named_one row.0 rows))
    (moved_distinct from rows)

among_moved : (P : ℕ → Type 0) (from : ℕ) (rows : List (List ℕ × ℕ)) → ((w : ℕ) → P (from + w)) → (v : ℕ)
    → is_among v (numbers (moved from rows)) ≡ true → P v
among_moved P from [] h v e = absurd (cc)
among_moved P from (row ∷ rows) h v e = or_either (eqb v (from + row.1)) (is_among v (numbers (moved from rows))) e
    (λ i. subst P (sym (eqb-true v (from + row.1) i)) (h row.1))
    (λ i. among_moved P from rows h v i)

left_none : (c : Bool) (text : List ℕ) (rest : Option (List ℕ)) → cond c (Some text) rest ≡ None
    → (c ≡ false) × (rest ≡ None)
left_none true text rest h = absurd (cc)
left_none false text rest h = (refl, h)

abbrev pub val_groups : Scope → Rules → (Bound × List Group × Progress) → (RecPats × Progress) → List Group
val_groups sc recs b c = b.1 ++ rec_groups sc.env recs c.0

-- what a `val` makes
abbrev pub val_made : Scope → Rules → (Bound × List Group × Progress) → (RecPats × Progress) → Progress → Env
val_made sc recs b c u =
    closed_groups (is_kept sc u.types.stands) u.types (val_groups sc recs b c) empty_env

no_kept : (kept open_ : Bool) → kept ≡ true → (not kept && not open_) ≡ false
no_kept kept open_ e = rw (e)

both_not : (kept open_ : Bool) → kept ≡ false → open_ ≡ false → (not kept && not open_) ≡ true
both_not kept open_ e i = rw (e, i)

by_case : (a b c d : Bool) → b ≡ (c || d) → (a || b) ≡ ((a || c) || d)
by_case true b c d h = refl
by_case false b c d h = h

and_no : (a b : Bool) → b ≡ false → (not a && not b) ≡ not a
and_no true b h = refl
and_no false b h = rw (h)

-- what stands in the types that aren't closed, by groups and by variables
open_same : (sc : Scope) (s : State) (v : ℕ) (groups : List Group)
    → open_in sc s v groups
    ≡ list_any (λ (x : Closing). not x.0 && occurs v (put s.stands x.1.1)) (variables_of groups)
open_same sc s v [] = refl
open_same sc s v (group ∷ groups) = ap₂ (λ (a b : Bool). a || b) (in_group group.0 group.1) (open_same sc s v groups)
    ∙ sym (any_after (λ (x : Closing). not x.0 && occurs v (put s.stands x.1.1)) (all_closing group.0 group.1)
    (variables_of groups))
  where
    in_group : (closes : Bool) (rows : Bound)
        → (not closes && list_any (λ (row : List ℕ × Ty). occurs v (put s.stands row.1)) rows)
        ≡ list_any (λ (x : Closing). not x.0 && occurs v (put s.stands x.1.1)) (all_closing closes rows)
    in_group true [] = refl
    in_group false [] = refl
    in_group true (row ∷ rows) = in_group true rows
    in_group false (row ∷ rows) = ap (λ z. occurs v (put s.stands row.1) || z) (in_group false rows)

    any_after : {A : Type 0} (test : A → Bool) (xs ys : List A)
        → list_any test (xs ++ ys) ≡ (list_any test xs || list_any test ys)
    any_after test [] ys = refl
    any_after test (x ∷ xs) ys = by_case (test x) (list_any test (xs ++ ys)) (list_any test xs) (list_any test ys)
        (any_after test xs ys)

or_no : (a b : Bool) → (a || b) ≡ false → (a ≡ false) × (b ≡ false)
or_no true b h = absurd (cc)
or_no false b h = (refl, h)

-- written variables that are not left over
not_left : (inner : Scope) (kept : ℕ → Bool) (s : State) (made : Env) (groups : List Group) (rows : List (List ℕ × ℕ))
    → ((v : ℕ) → (kept v || free_in_env v s.stands made) ≡ stays_open kept s (variables_of groups) v)
    → left_over kept s made rows ≡ None
    → AllItems (λ (row : List ℕ × ℕ). (not (kept row.1) && not (open_in inner s row.1 groups)) ≡ true) rows
not_left inner kept s made groups [] f h = tt
not_left inner kept s made groups (row ∷ rows) f h =
    let e = left_none (kept row.1 || free_in_env row.1 s.stands made) row.0 (left_over kept s made rows) h in
    let both = or_no (kept row.1) _ (sym (f row.1) ∙ e.0) in (
      both_not (kept row.1) (open_in inner s row.1 groups) both.0 (open_same inner s row.1 groups ∙ both.1),
      not_left inner kept s made groups rows f e.1,
    )

-- what is kept inside is kept around, or one of the written variables
kept_inside : (sc : Scope) (s : State) (own : List (List ℕ × ℕ)) (v : ℕ)
    → AllItems (λ (row : List ℕ × ℕ). s.stands row.1 ≡ Ty.Var row.1) own
    → is_kept (inner_scope own sc) s.stands v ≡ true
    → (is_kept sc s.stands v ≡ true) ⊎ (is_among v (numbers own) ≡ true)
kept_inside sc s own v alone e = or_either (free_in_env v s.stands sc.env)
    (free_in_written v s.stands (as_written own ++ sc.written)) e
    (λ i. inl (or_left (free_in_env v s.stands sc.env) (free_in_written v s.stands sc.written) i))
    (λ i. in_rows own alone i)
  where
    in_rows : (rows : List (List ℕ × ℕ)) → AllItems (λ (row : List ℕ × ℕ). s.stands row.1 ≡ Ty.Var row.1) rows
        → free_in_written v s.stands (as_written rows ++ sc.written) ≡ true
        → (is_kept sc s.stands v ≡ true) ⊎ (is_among v (numbers rows) ≡ true)
    in_rows [] h i = inl (or_right (free_in_env v s.stands sc.env) (free_in_written v s.stands sc.written) i)
    in_rows (row ∷ rows) h i = or_either (occurs v (s.stands row.1))
        (free_in_written v s.stands (as_written rows ++ sc.written)) i
        (λ j. inr (or_left (eqb v row.1) (is_among v (numbers rows)) (subst (λ z. occurs v z ≡ true) h.0 j)))
        (λ j. further (in_rows rows h.1 j))
      where
        further : (is_kept sc s.stands v ≡ true) ⊎ (is_among v (numbers rows) ≡ true)
            → (is_kept sc s.stands v ≡ true) ⊎ (is_among v (numbers (row ∷ rows)) ≡ true)
        further (inl j) = inl j
        further (inr j) = inr (or_right (eqb v row.1) (is_among v (numbers rows)) j)

own_not_open : (inner : Scope) (kept : ℕ → Bool) (s : State) (groups : List Group) (rows : List (List ℕ × ℕ)) (v : ℕ)
    → AllItems (λ (row : List ℕ × ℕ). (not (kept row.1) && not (open_in inner s row.1 groups)) ≡ true) rows
    → is_among v (numbers rows) ≡ true → open_in inner s v groups ≡ false
own_not_open inner kept s groups [] v h e = absurd (cc)
own_not_open inner kept s groups (row ∷ rows) v h e = or_either (eqb v row.1) (is_among v (numbers rows)) e
    (λ i. subst (λ z. open_in inner s z groups ≡ false) (sym (eqb-true v row.1 i))
    (not_true (open_in inner s row.1 groups)
    (and_right (not (kept row.1)) (not (open_in inner s row.1 groups)) h.0)))
    (λ i. own_not_open inner kept s groups rows v h.1 i)

-- each group closes just what its variables close over
module _ (sc inner : Scope) (kept : ℕ → Bool) (s : State) (own : List (List ℕ × ℕ)) (groups : List Group)
    (around : (v : ℕ) → is_kept inner s.stands v ≡ true → (kept v ≡ true) ⊎ (is_among v (numbers own) ≡ true))
    (own_closes : AllItems (λ (row : List ℕ × ℕ). (not (kept row.1) && not (open_in inner s row.1 groups)) ≡ true) own)
  where
    abbrev closing_of : ℕ → Bool
    closing_of v = not (kept v) && not (open_in inner s v groups)

    closed_row : (v : ℕ) (c : Bool) → open_in inner s v groups ≡ c → (open_in inner s v groups ≡ true → is_kept inner s.stands v ≡ true)
        → closing_of v ≡ not (kept v)
    closed_row v false e h = and_no (kept v) (open_in inner s v groups) e
    closed_row v true e h = at (around v (h e))
      where
        at : (kept v ≡ true) ⊎ (is_among v (numbers own) ≡ true) → closing_of v ≡ not (kept v)
        at (inl i) = rw (i)
        at (inr i) = let k : false ≡ true = sym (own_not_open inner kept s groups own v own_closes i) ∙ e in absurd (cc)

    closed_rows_close : (rows : Bound)
        → AllRows (λ (t : Ty). (v : ℕ) → occurs v (put s.stands t) ≡ true → open_in inner s v groups ≡ true
        → is_kept inner s.stands v ≡ true) rows
        → AllRows (ClosesOf closing_of kept s true) rows
    closed_rows_close [] h = tt
    closed_rows_close (row ∷ rows) h =
        ((λ n e. closed_row n (open_in inner s n groups) refl (h.0 n e)), closed_rows_close rows h.1)

    open_rows_close : (rows : Bound)
        → ((v : ℕ) → list_any (λ (row : List ℕ × Ty). occurs v (put s.stands row.1)) rows ≡ true
        → open_in inner s v groups ≡ true)
        → AllRows (ClosesOf closing_of kept s false) rows
    open_rows_close [] f = tt
    open_rows_close (row ∷ rows) f = (
      (λ n e. no_open (kept n) (open_in inner s n groups) (f n (or_left (occurs n (put s.stands row.1)) _ e))),
      open_rows_close rows (λ v e. f v (or_right (occurs v (put s.stands row.1)) _ e)),
    )
      where
        no_open : (k o : Bool) → o ≡ true → (not k && not o) ≡ false
        no_open true o e = refl
        no_open false o e = rw (e)

    group_closes : (group : Group) (c : Bool) → group.0 ≡ c
        → ((v : ℕ) → (not group.0 && list_any (λ (row : List ℕ × Ty). occurs v (put s.stands row.1)) group.1) ≡ true
        → open_in inner s v groups ≡ true)
        → Apart inner s (λ v. open_in inner s v groups ≡ true) group → GroupCloses closing_of kept s group
    group_closes group true e f h = subst (λ z. AllRows (ClosesOf closing_of kept s z) group.1) (sym e)
        (closed_rows_close group.1 (h e))
    group_closes group false e f h = subst (λ z. AllRows (ClosesOf closing_of kept s z) group.1) (sym e)
        (open_rows_close group.1 (λ v i. f v (rw (e) i)))

    some_close : (some : List Group) → ((v : ℕ) → open_in inner s v some ≡ true → open_in inner s v groups ≡ true)
        → AllItems (Apart inner s (λ v. open_in inner s v groups ≡ true)) some
        → AllItems (GroupCloses closing_of kept s) some
    some_close [] f h = tt
    some_close (group ∷ some) f h = (
      group_closes group group.0 refl
          (λ v e. f v (or_left (not group.0 && list_any (λ (row : List ℕ × Ty). occurs v (put s.stands row.1)) group.1)
          (open_in inner s v some) e)) h.0,
      some_close some
          (λ v e. f v (or_right (not group.0 && list_any (λ (row : List ℕ × Ty). occurs v (put s.stands row.1)) group.1)
          (open_in inner s v some) e)) h.1,
    )

    groups_close : AllItems (Apart inner s (λ v. open_in inner s v groups ≡ true)) groups
        → AllItems (GroupCloses closing_of kept s) groups
    groups_close h = some_close groups (λ v e. e) h

module _ (sc : Scope) (rules recs : Rules) (at : At) (st : Progress) (b : Bound × List Group × Progress)
    (c : RecPats × Progress) (u : Progress) (tyvars : List Name) (written : List (List ℕ × ℕ) × Progress)
    (of_own : OwnDerived sc tyvars rules recs st written)
    (apart : AllItems (Apart (inner_scope written.0 sc) u.types
    (λ v. open_in (inner_scope written.0 sc) u.types v (val_groups sc recs b c) ≡ true)) (val_groups sc recs b c))
    (binds : BindsDerived (inner_scope written.0 sc) rules [] [] written.1 b)
    (pats : RecPatsDerived (inner_scope written.0 sc) recs [] b.0 b.2 c)
    (exps : RecExpsDerived (inner_scope written.0 sc) (under_bound (rec_bound c.0) (inner_scope written.0 sc)) recs c.0
    c.1 u)
    (ready : IsReady Any sc st) (grown : MadeIn Any st (val_made sc recs b c u, u))
    (left : left_over (is_kept sc u.types.stands) u.types (val_made sc recs b c u) written.0 ≡ None) where
  abbrev kept : ℕ → Bool
  kept = is_kept sc u.types.stands

  abbrev groups : List Group
  groups = val_groups sc recs b c

  abbrev inner : Scope
  inner = inner_scope written.0 sc

  -- variables that are closed are neither kept nor in the type of a variable that isn't closed
  abbrev closes : ℕ → Bool
  closes v = not (kept v) && not (open_in inner u.types v groups)

  here : IsReady Any sc u
  here = ready_later Any sc st u ready grown.0

  leaves_here : LeavesRigid u.types written.1.types
  leaves_here = binds.leaves u.types (pats.leaves u.types (exps.leaves u.types here.fit.settled.leaves))

  solves_here : Solves u.types written.1.types
  solves_here = binds.solved u.types (pats.solved u.types (exps.solved u.types here.fit.settled.solves))

  mark_same : (v : ℕ) → written.1.types.rigid v ≡ true → u.types.marks v ≡ written.1.types.marks v
  mark_same v rigid = either_way (written.1.types.marks v)
      (λ e. subst (λ t. admits u.types.marks t ≡ true) (leaves_here.alone v rigid) (solves_here.marks v e) ∙ sym e)
      (λ e. either_way (u.types.marks v)
      (λ i. absurd (not_both (written.1.types.marks v) e (leaves_here.unmarked v rigid i)))
      (λ i. i ∙ sym e))

  own_alone : (rows : List (List ℕ × ℕ)) → AllItems (IsOwn written.1.types) rows
      → AllItems (λ (row : List ℕ × ℕ). u.types.stands row.1 ≡ Ty.Var row.1) rows
  own_alone [] h = tt
  own_alone (row ∷ rows) h = (leaves_here.alone row.1 h.0.1, own_alone rows h.1)

  module _ (p : State) (q : Solves p u.types) where
    inside : Reopened closes p u.types
    inside = reopened closes p u.types here.fit q

    abbrev f : Substitution
    f = inside.inside.stands

    abbrev around : Scope
    around = put_scope p.stands sc

    abbrev own_rows : List (List ℕ × ℕ)
    own_rows = moved inside.from written.0

    one_scope : put_scope f sc ≡ around
    one_scope = scope_around closes p u.types inside sc (λ v e. no_kept (kept v) (open_in inner u.types v groups) e)

    own_put : (rows : List (List ℕ × ℕ)) → AllItems (IsOwn written.1.types) rows
        → AllItems (λ (row : List ℕ × ℕ). closes row.1 ≡ true) rows
        → put_rows f (as_written rows) ≡ as_written (moved inside.from rows)
    own_put [] h k = refl
    own_put (row ∷ rows) h k = ap₂ (λ (x : Ty) (more : List (List ℕ × Ty)). (row.0, x) ∷ more)
        (inside.closed row.1 k.0 (leaves_here.alone row.1 h.0.1)) (own_put rows h.1 k.1)

    own_marked : (rows : List (List ℕ × ℕ)) → AllItems (IsOwn written.1.types) rows
        → map (λ (row : List ℕ × ℕ). inside.inside.marks row.1) (moved inside.from rows)
        ≡ map (λ (row : List ℕ × ℕ). is_equality_variable row.0) (moved inside.from rows)
    own_marked [] h = refl
    own_marked (row ∷ rows) h = ap₂ (λ (x : Bool) (more : List Bool). x ∷ more)
        (inside.marked row.1 ∙ mark_same row.1 h.0.1 ∙ h.0.2) (own_marked rows h.1)

    new_free : (w : ℕ) → free_in_env (inside.from + w) Ty.Var (put_env p.stands (val_made sc recs b c u)) ≡ false
    new_free w = either_way
        (free_in_env (inside.from + w) Ty.Var (put_env p.stands (val_made sc recs b c u)))
        (λ e. let below : inside.from + w < inside.from = free_below sc u p closes here.fit q here.scope inside
        (val_made sc recs b c u) (inside.from + w) grown.1 e in absurd (omega (arith, below)))
        (λ e. e)

    abbrev all_groups : List Group
    all_groups = put_groups f binds.more ++ rec_groups around.env recs (put_recs f pats.more)

    one_list : put_groups f groups ≡ all_groups
    one_list = mapped_after (λ (group : Group). (group.0, put_rows f group.1)) b.1 (rec_groups sc.env recs c.0)
        ∙ ap₂ (λ (x y : List Group). x ++ y) (ap (put_groups f) binds.all)
        (rec_groups_put p.stands f sc.env recs c.0
        ∙ ap (λ (rows : RecPats). rec_groups around.env recs (put_recs f rows)) pats.all)

    at_exps : Solves inside.inside c.1.types
    at_exps = exps.solved inside.inside inside.solves

    hold : RecPatsHold inside.inside.marks (put_scope f (inner_scope written.0 sc)) recs (put_recs f pats.more)
    hold = pats.hold inside.inside at_exps

    bound_of : groups_bound groups ≡ b.0 ++ rec_bound pats.more
    bound_of = groups_bound_after b.1 (rec_groups sc.env recs c.0)
        ∙ ap₂ (λ (x y : Bound). x ++ y) (ap groups_bound binds.all ∙ sym binds.after)
        (ap (λ (rows : RecPats). groups_bound (rec_groups sc.env recs rows)) pats.all
        ∙ rec_groups_bound inside.inside.marks (put_scope f (inner_scope written.0 sc)) f sc.env recs pats.more hold)

    distinct : are_distinct (groups_bound all_groups) ≡ true
    distinct = ap (λ (z : List Group). are_distinct (groups_bound z)) (sym one_list)
        ∙ ap (λ (z : Bound). are_distinct z) (groups_bound_put f groups)
        ∙ distinct_put f (groups_bound groups)
        ∙ ap (λ (z : Bound). are_distinct z) bound_of
        ∙ pats.distinct (binds.distinct refl)

    all_distinct : are_distinct (groups_bound groups) ≡ true
    all_distinct = ap (λ (z : Bound). are_distinct z) bound_of ∙ pats.distinct (binds.distinct refl)

    -- no written variable of the `val` is kept, nor in the type of a variable that isn't closed
    own_closes : AllItems (λ (row : List ℕ × ℕ). closes row.1 ≡ true) written.0
    own_closes = not_left inner kept u.types (val_made sc recs b c u) groups written.0
        (λ v. ap (λ (env : Env). kept v || free_in_env v u.types.stands env) (made_is kept u.types groups)
        ∙ open_is kept u.types groups v here.fit.settled all_distinct) left

    closing : AllItems (GroupCloses closes kept u.types) groups
    closing = groups_close sc inner kept u.types written.0 groups
        (λ v e. kept_inside sc u.types written.0 v (own_alone written.0 of_own.each) e) own_closes apart

    inner_one : put_scope f (inner_scope written.0 sc) ≡ with_written (as_written own_rows) around
    inner_one = ap (λ (rows : List (List ℕ × Ty)). (let made : Scope = record {
      env = put_env f sc.env;
      written = rows;
      home = sc.home;
    } in made)) (rows_after_put f (as_written written.0) sc.written)
        ∙ ap₂ (λ (rows : List (List ℕ × Ty)) (z : Scope). with_written rows z)
        (own_put written.0 of_own.each own_closes)
        one_scope

    closed : ClosesVal p.marks inside.inside.marks around own_rows all_groups (put_env p.stands (val_made sc recs b c u))
    closed = record {
      schemes = all_schemes sc u p closes here.fit q here.scope inside groups;
      closed = subst (λ z. GroupsHaveSchemes inside.inside.marks around z
          (all_schemes sc u p closes here.fit q here.scope inside groups)) one_list
          (groups_have_schemes sc u p closes here.fit q here.scope inside groups closing);
      is = groups_made sc u p closes here.fit q here.scope inside groups empty_env;
      distinct = distinct;
      own_closed = λ v e. among_moved (λ z. free_in_env z Ty.Var (put_env p.stands (val_made sc recs b c u)) ≡ false)
          inside.from written.0 new_free v e;
      agree = λ v e. marks_agree sc u p closes here.fit q here.scope inside (val_made sc recs b c u) v grown.1 e;
    }

    own : BindsOwn inside.inside.marks around tyvars rules recs own_rows
    own = record {
      texts = moved_texts inside.from written.0 ∙ of_own.texts
          ∙ ap (λ z. texts_in tyvars ++ z) (unscoped_put p.stands sc.written tyvars (written_in rules recs));
      distinct = moved_distinct inside.from written.0 ∙ of_own.distinct;
      differ = ap (λ z. do_differ z) (moved_numbers inside.from written.0)
          ∙ differ_shifted inside.from (numbers written.0) ∙ of_own.differ;
      marked = own_marked written.0 of_own.each;
      apart = λ v e. among_moved (λ z. is_kept around Ty.Var z ≡ false) inside.from written.0
          (new_apart closes p sc u inside here.scope) v e;
    }

    plain : ElaboratesBinds inside.inside.marks (with_written (as_written own_rows) around) written.1.names rules
        (put_groups f binds.more) b.2.names
    plain = subst (λ z. ElaboratesBinds inside.inside.marks z written.1.names rules (put_groups f binds.more) b.2.names)
        inner_one (binds.derives inside.inside (pats.solved inside.inside at_exps))

    rec_scope : put_scope f (under_bound (rec_bound pats.more) (inner_scope written.0 sc))
        ≡ under_bound (rec_bound (put_recs f pats.more)) (with_written (as_written own_rows) around)
    rec_scope = sym (under_bound_put f (rec_bound pats.more) (inner_scope written.0 sc))
        ∙ ap₂ (λ (rows : Bound) (z : Scope). under_bound rows z) (sym (rec_bound_put f pats.more)) inner_one

    exps_of : RecExpsDerived (inner_scope written.0 sc) (under_bound (rec_bound pats.more) (inner_scope written.0 sc)) recs pats.more c.1 u
    exps_of = subst (λ (rows : RecPats). RecExpsDerived (inner_scope written.0 sc)
        (under_bound (rec_bound rows) (inner_scope written.0 sc)) recs rows c.1 u) pats.all exps

    recursive : ElaboratesRecs inside.inside.marks (with_written (as_written own_rows) around)
        (under_bound (rec_bound (put_recs f pats.more)) (with_written (as_written own_rows) around)) b.2.names recs
        (put_recs f pats.more) u.names
    recursive = subst (λ n. ElaboratesRecs inside.inside.marks (with_written (as_written own_rows) around)
        (under_bound (rec_bound (put_recs f pats.more)) (with_written (as_written own_rows) around)) n recs
        (put_recs f pats.more) u.names) pats.names
        (subst (λ z. ElaboratesRecs inside.inside.marks z
        (under_bound (rec_bound (put_recs f pats.more)) (with_written (as_written own_rows) around)) c.1.names recs
        (put_recs f pats.more) u.names) inner_one
        (subst (λ z. ElaboratesRecs inside.inside.marks (put_scope f (inner_scope written.0 sc)) z c.1.names recs (put_recs f pats.more) u.names)
        rec_scope (exps_of.derives inside.inside inside.solves hold)))

    whole : ElaboratesDec p.marks around written.1.names (DecPhrase.Val tyvars rules recs at)
        (put_env p.stands (val_made sc recs b c u)) u.names
    whole = ElaboratesDec.rule_15 p.marks inside.inside.marks around written.1.names b.2.names u.names tyvars rules recs at own_rows
        (put_groups f binds.more) (put_recs f pats.more) (put_env p.stands (val_made sc recs b c u)) own plain recursive
        closed

  pub val_derived : DecDerived sc (DecPhrase.Val tyvars rules recs at) st (val_made sc recs b c u, u)
  val_derived = record {
    solved = λ p q. of_own.solved p (binds.solved p (pats.solved p (exps.solved p q)));
    leaves = λ p q. of_own.leaves p (binds.leaves p (pats.leaves p (exps.leaves p q)));
    derives = λ p q. subst (λ n. ElaboratesDec p.marks (put_scope p.stands sc) n
        (DecPhrase.Val tyvars rules recs at) (put_env p.stands (val_made sc recs b c u)) u.names) of_own.made (whole p q);
  }

-- ---- the last checks

none_left_given : {A : Type 0} (Q : A → Type 0) (sc : Scope) (at : At) (x : A) (o : Option (List ℕ))
    → (o ≡ None → Q x) → Given Q (none_left sc at x o)
none_left_given Q sc at x None h = h refl
none_left_given Q sc at x (Some text) h = tt

pub closed_given : (Q : Env × Progress → Type 0) (sc : Scope) (at : At) (own : List (List ℕ × ℕ)) (groups : List Group)
    (u : Progress)
    → (left_over (is_kept sc u.types.stands) u.types
    (closed_groups (is_kept sc u.types.stands) u.types groups empty_env) own ≡ None
    → Q (closed_groups (is_kept sc u.types.stands) u.types groups empty_env, u))
    → Given Q (closed_val sc at (is_kept sc u.types.stands) own groups u)
closed_given Q sc at own groups u h = none_left_given Q sc at
    (closed_groups (is_kept sc u.types.stands) u.types groups empty_env, u)
    (left_over (is_kept sc u.types.stands) u.types (closed_groups (is_kept sc u.types.stands) u.types groups empty_env)
    own) h

pub sized_given : (Q : Env × Progress → Type 0) (sc : Scope) (at : At) (r : Env × Progress) → Q r
    → Given Q (sized_dec sc at r)
sized_given Q sc at r h = given_where Q (has_too_large r.1.types.stands r.0) 38 sc at (λ u. gives r) h
