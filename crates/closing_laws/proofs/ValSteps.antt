-- A `val` by its steps.
use Rattle.std.proofs.Common.{◌≡◌, ℕ, List, [], ◌∷◌, ◌++◌, ap, ◌∙◌, Some, Bool}
use Rattle.std.specs.Prelude.{Err}
use Rattle.cm_base.specs.declared.diag.Diag.{Diag}
use Rattle.sml_trees.specs.declared.name.At.{At}
use Rattle.sml_trees.specs.declared.name.Name.{Name}
use Rattle.semantic_objects.specs.Environments.{Env}
use Rattle.unification.specs.Types.{Ty}
use Rattle.unification.specs.Closing.{kept_since}
use Rattle.bare_phrases.specs.Phrases.{Rules}
use Rattle.static_semantics.specs.Inferring.{Progress, Scope, Answer, ◌>>=◌, gives, Bound, under_bound, with_written, is_kept, unify_at}
use Rattle.static_semantics.specs.Nonexpansive.{is_nonexpansive}
use Rattle.static_semantics.specs.TypeInference.{as_written}
use Rattle.static_semantics.specs.PatternInference.{pat_at, infer_pat}
use Rattle.static_semantics.specs.CoreInference.{Group, RecPats, added, own_variables, rec_bound, rec_groups, infer_binds, infer_rec_pats, infer_rec_exps, infer_exp}
use Rattle.static_semantics.proofs.ByAge.{closes_by_age}
use Rattle.closing_laws.specs.Variables.{val_end}
use Rattle.closing_laws.specs.Promises.{ValuesGoBySteps, BindingsGoOneByOne}

-- a step and what comes behind it
gives_on : {A B : Type 0} (m : Answer A) (next : A → Answer B) (x : A) → m ≡ gives x → (m >>= next) ≡ next x
gives_on m next x h = ap (λ w. w >>= next) h

fails_on : {A B : Type 0} (m : Answer A) (next : A → Answer B) (d : Diag) → m ≡ Some (Err d)
    → (m >>= next) ≡ Some (Err d)
fails_on m next d h = ap (λ w. w >>= next) h

-- whatever is kept
module _ (depth : ℕ) (sc : Scope) (tyvars : List Name) (rules recs : Rules) (at : At) (st : Progress)
    (kept : Progress → ℕ → Bool) where
  abbrev behind_pats : List (List ℕ × ℕ) × Progress → Bound × List Group × Progress → RecPats × Progress
      → Answer (Env × Progress)
  behind_pats own b p =
      infer_rec_exps depth (under_bound (rec_bound p.0) (with_written (as_written own.0) sc)) recs p.0 p.1
      >>= λ u. val_end sc at (kept u) own.0 (b.1 ++ rec_groups sc.env recs p.0) u

  abbrev behind_binds : List (List ℕ × ℕ) × Progress → Bound × List Group × Progress → Answer (Env × Progress)
  behind_binds own b =
      infer_rec_pats depth (with_written (as_written own.0) sc) recs [] b.0 b.2 >>= behind_pats own b

  abbrev behind_own : List (List ℕ × ℕ) × Progress → Answer (Env × Progress)
  behind_own own =
      infer_binds depth (with_written (as_written own.0) sc) rules [] [] own.1 >>= behind_binds own

  abbrev whole : Answer (Env × Progress)
  whole = own_variables sc tyvars rules recs st >>= behind_own

  module _ (own : List (List ℕ × ℕ) × Progress) (h : own_variables sc tyvars rules recs st ≡ gives own) where
    after_own : whole ≡ behind_own own
    after_own = gives_on (own_variables sc tyvars rules recs st) behind_own own h

    module _ (b : Bound × List Group × Progress)
        (k : infer_binds depth (with_written (as_written own.0) sc) rules [] [] own.1 ≡ gives b) where
      after_binds : whole ≡ behind_binds own b
      after_binds = after_own
          ∙ gives_on (infer_binds depth (with_written (as_written own.0) sc) rules [] [] own.1) (behind_binds own) b k

      module _ (p : RecPats × Progress)
          (l : infer_rec_pats depth (with_written (as_written own.0) sc) recs [] b.0 b.2 ≡ gives p) where
        after_pats : whole ≡ behind_pats own b p
        after_pats = after_binds
            ∙ gives_on (infer_rec_pats depth (with_written (as_written own.0) sc) recs [] b.0 b.2)
            (behind_pats own b) p l

pub values_go_by_steps : ValuesGoBySteps
values_go_by_steps depth sc tyvars rules recs at st =
    let kept : Progress → ℕ → Bool = λ u. is_kept sc u.types.stands in
    let aged : Progress → ℕ → Bool = λ u. kept_since st.types.next u.types.stands in
    record {
      own_fails = λ d h. fails_on (own_variables sc tyvars rules recs st)
          (behind_own depth sc tyvars rules recs at st kept) d h;
      binds_fail = λ own d h k. after_own depth sc tyvars rules recs at st kept own h
          ∙ fails_on (infer_binds depth (with_written (as_written own.0) sc) rules [] [] own.1)
          (behind_binds depth sc tyvars rules recs at st kept own) d k;
      pats_fail = λ own b d h k l. after_binds depth sc tyvars rules recs at st kept own h b k
          ∙ fails_on (infer_rec_pats depth (with_written (as_written own.0) sc) recs [] b.0 b.2)
          (behind_pats depth sc tyvars rules recs at st kept own b) d l;
      exps_fail = λ own b p d h k l m. after_pats depth sc tyvars rules recs at st kept own h b k p l
          ∙ fails_on
          (infer_rec_exps depth (under_bound (rec_bound p.0) (with_written (as_written own.0) sc)) recs p.0 p.1)
          (λ u. val_end sc at (kept u) own.0 (b.1 ++ rec_groups sc.env recs p.0) u) d m;
      ends = λ own b p u o h k l m. closes_by_age depth sc tyvars rules recs at st o
          ∙ after_pats depth sc tyvars rules recs at st aged own h b k p l
          ∙ gives_on
          (infer_rec_exps depth (under_bound (rec_bound p.0) (with_written (as_written own.0) sc)) recs p.0 p.1)
          (λ v. val_end sc at (aged v) own.0 (b.1 ++ rec_groups sc.env recs p.0) v) u m;
    }

-- ---- bindings

pub bindings_go_one_by_one : BindingsGoOneByOne
bindings_go_one_by_one depth sc pat exp rest =
    let both : List Group → Bound → Ty × Bound × Progress → Ty × Progress → Answer (Bound × List Group × Progress) =
    λ groups bound p e. unify_at depth sc (pat_at pat) p.0 e.0 e.1
    >>= λ u. infer_binds depth sc rest p.1 (groups ++ (is_nonexpansive sc.env exp, added bound p.1) ∷ []) u in
    let right : List Group → Bound → Ty × Bound × Progress → Answer (Bound × List Group × Progress) =
    λ groups bound p. infer_exp depth sc exp p.2 >>= both groups bound p in
    let behind : Ty × Bound → RecPats → Ty × Progress → Answer Progress = λ row rows e.
    unify_at depth sc (pat_at pat) row.0 e.0 e.1 >>= λ u. infer_rec_exps depth sc rest rows u in
    record {
      pat_fails = λ bound groups st d h. fails_on (infer_pat depth sc pat bound st) (right groups bound) d h;
      exp_fails = λ bound groups st p d h k. gives_on (infer_pat depth sc pat bound st) (right groups bound) p h
          ∙ fails_on (infer_exp depth sc exp p.2) (both groups bound p) d k;
      both_fail = λ bound groups st p e d h k l. gives_on (infer_pat depth sc pat bound st) (right groups bound) p h
          ∙ gives_on (infer_exp depth sc exp p.2) (both groups bound p) e k
          ∙ fails_on (unify_at depth sc (pat_at pat) p.0 e.0 e.1)
          (λ u. infer_binds depth sc rest p.1 (groups ++ (is_nonexpansive sc.env exp, added bound p.1) ∷ []) u) d l;
      goes_on = λ bound groups st p e u h k l. gives_on (infer_pat depth sc pat bound st) (right groups bound) p h
          ∙ gives_on (infer_exp depth sc exp p.2) (both groups bound p) e k
          ∙ gives_on (unify_at depth sc (pat_at pat) p.0 e.0 e.1)
          (λ v. infer_binds depth sc rest p.1 (groups ++ (is_nonexpansive sc.env exp, added bound p.1) ∷ []) v) u l;
      rec_fails = λ row rows st d h. fails_on (infer_exp depth sc exp st) (behind row rows) d h;
      rec_both_fail = λ row rows st e d h k. gives_on (infer_exp depth sc exp st) (behind row rows) e h
          ∙ fails_on (unify_at depth sc (pat_at pat) row.0 e.0 e.1) (λ u. infer_rec_exps depth sc rest rows u) d k;
      rec_goes_on = λ row rows st e u h k. gives_on (infer_exp depth sc exp st) (behind row rows) e h
          ∙ gives_on (unify_at depth sc (pat_at pat) row.0 e.0 e.1) (λ v. infer_rec_exps depth sc rest rows v) u k;
    }
