-- The laws of `val`, as the public functions of this crate state them.
use Rattle.std.specs.Prelude.{◌≡◌, ℕ, List, [], ◌∷◌, ◌++◌, length, take, drop, Some, Err, Bool, true}
use Rattle.cm_base.specs.declared.diag.Diag.{Diag}
use Rattle.sml_trees.specs.declared.name.At.{At}
use Rattle.sml_trees.specs.declared.name.Name.{Name}
use Rattle.unification.specs.Types.{Ty}
use Rattle.unification.specs.Unification.{IsSettled}
use Rattle.unification.specs.Closing.{kept_since}
use Rattle.bare_phrases.specs.Phrases.{TyPhrase, PatPhrase, ExpPhrase, Rules, DecPhrase}
use Rattle.static_semantics.specs.Inferring.{Progress, Scope, gives, Bound, under, under_bound, with_written, unify_at}
use Rattle.static_semantics.specs.Nonexpansive.{is_nonexpansive}
use Rattle.static_semantics.specs.TypeInference.{infer_ty, as_written}
use Rattle.static_semantics.specs.PatternInference.{pat_at, infer_pat}
use Rattle.static_semantics.specs.CoreInference.{Group, RecPats, added, own_variables, rec_bound, rec_groups, infer_binds, infer_rec_pats, infer_rec_exps, infer_exp, infer_match, infer_dec}
use Rattle.static_semantics.specs.RuleConditions.{are_distinct, groups_bound}
use Rattle.static_semantics.specs.ByAge.{val_by_age}
use Rattle.static_semantics.specs.Holding.{Given, AllRows}
use Rattle.static_semantics.specs.Growing.{TyIn, Grows, IsReady}
use Rattle.closing_laws.specs.Variables.{variables_of, val_end, ended_val}

-- ---- everything is of the state

-- which variables they are doesn't matter
abbrev pub Any : ℕ → Type 0
Any n = Unit {0}

-- a state that is fit, and a scope in which variables of the state alone stand
abbrev pub IsOfState : Scope → Progress → Type 0
IsOfState sc st = IsReady Any sc st

-- .. types
abbrev pub TyOfState : Progress → Ty → Type 0
TyOfState st ty = TyIn Any st.types ty

abbrev pub BoundOfState : Progress → Bound → Type 0
BoundOfState st rows = AllRows (TyIn Any st.types) rows

-- a `val` may be closed by age where everything is of the state. Where this holds of the scope and the state before a
-- phrase, it holds of the scope and the state afterwards, and of the scope with what the phrase binds; and so on from
-- phrase to phrase
pub record StaysOfState : Type 0 where
  pub val : (depth : ℕ) (sc : Scope) (tyvars : List Name) (rules recs : Rules) (at : At) (st : Progress)
      → IsOfState sc st
      → infer_dec depth sc (DecPhrase.Val tyvars rules recs at) st ≡ val_by_age depth sc tyvars rules recs at st
  pub later : (sc : Scope) (st u : Progress) → IsOfState sc st → Grows Any st u → IsOfState sc u
  pub ty : (sc : Scope) (ty : TyPhrase) (st : Progress) → IsOfState sc st → Given (TyOfState st) (infer_ty sc ty)
  pub unified : (depth : ℕ) (sc inner : Scope) (at : At) (a b : Ty) (st : Progress) → IsOfState sc st
      → TyOfState st a → TyOfState st b → Given (λ u. IsOfState sc u × Grows Any st u) (unify_at depth inner at a b st)
  pub pat : (depth : ℕ) (sc : Scope) (pat : PatPhrase) (bound : Bound) (st : Progress) → IsOfState sc st
      → BoundOfState st bound
      → Given (λ r. IsOfState sc r.2 × IsOfState (under_bound r.1 sc) r.2 × BoundOfState r.2 r.1 × TyOfState r.2 r.0
      × Grows Any st r.2) (infer_pat depth sc pat bound st)
  pub exp : (depth : ℕ) (sc : Scope) (exp : ExpPhrase) (st : Progress) → IsOfState sc st
      → Given (λ r. IsOfState sc r.1 × TyOfState r.1 r.0 × Grows Any st r.1) (infer_exp depth sc exp st)
  pub rules : (depth : ℕ) (sc : Scope) (rules : Rules) (st : Progress) → IsOfState sc st
      → Given (λ r. IsOfState sc r.1 × TyOfState r.1 r.0 × Grows Any st r.1) (infer_match depth sc rules st)
  pub own : (sc : Scope) (tyvars : List Name) (rules recs : Rules) (st : Progress) → IsOfState sc st
      → Given (λ r. IsOfState (with_written (as_written r.0) sc) r.1 × IsOfState sc r.1 × Grows Any st r.1)
      (own_variables sc tyvars rules recs st)
  pub dec : (depth : ℕ) (sc : Scope) (dec : DecPhrase) (st : Progress) → IsOfState sc st
      → Given (λ r. IsOfState sc r.1 × IsOfState (under r.0 sc) r.1 × Grows Any st r.1) (infer_dec depth sc dec st)

-- ---- names

-- patterns bind names that differ from those bound before and from one another; so do the variables of bindings, each
-- of which has those that were bound since the one before it
pub record BindsNamesOnce : Type 0 where
  pub pat : (depth : ℕ) (sc : Scope) (pat : PatPhrase) (bound : Bound) (st : Progress) → are_distinct bound ≡ true
      → Given (λ r. are_distinct r.1 ≡ true) (infer_pat depth sc pat bound st)
  pub groups : (groups : List Group) (closes : Bool) (before after : Bound) → groups_bound groups ≡ before
      → take (length before) after ≡ before
      → groups_bound (groups ++ (closes, drop (length before) after) ∷ []) ≡ after

-- ---- the end of a `val`

-- variable by variable, where names differ
pub record EndsByVariables : Type 0 where
  pub all : (sc : Scope) (at : At) (kept : ℕ → Bool) (own : List (List ℕ × ℕ)) (groups : List Group) (st : Progress)
      → IsSettled st.types → are_distinct (groups_bound groups) ≡ true
      → val_end sc at kept own groups st ≡ ended_val sc at kept own (variables_of groups) st

-- ---- one step after another

-- a `val` is what its steps give: the first diagnostic that one of them gives, or its end, closed by age, where
-- everything was of the state before it
pub record GoesBySteps (depth : ℕ) (sc : Scope) (tyvars : List Name) (rules recs : Rules) (at : At) (st : Progress) :
    Type 0 where
  pub own_fails : (d : Diag) → own_variables sc tyvars rules recs st ≡ Some (Err d)
      → infer_dec depth sc (DecPhrase.Val tyvars rules recs at) st ≡ Some (Err d)
  pub binds_fail : (own : List (List ℕ × ℕ) × Progress) (d : Diag) → own_variables sc tyvars rules recs st ≡ gives own
      → infer_binds depth (with_written (as_written own.0) sc) rules [] [] own.1 ≡ Some (Err d)
      → infer_dec depth sc (DecPhrase.Val tyvars rules recs at) st ≡ Some (Err d)
  pub pats_fail : (own : List (List ℕ × ℕ) × Progress) (b : Bound × List Group × Progress) (d : Diag)
      → own_variables sc tyvars rules recs st ≡ gives own
      → infer_binds depth (with_written (as_written own.0) sc) rules [] [] own.1 ≡ gives b
      → infer_rec_pats depth (with_written (as_written own.0) sc) recs [] b.0 b.2 ≡ Some (Err d)
      → infer_dec depth sc (DecPhrase.Val tyvars rules recs at) st ≡ Some (Err d)
  pub exps_fail : (own : List (List ℕ × ℕ) × Progress) (b : Bound × List Group × Progress) (p : RecPats × Progress)
      (d : Diag) → own_variables sc tyvars rules recs st ≡ gives own
      → infer_binds depth (with_written (as_written own.0) sc) rules [] [] own.1 ≡ gives b
      → infer_rec_pats depth (with_written (as_written own.0) sc) recs [] b.0 b.2 ≡ gives p
      → infer_rec_exps depth (under_bound (rec_bound p.0) (with_written (as_written own.0) sc)) recs p.0 p.1
      ≡ Some (Err d) → infer_dec depth sc (DecPhrase.Val tyvars rules recs at) st ≡ Some (Err d)
  pub ends : (own : List (List ℕ × ℕ) × Progress) (b : Bound × List Group × Progress) (p : RecPats × Progress)
      (u : Progress) → IsOfState sc st → own_variables sc tyvars rules recs st ≡ gives own
      → infer_binds depth (with_written (as_written own.0) sc) rules [] [] own.1 ≡ gives b
      → infer_rec_pats depth (with_written (as_written own.0) sc) recs [] b.0 b.2 ≡ gives p
      → infer_rec_exps depth (under_bound (rec_bound p.0) (with_written (as_written own.0) sc)) recs p.0 p.1 ≡ gives u
      → infer_dec depth sc (DecPhrase.Val tyvars rules recs at) st
      ≡ val_end sc at (kept_since st.types.next u.types.stands) own.0 (b.1 ++ rec_groups sc.env recs p.0) u

abbrev pub ValuesGoBySteps : Type 0
ValuesGoBySteps = (depth : ℕ) (sc : Scope) (tyvars : List Name) (rules recs : Rules) (at : At) (st : Progress)
    → GoesBySteps depth sc tyvars rules recs at st

-- ---- one binding after another

-- plain bindings go one by one: pattern, expression, and the one with the other; so do the expressions of `rec`
-- bindings behind their patterns
pub record GoesByBindings (depth : ℕ) (sc : Scope) (pat : PatPhrase) (exp : ExpPhrase) (rest : Rules) : Type 0 where
  pub pat_fails : (bound : Bound) (groups : List Group) (st : Progress) (d : Diag)
      → infer_pat depth sc pat bound st ≡ Some (Err d)
      → infer_binds depth sc (Rules.Rule pat exp rest) bound groups st ≡ Some (Err d)
  pub exp_fails : (bound : Bound) (groups : List Group) (st : Progress) (p : Ty × Bound × Progress) (d : Diag)
      → infer_pat depth sc pat bound st ≡ gives p → infer_exp depth sc exp p.2 ≡ Some (Err d)
      → infer_binds depth sc (Rules.Rule pat exp rest) bound groups st ≡ Some (Err d)
  pub both_fail : (bound : Bound) (groups : List Group) (st : Progress) (p : Ty × Bound × Progress) (e : Ty × Progress)
      (d : Diag) → infer_pat depth sc pat bound st ≡ gives p → infer_exp depth sc exp p.2 ≡ gives e
      → unify_at depth sc (pat_at pat) p.0 e.0 e.1 ≡ Some (Err d)
      → infer_binds depth sc (Rules.Rule pat exp rest) bound groups st ≡ Some (Err d)
  pub goes_on : (bound : Bound) (groups : List Group) (st : Progress) (p : Ty × Bound × Progress) (e : Ty × Progress)
      (u : Progress) → infer_pat depth sc pat bound st ≡ gives p → infer_exp depth sc exp p.2 ≡ gives e
      → unify_at depth sc (pat_at pat) p.0 e.0 e.1 ≡ gives u
      → infer_binds depth sc (Rules.Rule pat exp rest) bound groups st
      ≡ infer_binds depth sc rest p.1 (groups ++ (is_nonexpansive sc.env exp, added bound p.1) ∷ []) u
  pub rec_fails : (row : Ty × Bound) (rows : RecPats) (st : Progress) (d : Diag)
      → infer_exp depth sc exp st ≡ Some (Err d)
      → infer_rec_exps depth sc (Rules.Rule pat exp rest) (row ∷ rows) st ≡ Some (Err d)
  pub rec_both_fail : (row : Ty × Bound) (rows : RecPats) (st : Progress) (e : Ty × Progress) (d : Diag)
      → infer_exp depth sc exp st ≡ gives e → unify_at depth sc (pat_at pat) row.0 e.0 e.1 ≡ Some (Err d)
      → infer_rec_exps depth sc (Rules.Rule pat exp rest) (row ∷ rows) st ≡ Some (Err d)
  pub rec_goes_on : (row : Ty × Bound) (rows : RecPats) (st : Progress) (e : Ty × Progress) (u : Progress)
      → infer_exp depth sc exp st ≡ gives e → unify_at depth sc (pat_at pat) row.0 e.0 e.1 ≡ gives u
      → infer_rec_exps depth sc (Rules.Rule pat exp rest) (row ∷ rows) st ≡ infer_rec_exps depth sc rest rows u

abbrev pub BindingsGoOneByOne : Type 0
BindingsGoOneByOne = (depth : ℕ) (sc : Scope) (pat : PatPhrase) (exp : ExpPhrase) (rest : Rules)
    → GoesByBindings depth sc pat exp rest
