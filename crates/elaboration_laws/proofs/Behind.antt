-- A pattern binds its own variables behind those that were bound before: with fewer before it gives the same type, the
-- same state, and the same variables of its own.
use Rattle.std.proofs.Common.{◌≡◌, ℕ, List, [], ◌∷◌, ◌++◌, refl, sym, ap, subst, Option, Some, None, Bool, true, false, not, cond}
use Rattle.std.specs.Prelude.{Ok, Err}
use Rattle.std.specs.Option.{is_some}
use Rattle.sml_trees.specs.declared.name.At.{At}
use Rattle.sml_trees.specs.declared.name.LongName.{LongName}
use Rattle.semantic_objects.specs.declared.entry.ValueEntry.{ValueEntry}
use Rattle.semantic_objects.specs.Symbols.{same_text}
use Rattle.semantic_objects.specs.Tables.{Table, entry, with_entry}
use Rattle.semantic_objects.specs.Environments.{values}
use Rattle.unification.specs.Types.{Ty, put}
use Rattle.bare_phrases.specs.Phrases.{PatPhrase, PatFields}
use Rattle.static_semantics.specs.BasicTypes.{int_ty, string_ty, char_ty, record_ty, is_one_of, reserved_names}
use Rattle.static_semantics.specs.Inferring.{Progress, Scope, Answer, ◌>>=◌, gives, refuses_where, name_at, known, unify_at, found_at, named, is_named, stands_for_con, new_variable, new_instance, Bound, is_too_large, sized_pat}
use Rattle.static_semantics.specs.TypeInference.{infer_ty, new_label}
use Rattle.static_semantics.specs.PatternInference.{bind_variable, as_con, takes_none, arrow_in, with_argument, lone_con, applied_con, known_pat, name_by, name_pat, typed_variable, infer_pat, infer_pat_fields}
use Rattle.static_semantics.specs.Holding.{Given}

-- the answer without the variables before
abbrev pub Behind : {A : Type 0} → Bound → Answer (A × Bound × Progress) → A × Bound × Progress → Type 0
Behind before m r = (own : Bound) × (m ≡ gives (r.0, own, r.2)) × (r.1 ≡ before ++ own)

-- ---- steps

-- one that doesn't look at the variables
same_then : {A B : Type 0} (before : Bound) (m : Answer A) (next less : A → Answer (B × Bound × Progress))
    → ((x : A) → Given (Behind before (less x)) (next x)) → Given (Behind before (m >>= less)) (m >>= next)
same_then before None next less h = tt
same_then before (Some (Err d)) next less h = tt
same_then before (Some (Ok x)) next less h = h x

-- one that binds some
behind_then : {A B : Type 0} (before : Bound) (m n : Answer (A × Bound × Progress))
    (next less : A × Bound × Progress → Answer (B × Bound × Progress)) → Given (Behind before n) m
    → ((x : A) (own : Bound) (st : Progress) → Given (Behind before (less (x, own, st))) (next (x, before ++ own, st)))
    → Given (Behind before (n >>= less)) (m >>= next)
behind_then before None n next less h k = tt
behind_then before (Some (Err d)) n next less h k = tt
behind_then {A} {B} before (Some (Ok r)) n next less h k =
    subst (λ z. Given (Behind before (z >>= less)) (next r)) (sym h.1)
    (subst (λ z. Given (Behind before (less (r.0, h.0, r.2))) (next (r.0, z, r.2))) (sym h.2) (k r.0 h.0 r.2))

at_once : {A : Type 0} (before : Bound) (x : A) (own : Bound) (st : Progress)
    → Given (Behind before (gives (x, own, st))) (gives (x, before ++ own, st))
at_once before x own st = (own, refl, refl)

sized_behind : (before own : Bound) (sc : Scope) (at : At) (ty : Ty) (st : Progress)
    → Given (Behind before (sized_pat sc at (ty, own, st))) (sized_pat sc at (ty, before ++ own, st))
sized_behind before own sc at ty st = same_then before
    (refuses_where (is_too_large (put st.types.stands ty)) 38 sc at) _ _ (λ u. at_once before ty own st)

-- ---- variables

after_after : {A : Type 0} (xs ys zs : List A) → (xs ++ ys) ++ zs ≡ xs ++ (ys ++ zs)
after_after [] ys zs = refl
after_after (x ∷ xs) ys zs = ap (λ z. x ∷ z) (after_after xs ys zs)

absent_first : (c : Bool) (t : Ty) (o : Option Ty) → is_some (cond c (Some t) o) ≡ false → is_some o ≡ false
absent_first true t o h = absurd (cc)
absent_first false t o h = h

absent_behind : (name : List ℕ) (before own : Bound) → is_named name (before ++ own) ≡ false
    → is_named name own ≡ false
absent_behind name [] own h = h
absent_behind name (row ∷ before) own h = absent_behind name before own
    (absent_first (same_text name row.0) row.1 (named name (before ++ own)) h)

checked : (before own : Bound) (c d : Bool) (sc : Scope) (at : At) (ty : Ty) (name : List ℕ) (st : Progress)
    → (c ≡ false → d ≡ false)
    → Given (Behind before (refuses_where d 40 sc at >>= λ v. gives (ty, own ++ (name, ty) ∷ [], st)))
    (refuses_where c 40 sc at >>= λ v. gives (ty, (before ++ own) ++ (name, ty) ∷ [], st))
checked before own true d sc at ty name st h = tt
checked before own false true sc at ty name st h = (let k : true ≡ false = h refl in absurd (cc))
checked before own false false sc at ty name st h =
    (own ++ (name, ty) ∷ [], refl, after_after before own ((name, ty) ∷ []))

bind_behind : (before own : Bound) (sc : Scope) (at : At) (name : List ℕ) (st : Progress)
    → Given (Behind before (bind_variable sc at name own st)) (bind_variable sc at name (before ++ own) st)
bind_behind before own sc at name st = same_then before (refuses_where (is_one_of reserved_names name) 34 sc at) _ _
    (λ u. checked before own (is_named name (before ++ own)) (is_named name own) sc at (new_variable st).0 name
    (new_variable st).1 (absent_behind name before own))

lone_behind : (before own : Bound) (sc : Scope) (at : At) (value : ValueEntry) (st : Progress)
    → Given (Behind before (lone_con sc at own value st)) (lone_con sc at (before ++ own) value st)
lone_behind before own sc at value st = same_then before (as_con sc at value) _ _ (λ u.
    same_then before (refuses_where (not (takes_none value.scheme.body)) 34 sc at) _ _
    (λ v. at_once before (new_instance value.scheme st).0 own (new_instance value.scheme st).1))

known_behind : (before own : Bound) (sc : Scope) (long : LongName) (at : At) (st : Progress)
    → Given (Behind before (known_pat sc long at own st)) (known_pat sc long at (before ++ own) st)
known_behind before own sc long at st = same_then before (known sc long (found_at values long.parts sc.env)) _ _
    (λ value. lone_behind before own sc at value st)

by_behind : (before own : Bound) (sc : Scope) (at : At) (c : Bool) (name : List ℕ) (long : LongName) (st : Progress)
    → Given (Behind before (name_by sc at c name long own st)) (name_by sc at c name long (before ++ own) st)
by_behind before own sc at true name long st = known_behind before own sc long at st
by_behind before own sc at false name long st = bind_behind before own sc at name st

name_behind : (before own : Bound) (sc : Scope) (long : LongName) (at : At) (parts : List (List ℕ)) (st : Progress)
    → Given (Behind before (name_pat sc long at parts own st)) (name_pat sc long at parts (before ++ own) st)
name_behind before own sc long at [] st = known_behind before own sc long at st
name_behind before own sc long at (name ∷ []) st =
    by_behind before own sc at (stands_for_con (entry name (values sc.env))) name long st
name_behind before own sc long at (name ∷ next ∷ rest) st = known_behind before own sc long at st

applied_behind : (before own : Bound) (depth : ℕ) (sc : Scope) (at : At) (value : ValueEntry) (ty : Ty) (st : Progress)
    → Given (Behind before (applied_con depth sc at value (ty, own, st)))
    (applied_con depth sc at value (ty, before ++ own, st))
applied_behind before own depth sc at value ty st = same_then before (as_con sc at value) _ _ (λ u.
    same_then before (with_argument sc at (arrow_in value.scheme.body (new_instance value.scheme st).0)) _ _ (λ parts.
    same_then before (unify_at depth sc at parts.0 ty (new_instance value.scheme st).1) _ _
    (λ s. at_once before parts.1 own s)))

-- ---- patterns

mutual
  pub pat_behind : (before own : Bound) (depth : ℕ) (sc : Scope) (pat : PatPhrase) (st : Progress)
      → Given (Behind before (infer_pat depth sc pat own st)) (infer_pat depth sc pat (before ++ own) st)
  pat_behind before own depth sc (PatPhrase.Wild at) st =
      sized_behind before own sc at (new_variable st).0 (new_variable st).1
  pat_behind before own depth sc (PatPhrase.Int value at) st = sized_behind before own sc at int_ty st
  pat_behind before own depth sc (PatPhrase.Str value at) st = sized_behind before own sc at string_ty st
  pat_behind before own depth sc (PatPhrase.Char value at) st = sized_behind before own sc at char_ty st
  pat_behind before own depth sc (PatPhrase.Long long at) st =
      behind_then before (name_pat sc long at long.parts (before ++ own) st) (name_pat sc long at long.parts own st) _ _
      (name_behind before own sc long at long.parts st) (λ ty more u. sized_behind before more sc at ty u)
  pat_behind before own depth sc (PatPhrase.Record fields at) st =
      behind_then before (infer_pat_fields depth sc fields [] (before ++ own) st)
      (infer_pat_fields depth sc fields [] own st) _ _ (fields_behind before own depth sc fields [] st)
      (λ made more u. sized_behind before more sc at (record_ty made) u)
  pat_behind before own depth sc (PatPhrase.Con long arg at) st =
      same_then before (known sc long (found_at values long.parts sc.env)) _ _ (λ value.
      behind_then before (infer_pat depth sc arg (before ++ own) st) (infer_pat depth sc arg own st) _ _
      (pat_behind before own depth sc arg st) (λ ty more u.
      behind_then before (applied_con depth sc at value (ty, before ++ more, u))
      (applied_con depth sc at value (ty, more, u)) _ _ (applied_behind before more depth sc at value ty u)
      (λ to all v. sized_behind before all sc at to v)))
  pat_behind before own depth sc (PatPhrase.Typed pat ty at) st =
      behind_then before (infer_pat depth sc pat (before ++ own) st) (infer_pat depth sc pat own st) _ _
      (pat_behind before own depth sc pat st) (λ t more u.
      same_then before (infer_ty sc ty) _ _ (λ w.
      same_then before (unify_at depth sc at t w u) _ _ (λ v. sized_behind before more sc at t v)))
  pat_behind before own depth sc (PatPhrase.As name ty pat at) st =
      same_then before (refuses_where (stands_for_con (entry name.text (values sc.env))) 34 sc at) _ _ (λ c.
      behind_then before (bind_variable sc (name_at name) name.text (before ++ own) st)
      (bind_variable sc (name_at name) name.text own st) _ _ (bind_behind before own sc (name_at name) name.text st)
      (λ x more u.
      same_then before (typed_variable depth sc at x ty u) _ _ (λ s.
      behind_then before (infer_pat depth sc pat (before ++ more) s) (infer_pat depth sc pat more s) _ _
      (pat_behind before more depth sc pat s) (λ t all v.
      same_then before (unify_at depth sc at x t v) _ _ (λ w. sized_behind before all sc at x w)))))

  fields_behind : (before own : Bound) (depth : ℕ) (sc : Scope) (fields : PatFields) (made : Table Ty) (st : Progress)
      → Given (Behind before (infer_pat_fields depth sc fields made own st))
      (infer_pat_fields depth sc fields made (before ++ own) st)
  fields_behind before own depth sc PatFields.EndOfFields made st = at_once before made own st
  fields_behind before own depth sc (PatFields.Field label pat rest) made st =
      same_then before (new_label sc label made) _ _ (λ c.
      behind_then before (infer_pat depth sc pat (before ++ own) st) (infer_pat depth sc pat own st) _ _
      (pat_behind before own depth sc pat st)
      (λ t more u. fields_behind before more depth sc rest (with_entry label.text t made) u))
