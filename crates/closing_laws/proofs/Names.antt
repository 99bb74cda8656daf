-- Names that patterns bind differ.
use Rattle.std.proofs.Common.{◌≡◌, ℕ, List, [], ◌∷◌, ◌++◌, refl, sym, ap, ◌∙◌, subst, Option, Some, None, Bool, true, false, not, cond, length}
use Rattle.std.specs.Prelude.{Ok, Err, take, drop}
use Rattle.std.proofs.lemmas.List.{append_assoc, append-nil, take-append-drop}
use Rattle.std.specs.Option.{is_some}
use Rattle.sml_trees.specs.declared.name.At.{At}
use Rattle.sml_trees.specs.declared.name.LongName.{LongName}
use Rattle.semantic_objects.specs.declared.entry.ValueEntry.{ValueEntry}
use Rattle.semantic_objects.specs.Symbols.{same_text}
use Rattle.semantic_objects.specs.Tables.{Table, entry, with_entry}
use Rattle.semantic_objects.specs.Environments.{values}
use Rattle.semantic_objects.proofs.Same.{text_is, text_same}
use Rattle.unification.specs.Types.{Ty, put}
use Rattle.unification.proofs.Walking.{either_way, and_left, and_right, and_both}
use Rattle.bare_phrases.specs.Phrases.{PatPhrase, PatFields}
use Rattle.static_semantics.specs.BasicTypes.{int_ty, string_ty, char_ty, record_ty, reserved_names, is_one_of}
use Rattle.static_semantics.specs.Inferring.{Progress, Scope, Answer, ◌>>=◌, gives, refuses_where, name_at, known, unify_at, found_at, named, is_named, is_con, stands_for_con, new_variable, new_instance, Bound, is_too_large, sized_pat}
use Rattle.static_semantics.specs.TypeInference.{infer_ty, new_label}
use Rattle.static_semantics.specs.PatternInference.{bind_variable, takes_none, arrow_in, with_argument, lone_con, applied_con, known_pat, name_by, name_pat, typed_variable, infer_pat, infer_pat_fields}
use Rattle.static_semantics.specs.CoreInference.{Group}
use Rattle.static_semantics.specs.RuleConditions.{are_distinct, groups_bound}
use Rattle.static_semantics.specs.Holding.{Given}
use Rattle.static_semantics.proofs.Holding.{given_then, given_where}
use Rattle.closing_laws.proofs.Rows.{named_apart, not_true}

-- ---- one name more

named_neither : {A : Type 0} (c : Bool) (x : A) (o : Option A) → c ≡ false → is_some o ≡ false
    → is_some (cond c (Some x) o) ≡ false
named_neither true x o h k = absurd (cc)
named_neither false x o h k = k

-- texts that differ do so the other way round
differ_back : (a b : List ℕ) → same_text a b ≡ false → same_text b a ≡ false
differ_back a b h = either_way (same_text b a)
    (λ e. let same : same_text a b ≡ true = subst (λ z. same_text a z ≡ true) (sym (text_is b a e)) (text_same a) in
    absurd (let f : true ≡ false = sym same ∙ h in cc))
    (λ e. e)

still_absent : {A : Type 0} (text name : List ℕ) (x : A) (rows : List (List ℕ × A)) → is_named text rows ≡ false
    → same_text text name ≡ false → is_named text (rows ++ (name, x) ∷ []) ≡ false
still_absent text name x [] h k = named_neither (same_text text name) x None k refl
still_absent text name x (row ∷ rows) h k =
    let e : (same_text text row.0 ≡ false) × (is_named text rows ≡ false) =
    named_apart (same_text text row.0) row.1 (named text rows) h in
    named_neither (same_text text row.0) row.1 (named text (rows ++ (name, x) ∷ [])) e.0
    (still_absent text name x rows e.1 k)

distinct_more : {A : Type 0} (name : List ℕ) (x : A) (rows : List (List ℕ × A)) → is_named name rows ≡ false
    → are_distinct rows ≡ true → are_distinct (rows ++ (name, x) ∷ []) ≡ true
distinct_more name x [] h k = refl
distinct_more name x (row ∷ rows) h k =
    let e : (same_text name row.0 ≡ false) × (is_named name rows ≡ false) =
    named_apart (same_text name row.0) row.1 (named name rows) h in
    and_both (not (is_named row.0 (rows ++ (name, x) ∷ []))) (are_distinct (rows ++ (name, x) ∷ []))
    (ap not (still_absent row.0 name x rows
    (not_true (is_named row.0 rows) (and_left (not (is_named row.0 rows)) (are_distinct rows) k))
    (differ_back name row.0 e.0)))
    (distinct_more name x rows e.1 (and_right (not (is_named row.0 rows)) (are_distinct rows) k))

-- ---- patterns

-- what holds of everything
abbrev Whatever : {A : Type 0} → A → Type 0
Whatever x = Unit {0}

given_any : {A : Type 0} (m : Answer A) → Given (λ (x : A). Unit {0}) m
given_any None = tt
given_any (Some (Err d)) = tt
given_any (Some (Ok x)) = tt

given_check : {B : Type 0} (Q : B → Type 0) (c : Bool) (number : ℕ) (sc : Scope) (at : At)
    (next : Unit {0} → Answer B) → (c ≡ false → Given Q (next tt)) → Given Q (refuses_where c number sc at >>= next)
given_check Q true number sc at next h = tt
given_check Q false number sc at next h = h refl

abbrev Differ : Ty × Bound × Progress → Type 0
Differ r = are_distinct r.1 ≡ true

abbrev FieldsDiffer : Table Ty × Bound × Progress → Type 0
FieldsDiffer r = are_distinct r.1 ≡ true

sized_once : (sc : Scope) (at : At) (r : Ty × Bound × Progress) → Differ r → Given Differ (sized_pat sc at r)
sized_once sc at r h = given_where Differ (is_too_large (put r.2.types.stands r.0)) 38 sc at (λ u. gives r) h

bound_once : (sc : Scope) (at : At) (name : List ℕ) (bound : Bound) (st : Progress) → are_distinct bound ≡ true
    → Given Differ (bind_variable sc at name bound st)
bound_once sc at name bound st h =
    given_where Differ (is_one_of reserved_names name) 34 sc at _
    (given_check Differ (is_named name bound) 40 sc at _ (λ e. distinct_more name (new_variable st).0 bound e h))

lone_once : (sc : Scope) (at : At) (bound : Bound) (value : ValueEntry) (st : Progress) → are_distinct bound ≡ true
    → Given Differ (lone_con sc at bound value st)
lone_once sc at bound value st h =
    given_where Differ (not (is_con value.status)) 34 sc at _
    (given_where Differ (not (takes_none value.scheme.body)) 34 sc at _ h)

applied_once : (depth : ℕ) (sc : Scope) (at : At) (value : ValueEntry) (arg : Ty × Bound × Progress) → Differ arg
    → Given Differ (applied_con depth sc at value arg)
applied_once depth sc at value arg h =
    let u : Progress = (new_instance value.scheme arg.2).1 in
    let sides : Answer (Ty × Ty) = with_argument sc at (arrow_in value.scheme.body (new_instance value.scheme arg.2).0) in
    given_where Differ (not (is_con value.status)) 34 sc at _
    (given_then (λ p. Unit {0}) Differ sides _ (given_any sides) (λ parts _.
    given_then (λ v. Unit {0}) Differ (unify_at depth sc at parts.0 arg.0 u) _
    (given_any (unify_at depth sc at parts.0 arg.0 u)) (λ v _. h)))

known_once : (sc : Scope) (long : LongName) (at : At) (bound : Bound) (st : Progress) → are_distinct bound ≡ true
    → Given Differ (known_pat sc long at bound st)
known_once sc long at bound st h =
    let found : Answer ValueEntry = known sc long (found_at values long.parts sc.env) in
    given_then (λ v. Unit {0}) Differ found _ (given_any found) (λ value _. lone_once sc at bound value st h)

by_once : (sc : Scope) (at : At) (c : Bool) (name : List ℕ) (long : LongName) (bound : Bound) (st : Progress)
    → are_distinct bound ≡ true → Given Differ (name_by sc at c name long bound st)
by_once sc at true name long bound st h = known_once sc long at bound st h
by_once sc at false name long bound st h = bound_once sc at name bound st h

name_once : (sc : Scope) (long : LongName) (at : At) (parts : List (List ℕ)) (bound : Bound) (st : Progress)
    → are_distinct bound ≡ true → Given Differ (name_pat sc long at parts bound st)
name_once sc long at [] bound st h = known_once sc long at bound st h
name_once sc long at (name ∷ []) bound st h =
    by_once sc at (stands_for_con (entry name (values sc.env))) name long bound st h
name_once sc long at (name ∷ next ∷ rest) bound st h = known_once sc long at bound st h

mutual
  pub pat_once : (depth : ℕ) (sc : Scope) (pat : PatPhrase) (bound : Bound) (st : Progress) → are_distinct bound ≡ true
      → Given Differ (infer_pat depth sc pat bound st)
  pat_once depth sc (PatPhrase.Wild at) bound st h =
      sized_once sc at ((new_variable st).0, bound, (new_variable st).1) h
  pat_once depth sc (PatPhrase.Int value at) bound st h = sized_once sc at (int_ty, bound, st) h
  pat_once depth sc (PatPhrase.Str value at) bound st h = sized_once sc at (string_ty, bound, st) h
  pat_once depth sc (PatPhrase.Char value at) bound st h = sized_once sc at (char_ty, bound, st) h
  pat_once depth sc (PatPhrase.Long long at) bound st h =
      given_then Differ Differ (name_pat sc long at long.parts bound st) _
      (name_once sc long at long.parts bound st h) (λ r k. sized_once sc at r k)
  pat_once depth sc (PatPhrase.Record fields at) bound st h =
      given_then FieldsDiffer Differ (infer_pat_fields depth sc fields [] bound st) _
      (fields_once depth sc fields [] bound st h) (λ r k. sized_once sc at (record_ty r.0, r.1, r.2) k)
  pat_once depth sc (PatPhrase.Con long arg at) bound st h =
      let found : Answer ValueEntry = known sc long (found_at values long.parts sc.env) in
      given_then (λ v. Unit {0}) Differ found _ (given_any found) (λ value _.
      given_then Differ Differ (infer_pat depth sc arg bound st) _ (pat_once depth sc arg bound st h) (λ r k.
      given_then Differ Differ (applied_con depth sc at value r) _ (applied_once depth sc at value r k) (λ q l.
      sized_once sc at q l)))
  pat_once depth sc (PatPhrase.Typed pat ty at) bound st h =
      given_then Differ Differ (infer_pat depth sc pat bound st) _ (pat_once depth sc pat bound st h) (λ r k.
      given_then (λ t. Unit {0}) Differ (infer_ty sc ty) _ (given_any (infer_ty sc ty)) (λ t _.
      given_then (λ u. Unit {0}) Differ (unify_at depth sc at r.0 t r.2) _
      (given_any (unify_at depth sc at r.0 t r.2)) (λ u _. sized_once sc at (r.0, r.1, u) k)))
  pat_once depth sc (PatPhrase.As name ty pat at) bound st h =
      given_where Differ (stands_for_con (entry name.text (values sc.env))) 34 sc at _
      (given_then Differ Differ (bind_variable sc (name_at name) name.text bound st) _
      (bound_once sc (name_at name) name.text bound st h) (λ x k.
      given_then (λ s. Unit {0}) Differ (typed_variable depth sc at x.0 ty x.2) _
      (given_any (typed_variable depth sc at x.0 ty x.2)) (λ s _.
      given_then Differ Differ (infer_pat depth sc pat x.1 s) _ (pat_once depth sc pat x.1 s k) (λ r l.
      given_then (λ u. Unit {0}) Differ (unify_at depth sc at x.0 r.0 r.2) _
      (given_any (unify_at depth sc at x.0 r.0 r.2)) (λ u _. sized_once sc at (x.0, r.1, u) l)))))

  fields_once : (depth : ℕ) (sc : Scope) (fields : PatFields) (made : Table Ty) (bound : Bound) (st : Progress)
      → are_distinct bound ≡ true → Given FieldsDiffer (infer_pat_fields depth sc fields made bound st)
  fields_once depth sc PatFields.EndOfFields made bound st h = h
  fields_once depth sc (PatFields.Field label pat rest) made bound st h =
      given_then (λ u. Unit {0}) FieldsDiffer (new_label sc label made) _ (given_any (new_label sc label made)) (λ u _.
      given_then Differ FieldsDiffer (infer_pat depth sc pat bound st) _ (pat_once depth sc pat bound st h) (λ r k.
      fields_once depth sc rest (with_entry label.text r.0 made) r.1 r.2 k))

-- ---- bindings

pub bound_after : (groups : List Group) (closes : Bool) (rows : Bound)
    → groups_bound (groups ++ (closes, rows) ∷ []) ≡ groups_bound groups ++ rows
bound_after [] closes rows = append-nil rows
bound_after (group ∷ groups) closes rows =
    ap (λ (z : Bound). group.1 ++ z) (bound_after groups closes rows)
    ∙ sym (append_assoc group.1 (groups_bound groups) rows)

pub groups_more : (groups : List Group) (closes : Bool) (before after : Bound) → groups_bound groups ≡ before
    → take (length before) after ≡ before → groups_bound (groups ++ (closes, drop (length before) after) ∷ []) ≡ after
groups_more groups closes before after h k =
    bound_after groups closes (drop (length before) after)
    ∙ ap (λ (z : Bound). z ++ drop (length before) after) (h ∙ sym k)
    ∙ take-append-drop (length before) after
