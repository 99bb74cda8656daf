-- Types whose variables are those of a list, and the lists that specifications bind.
use Rattle.std.proofs.Common.{◌≡◌, ℕ, List, [], ◌∷◌, ◌++◌, map, refl, sym, ap, ◌∙◌, subst, Option, Some, None, Bool, true, false, ◌||◌, cond, eqb}
use Rattle.std.specs.Option.{option_map, is_some}
use Rattle.sml_trees.specs.declared.name.Name.{Name}
use Rattle.semantic_objects.specs.declared.entry.TypeStr.{TypeStr}
use Rattle.semantic_objects.specs.Symbols.{same_text}
use Rattle.semantic_objects.specs.Environments.{types}
use Rattle.unification.specs.Types.{Ty, Substitution, put}
use Rattle.unification.specs.Closing.{is_among, closed_over}
use Rattle.unification.specs.Fitting.{IsFit}
use Rattle.unification.specs.Touching.{IsWithin}
use Rattle.unification.proofs.Walking.{or_left, or_right, or_false_left, or_false_right}
use Rattle.unification.proofs.Fitting.{fit_variable, solves_before, leaves_before}
use Rattle.unification.proofs.Putting.{put_free}
use Rattle.env_parts.specs.Types.{holds_free}
use Rattle.bare_phrases.specs.Phrases.{TyPhrase}
use Rattle.static_semantics.specs.BasicTypes.{is_one_of, is_equality_variable}
use Rattle.static_semantics.specs.Inferring.{Progress, Scope, with_written_alone, found_at, named, is_named}
use Rattle.static_semantics.specs.TypeInference.{infer_ty, new_rigid, numbers, as_written}
use Rattle.static_semantics.specs.WrittenVariables.{tyvars_of_ty, texts_once, by_place}
use Rattle.static_semantics.specs.CoreInference.{implicit}
use Rattle.static_semantics.specs.EnvironmentsPut.{put_type, put_scope}
use Rattle.static_semantics.specs.RuleConditions.{do_differ, OfList}
use Rattle.static_semantics.specs.Elaborates.{ElaboratesTy}
use Rattle.static_semantics.specs.Holding.{Given, IfSome, AllItems, AllRows}
use Rattle.static_semantics.proofs.Holding.{items_more}
use Rattle.static_semantics.proofs.TypesGrow.{given_more}
use Rattle.inference_laws.specs.Alike.{FirmType, FirmValue, AnyName, FirmEnv}
use Rattle.inference_laws.proofs.EnvsWith.{env_types, env_found}
use Rattle.inference_laws.proofs.Firm.{ty_within}
use Rattle.inference_laws.proofs.PutAlike.{firm_type}
use Rattle.inference_laws.proofs.Making.{given_both}
use Rattle.module_semantics.specs.ElaboratesSignatures.{OfType}
use Rattle.phrase_laws.proofs.Finding.{type_found_put}
use Rattle.phrase_laws.proofs.Types.{Shows, shown_derives}
use Rattle.phrase_laws.proofs.Steps.{given_each}
use Rattle.phrase_laws.proofs.TypeBindings.{IsOwn, own_new, differ_more, own_below, numbers_more, texts_more, ListedOf}
use Rattle.specification_laws.specs.Derived.{IsAfter}
use Rattle.matching_choices.proofs.Closed.{none_free}

-- ---- states

pub after_none : (st : Progress) → IsFit st.types → IsAfter st st
after_none st h = record { fit = h; solved = λ p q. q; leaves = λ p q. q }

pub after_both : (st u v : Progress) → IsAfter st u → IsAfter u v → IsAfter st v
after_both st u v h k = record {
  fit = k.fit;
  solved = λ p q. h.solved p (k.solved p q);
  leaves = λ p q. h.leaves p (k.leaves p q);
}

pub after_listed : (names : List Name) (before : List (List ℕ × ℕ)) (st : Progress)
    (r : List (List ℕ × ℕ) × Progress) → ListedOf names before st r → IsAfter st r.1
after_listed names before st r h = record { fit = h.fit; solved = h.solved; leaves = h.leaves }

pub of_list : (names : List Name) (st : Progress) (r : List (List ℕ × ℕ) × Progress) → ListedOf names [] st r
    → OfList names r.0
of_list names st r h = record { texts = h.texts; distinct = h.distinct refl; differ = h.differ tt refl }

-- ---- types of variables of a list

firm_same : (s : Substitution) (o : Option TypeStr) → IfSome FirmType o
    → option_map (put_type s) o ≡ option_map (put_type Ty.Var) o
firm_same s None h = refl
firm_same s (Some str) h = ap Some (firm_type s str h ∙ sym (firm_type Ty.Var str h))

itself : (o : Option Ty) → o ≡ option_map (put Ty.Var) o
itself None = refl
itself (Some t) = ap Some (sym (put_free t))

-- types see a list alone, whatever is put in around
list_shows : (s : Substitution) (sc : Scope) (own : List (List ℕ × ℕ)) → FirmEnv sc.env
    → Shows Ty.Var (with_written_alone (as_written own) sc) (with_written_alone (as_written own) (put_scope s sc))
list_shows s sc own firm = record {
  types = λ parts. type_found_put s parts sc.env ∙ firm_same s (found_at types parts sc.env)
      (env_found AnyName FirmType FirmValue FirmType types (env_types AnyName FirmType FirmValue) parts sc.env firm);
  written = λ name. itself (named name (as_written own));
}

abbrev Among : List ℕ → ℕ → Type 0
Among vs n = is_among n vs ≡ true

own_within : (vs : List ℕ) (rows : List (List ℕ × ℕ))
    → ((n : ℕ) → is_among n (numbers rows) ≡ true → is_among n vs ≡ true)
    → AllRows (IsWithin (Among vs)) (as_written rows)
own_within vs [] h = tt
own_within vs (row ∷ rows) h = (
  (λ n e. h n (or_left (eqb n row.1) (is_among n (numbers rows)) e)),
  own_within vs rows (λ n e. h n (or_right (eqb n row.1) (is_among n (numbers rows)) e)),
)

-- a type that the rules give whatever is put in around, in which no variable is left where it is closed
pub record OwnTy (sc : Scope) (own : List (List ℕ × ℕ)) (ty : TyPhrase) (t : Ty) : Type 0 where
  pub derives : (s : Substitution) → ElaboratesTy (with_written_alone (as_written own) (put_scope s sc)) ty t
  pub closed : holds_free (closed_over (numbers own) t) ≡ false

pub own_ty : (sc : Scope) (own : List (List ℕ × ℕ)) (ty : TyPhrase) → FirmEnv sc.env
    → Given (OwnTy sc own ty) (infer_ty (with_written_alone (as_written own) sc) ty)
own_ty sc own ty firm =
    let inner : Scope = with_written_alone (as_written own) sc in
    let D : Substitution → Ty → Type 0 =
    λ s t. ElaboratesTy (with_written_alone (as_written own) (put_scope s sc)) ty (put Ty.Var t) in
    given_more (λ t. IsWithin (Among (numbers own)) t × ((s : Substitution) → D s t)) (OwnTy sc own ty)
    (infer_ty inner ty)
    (λ t h. record {
      derives = λ s. subst (ElaboratesTy (with_written_alone (as_written own) (put_scope s sc)) ty) (put_free t) (h.1 s);
      closed = none_free (closed_over (numbers own) t)
          (Rattle.inference_laws.proofs.Firm.closed_firm (numbers own) t h.0);
    })
    (given_both (IsWithin (Among (numbers own))) (λ t. (s : Substitution) → D s t) (infer_ty inner ty)
    (ty_within (Among (numbers own)) inner ty firm (own_within (numbers own) own (λ n e. e)))
    (given_each D (infer_ty inner ty) (λ s. shown_derives Ty.Var inner
    (with_written_alone (as_written own) (put_scope s sc)) (list_shows s sc own firm) ty)))

-- ---- the variables of a type, each once

abbrev texts_of : List (List ℕ × ℕ) → List (List ℕ)
texts_of rows = map (λ (row : List ℕ × ℕ). row.0) rows

abbrev AllDiffer : List (List ℕ) → Type 0
AllDiffer [] = Unit {0}
AllDiffer (text ∷ texts) = AllItems (λ (t : List ℕ). same_text t text ≡ false) texts × AllDiffer texts

abbrev Absent : List (List ℕ) → List ℕ → Type 0
Absent met t = is_one_of met t ≡ false

absent_where : (met : List (List ℕ)) (c : Bool) (text : List ℕ) (first second : List (List ℕ)) → is_one_of met text ≡ c
    → AllItems (Absent met) first → AllItems (Absent (text ∷ met)) second
    → AllItems (Absent met) (cond c first (text ∷ second))
absent_where met true text first second e h k = h
absent_where met false text first second e h k = (
  e,
  items_more (Absent (text ∷ met)) (Absent met) second
      (λ t i. or_false_right (same_text t text) (is_one_of met t) i) k,
)

once_absent : (met : List (List ℕ)) (xs : List Name) → AllItems (Absent met) (texts_once met xs)
once_absent met [] = tt
once_absent met (x ∷ xs) = absent_where met (is_one_of met x.text) x.text (texts_once met xs)
    (texts_once (x.text ∷ met) xs) refl (once_absent met xs) (once_absent (x.text ∷ met) xs)

differ_where : (met : List (List ℕ)) (c : Bool) (text : List ℕ) (first second : List (List ℕ)) → AllDiffer first
    → AllItems (Absent (text ∷ met)) second → AllDiffer second → AllDiffer (cond c first (text ∷ second))
differ_where met true text first second h k l = h
differ_where met false text first second h k l = (
  items_more (Absent (text ∷ met)) (λ t. same_text t text ≡ false) second
      (λ t i. or_false_left (same_text t text) (is_one_of met t) i) k,
  l,
)

once_differ : (met : List (List ℕ)) (xs : List Name) → AllDiffer (texts_once met xs)
once_differ met [] = tt
once_differ met (x ∷ xs) = differ_where met (is_one_of met x.text) x.text (texts_once met xs)
    (texts_once (x.text ∷ met) xs) (once_differ met xs) (once_absent (x.text ∷ met) xs) (once_differ (x.text ∷ met) xs)

named_case : {A : Type 0} (c : Bool) (x : A) (o : Option A) → c ≡ false → is_some o ≡ false
    → is_some (cond c (Some x) o) ≡ false
named_case true x o h k = absurd (cc)
named_case false x o h k = k

not_named_case : (c : Bool) (n : ℕ) (o p : Option ℕ) → (is_some o ≡ false → is_some p ≡ false)
    → is_some (cond c (Some n) o) ≡ false → is_some (cond c (Some n) p) ≡ false
not_named_case true n o p h k = absurd (cc)
not_named_case false n o p h k = h k

not_named_more : (text name : List ℕ) (n : ℕ) (rows : List (List ℕ × ℕ)) → same_text text name ≡ false
    → is_named text rows ≡ false → is_named text (rows ++ (name, n) ∷ []) ≡ false
not_named_more text name n [] h k = named_case (same_text text name) n None h refl
not_named_more text name n (row ∷ rows) h k = not_named_case (same_text text row.0) row.1 (named text rows)
    (named text (rows ++ (name, n) ∷ [])) (not_named_more text name n rows h) k

all_not_named : (text : List ℕ) (n : ℕ) (texts : List (List ℕ)) (rows : List (List ℕ × ℕ))
    → AllItems (λ (t : List ℕ). same_text t text ≡ false) texts → AllItems (λ t. is_named t rows ≡ false) texts
    → AllItems (λ t. is_named t (rows ++ (text, n) ∷ []) ≡ false) texts
all_not_named text n [] rows h k = tt
all_not_named text n (t ∷ texts) rows h k =
    (not_named_more t text n rows h.0 k.0, all_not_named text n texts rows h.1 k.1)

record ImplicitOf (all : List (List ℕ)) (before : List (List ℕ × ℕ)) (st : Progress)
    (r : List (List ℕ × ℕ) × Progress) : Type 0 where
  texts : texts_of r.0 ≡ texts_of before ++ all
  differ : do_differ (numbers r.0) ≡ true
  after : IsAfter st r.1
  made : r.1.names ≡ st.names

nothing_more : (xs : List (List ℕ)) → xs ≡ xs ++ []
nothing_more [] = refl
nothing_more (x ∷ xs) = ap (λ z. x ∷ z) (nothing_more xs)

by_test : (texts : List (List ℕ)) (before : List (List ℕ × ℕ)) (st : Progress) (c : Bool)
    (a b : List (List ℕ × ℕ) × Progress) → c ≡ false → ImplicitOf texts before st b
    → ImplicitOf texts before st (cond (c || false) a b)
by_test texts before st true a b e h = absurd (cc)
by_test texts before st false a b e h = h

implicit_of : (texts : List (List ℕ)) (before : List (List ℕ × ℕ)) (st : Progress) → IsFit st.types → AllDiffer texts
    → AllItems (λ t. is_named t before ≡ false) texts → do_differ (numbers before) ≡ true
    → AllItems (IsOwn st.types) before → ImplicitOf texts before st (implicit [] texts before st)
implicit_of [] before st fit d n k l =
    record { texts = nothing_more (texts_of before); differ = k; after = after_none st fit; made = refl }
implicit_of (text ∷ texts) before st fit d n k l =
    let mark : Bool = is_equality_variable text in
    let more : List (List ℕ × ℕ) = before ++ (text, st.types.next) ∷ [] in
    let h : ImplicitOf texts more (new_rigid text st) (implicit [] texts more (new_rigid text st)) =
    implicit_of texts more (new_rigid text st) (fit_variable true mark st.types fit) d.1
    (all_not_named text st.types.next texts before d.0 n.1)
    (subst (λ z. do_differ z ≡ true) (sym (numbers_more before (text, st.types.next)))
    (differ_more st.types.next (numbers before) (own_below st.types before l) k))
    (own_new text before st l) in
    by_test (text ∷ texts) before st (is_named text before) (implicit [] texts before st)
    (implicit [] texts more (new_rigid text st)) n.0 (record {
      texts = h.texts ∙ texts_more before (text, st.types.next) texts;
      differ = h.differ;
      after = record {
        fit = h.after.fit;
        solved = λ p q. solves_before true mark p st.types fit (h.after.solved p q);
        leaves = λ p q. leaves_before true mark p st.types fit (h.after.leaves p q);
      };
      made = h.made;
    })

none_named : (texts : List (List ℕ)) → AllItems (λ t. is_named {A = ℕ} t [] ≡ false) texts
none_named [] = tt
none_named (t ∷ texts) = (refl, none_named texts)

-- the variables of a type, in the order of their first places
pub record VariablesOf (ty : TyPhrase) (st : Progress) (r : List (List ℕ × ℕ) × Progress) : Type 0 where
  pub of : OfType ty r.0
  pub after : IsAfter st r.1
  pub made : r.1.names ≡ st.names

pub variables_are : (ty : TyPhrase) (st : Progress) → IsFit st.types
    → VariablesOf ty st (implicit [] (texts_once [] (by_place (tyvars_of_ty ty))) [] st)
variables_are ty st fit =
    let texts : List (List ℕ) = texts_once [] (by_place (tyvars_of_ty ty)) in
    let h : ImplicitOf texts [] st (implicit [] texts [] st) = implicit_of texts [] st fit
    (once_differ [] (by_place (tyvars_of_ty ty))) (none_named texts) refl tt in
    record { of = record { texts = h.texts; differ = h.differ }; after = h.after; made = h.made }
