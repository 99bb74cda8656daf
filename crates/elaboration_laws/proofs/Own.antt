-- The written type variables that a `val` binds.
use Rattle.std.proofs.Common.{◌≡◌, ℕ, List, [], ◌∷◌, ◌++◌, map, refl, sym, ap, ap₂, ◌∙◌, subst, Option, Some, None, Bool, true, false, ◌||◌, cond}
use Rattle.std.specs.Option.{is_some}
use Rattle.sml_trees.specs.declared.name.Name.{Name}
use Rattle.semantic_objects.specs.Symbols.{same_text}
use Rattle.unification.specs.Types.{Ty}
use Rattle.unification.specs.Fitting.{IsFit}
use Rattle.unification.proofs.Walking.{or_false_left, or_false_right}
use Rattle.unification.proofs.Fitting.{fit_variable, solves_before, leaves_before}
use Rattle.bare_phrases.specs.Phrases.{Rules}
use Rattle.static_semantics.specs.BasicTypes.{is_one_of, is_equality_variable}
use Rattle.static_semantics.specs.Inferring.{Progress, Scope, named, is_named}
use Rattle.static_semantics.specs.TypeInference.{new_rigid, listed, numbers}
use Rattle.static_semantics.specs.WrittenVariables.{texts_once, by_place, tyvars_of_rules, written_in}
use Rattle.static_semantics.specs.CoreInference.{implicit, own_variables}
use Rattle.static_semantics.specs.RuleConditions.{are_distinct, do_differ, unscoped}
use Rattle.static_semantics.specs.Holding.{Given, AllItems}
use Rattle.static_semantics.proofs.Holding.{given_then, items_more}
use Rattle.phrase_laws.specs.Derived.{SolvesBefore, LeavesBefore}
use Rattle.phrase_laws.proofs.Patterns.{distinct_more}
use Rattle.phrase_laws.proofs.TypeBindings.{IsOwn, own_new, differ_more, own_below, numbers_more, texts_more, ListedOf, listed_of}

abbrev pub texts_of : List (List ℕ × ℕ) → List (List ℕ)
texts_of rows = map (λ (row : List ℕ × ℕ). row.0) rows

-- ---- names among others

named_case : {A : Type 0} (c : Bool) (x : A) (o p : Option A) → is_some o ≡ is_some p
    → is_some (cond c (Some x) o) ≡ is_some (cond c (Some x) p)
named_case true x o p h = refl
named_case false x o p h = h

named_still : (text name : List ℕ) (n : ℕ) (rows : List (List ℕ × ℕ)) → same_text text name ≡ false
    → is_named text (rows ++ (name, n) ∷ []) ≡ is_named text rows
named_still text name n [] h = ap (λ c. is_some (cond c (Some n) None)) h
named_still text name n (row ∷ rows) h = named_case (same_text text row.0) row.1 (named text (rows ++ (name, n) ∷ []))
    (named text rows) (named_still text name n rows h)

some_or : {A : Type 0} (c : Bool) (x : A) (o : Option A) → is_some (cond c (Some x) o) ≡ (c || is_some o)
some_or true x o = refl
some_or false x o = refl

pub named_one : (text : List ℕ) (rows : List (List ℕ × ℕ)) → is_named text rows ≡ is_one_of (texts_of rows) text
named_one text [] = refl
named_one text (row ∷ rows) = some_or (same_text text row.0) row.1 (named text rows)
    ∙ ap (λ z. same_text text row.0 || z) (named_one text rows)

-- ---- texts, each once

abbrev AllDiffer : List (List ℕ) → Type 0
AllDiffer [] = Unit {0}
AllDiffer (text ∷ texts) = AllItems (λ (t : List ℕ). same_text t text ≡ false) texts × AllDiffer texts

abbrev Absent : List (List ℕ) → List ℕ → Type 0
Absent met t = is_one_of met t ≡ false

absent_where : (met : List (List ℕ)) (c : Bool) (text : List ℕ) (first second : List (List ℕ)) → is_one_of met text ≡ c
    → AllItems (Absent met) first → AllItems (Absent (text ∷ met)) second
    → AllItems (Absent met) (cond c first (text ∷ second))
absent_where met true text first second e h k = h
absent_where met false text first second e h k = (
  e,
  items_more (Absent (text ∷ met)) (Absent met) second
      (λ t i. or_false_right (same_text t text) (is_one_of met t) i) k,
)

once_absent : (met : List (List ℕ)) (xs : List Name) → AllItems (Absent met) (texts_once met xs)
once_absent met [] = tt
once_absent met (x ∷ xs) = absent_where met (is_one_of met x.text) x.text (texts_once met xs)
    (texts_once (x.text ∷ met) xs) refl (once_absent met xs) (once_absent (x.text ∷ met) xs)

differ_where : (met : List (List ℕ)) (c : Bool) (text : List ℕ) (first second : List (List ℕ)) → AllDiffer first
    → AllItems (Absent (text ∷ met)) second → AllDiffer second → AllDiffer (cond c first (text ∷ second))
differ_where met true text first second h k l = h
differ_where met false text first second h k l = (
  items_more (Absent (text ∷ met)) (λ t. same_text t text ≡ false) second
      (λ t i. or_false_left (same_text t text) (is_one_of met t) i) k,
  l,
)

once_differ : (met : List (List ℕ)) (xs : List Name) → AllDiffer (texts_once met xs)
once_differ met [] = tt
once_differ met (x ∷ xs) = differ_where met (is_one_of met x.text) x.text (texts_once met xs)
    (texts_once (x.text ∷ met) xs) (once_differ met xs) (once_absent (x.text ∷ met) xs) (once_differ (x.text ∷ met) xs)

-- ---- those that aren't in the list

record ImplicitOf (outer : List (List ℕ × Ty)) (tyvars : List Name) (written : List (List ℕ))
    (before : List (List ℕ × ℕ)) (st : Progress) (r : List (List ℕ × ℕ) × Progress) : Type 0 where
  texts : texts_of r.0 ≡ texts_of before ++ unscoped outer tyvars written
  distinct : are_distinct r.0 ≡ true
  differ : do_differ (numbers r.0) ≡ true
  each : AllItems (IsOwn r.1.types) r.0
  solved : SolvesBefore st r.1
  leaves : LeavesBefore st r.1
  made : r.1.names ≡ st.names

nothing_more : (xs : List (List ℕ)) → xs ≡ xs ++ []
nothing_more [] = refl
nothing_more (x ∷ xs) = ap (λ z. x ∷ z) (nothing_more xs)

abbrev pub texts_in : List Name → List (List ℕ)
texts_in tyvars = map (λ (name : Name). name.text) tyvars

both_named : (text : List ℕ) (n : ℕ) (before : List (List ℕ × ℕ)) (texts : List (List ℕ)) (tyvars : List Name)
    → AllItems (λ (t : List ℕ). same_text t text ≡ false) texts
    → AllItems (λ t. is_named t before ≡ is_one_of (texts_in tyvars) t) texts
    → AllItems (λ t. is_named t (before ++ (text, n) ∷ []) ≡ is_one_of (texts_in tyvars) t) texts
both_named text n before [] tyvars h k = tt
both_named text n before (t ∷ texts) tyvars h k = (
  named_still t text n before h.0 ∙ k.0,
  both_named text n before texts tyvars h.1 k.1,
)

implicit_where : (outer : List (List ℕ × Ty)) (tyvars : List Name) (text : List ℕ) (texts : List (List ℕ))
    (before : List (List ℕ × ℕ)) (st : Progress) (a b : Bool) (first second : List (List ℕ × ℕ) × Progress)
    → IsFit st.types
    → ImplicitOf outer tyvars texts before st first
    → (a ≡ false → ImplicitOf outer tyvars texts (before ++ (text, st.types.next) ∷ []) (new_rigid text st) second)
    → is_one_of (texts_in tyvars) text ≡ a → is_named text outer ≡ b
    → ImplicitOf outer tyvars (text ∷ texts) before st (cond (a || b) first second)
implicit_where outer tyvars text texts before st true b first second fit h k e i = record {
  texts = h.texts ∙ ap (λ z. texts_of before ++ cond z (unscoped outer tyvars texts) (cond (is_named text outer)
      (unscoped outer tyvars texts) (text ∷ unscoped outer tyvars texts))) (sym e);
  distinct = h.distinct;
  differ = h.differ;
  each = h.each;
  solved = h.solved;
  leaves = h.leaves;
  made = h.made;
}
implicit_where outer tyvars text texts before st false true first second fit h k e i = record {
  texts = h.texts ∙ ap₂ (λ z w. texts_of before ++ cond z (unscoped outer tyvars texts) (cond w
      (unscoped outer tyvars texts) (text ∷ unscoped outer tyvars texts))) (sym e) (sym i);
  distinct = h.distinct;
  differ = h.differ;
  each = h.each;
  solved = h.solved;
  leaves = h.leaves;
  made = h.made;
}
implicit_where outer tyvars text texts before st false false first second fit h k e i =
    let l = k refl in
    let mark : Bool = is_equality_variable text in record {
      texts = l.texts ∙ texts_more before (text, st.types.next) (unscoped outer tyvars texts)
          ∙ ap₂ (λ z w. texts_of before ++ cond z (unscoped outer tyvars texts) (cond w
          (unscoped outer tyvars texts) (text ∷ unscoped outer tyvars texts))) (sym e) (sym i);
      distinct = l.distinct;
      differ = l.differ;
      each = l.each;
      solved = λ p q. solves_before true mark p st.types fit (l.solved p q);
      leaves = λ p q. leaves_before true mark p st.types fit (l.leaves p q);
      made = l.made;
    }

implicit_of : (outer : List (List ℕ × Ty)) (tyvars : List Name) (texts : List (List ℕ)) (before : List (List ℕ × ℕ))
    (st : Progress) → IsFit st.types → AllDiffer texts
    → AllItems (λ t. is_named t before ≡ is_one_of (texts_in tyvars) t) texts → are_distinct before ≡ true
    → do_differ (numbers before) ≡ true → AllItems (IsOwn st.types) before
    → ImplicitOf outer tyvars texts before st (implicit outer texts before st)
implicit_of outer tyvars [] before st fit d n h k l = record {
  texts = nothing_more (texts_of before);
  distinct = h;
  differ = k;
  each = l;
  solved = λ p q. q;
  leaves = λ p q. q;
  made = refl;
}
implicit_of outer tyvars (text ∷ texts) before st fit d n h k l =
    let mark : Bool = is_equality_variable text in
    let more : List (List ℕ × ℕ) = before ++ (text, st.types.next) ∷ [] in
    implicit_where outer tyvars text texts before st (is_named text before) (is_named text outer)
    (implicit outer texts before st) (implicit outer texts more (new_rigid text st)) fit
    (implicit_of outer tyvars texts before st fit d.1 n.1 h k l)
    (λ e. implicit_of outer tyvars texts more (new_rigid text st) (fit_variable true mark st.types fit) d.1
    (both_named text st.types.next before texts tyvars d.0 n.1)
    (distinct_more text st.types.next before e h)
    (subst (λ z. do_differ z ≡ true) (sym (numbers_more before (text, st.types.next)))
    (differ_more st.types.next (numbers before) (own_below st.types before l) k))
    (own_new text before st l))
    (sym n.0) refl

-- ---- both

pub record OwnDerived (sc : Scope) (tyvars : List Name) (rules recs : Rules) (st : Progress)
    (own : List (List ℕ × ℕ) × Progress) : Type 0 where
  pub texts : texts_of own.0 ≡ texts_in tyvars ++ unscoped sc.written tyvars (written_in rules recs)
  pub distinct : are_distinct own.0 ≡ true
  pub differ : do_differ (numbers own.0) ≡ true
  pub each : AllItems (IsOwn own.1.types) own.0
  pub solved : SolvesBefore st own.1
  pub leaves : LeavesBefore st own.1
  pub made : own.1.names ≡ st.names

all_named : (rows : List (List ℕ × ℕ)) (names texts : List (List ℕ)) → texts_of rows ≡ names
    → AllItems (λ t. is_named t rows ≡ is_one_of names t) texts
all_named rows names [] e = tt
all_named rows names (t ∷ texts) e = (
  named_one t rows ∙ ap (λ z. is_one_of z t) e,
  all_named rows names texts e,
)

pub own_derives : (sc : Scope) (tyvars : List Name) (rules recs : Rules) (st : Progress) → IsFit st.types
    → Given (OwnDerived sc tyvars rules recs st) (own_variables sc tyvars rules recs st)
own_derives sc tyvars rules recs st fit =
    given_then (ListedOf tyvars [] st) (OwnDerived sc tyvars rules recs st) (listed sc tyvars [] st) _
    (listed_of sc tyvars [] st fit) (λ r h.
    let i : ImplicitOf sc.written tyvars (written_in rules recs) r.0 r.1
    (implicit sc.written (written_in rules recs) r.0 r.1) =
    implicit_of sc.written tyvars (written_in rules recs) r.0 r.1 h.fit
    (once_differ [] (by_place (tyvars_of_rules rules ++ tyvars_of_rules recs)))
    (all_named r.0 (texts_in tyvars) (written_in rules recs) h.texts) (h.distinct refl) (h.differ tt refl) (h.each tt) in
    record {
      texts = i.texts ∙ ap (λ z. z ++ unscoped sc.written tyvars (written_in rules recs)) h.texts;
      distinct = i.distinct;
      differ = i.differ;
      each = i.each;
      solved = λ p q. h.solved p (i.solved p q);
      leaves = λ p q. h.leaves p (i.leaves p q);
      made = i.made ∙ h.made;
    })
