-- `type` has derivations.
use Rattle.std.proofs.Common.{◌≡◌, ℕ, ◌+◌, ◌<◌, List, [], ◌∷◌, ◌++◌, map, refl, sym, ap, ◌∙◌, subst, arith, Option, Some, None, Bool, true, false, ◌||◌, not, cond}
use Rattle.std.proofs.lemmas.Bool.{eq-eqb, eqb-true}
use Rattle.std.specs.Prelude.{eqb}
use Rattle.std.specs.Option.{option_map}
use Rattle.sml_trees.specs.declared.name.Name.{Name}
use Rattle.semantic_objects.specs.declared.entry.TypeStr.{TypeStr}
use Rattle.semantic_objects.specs.Tables.{entry}
use Rattle.semantic_objects.specs.Environments.{Env, types, with_type}
use Rattle.unification.specs.Types.{Ty, Substitution, Marks, State, put}
use Rattle.unification.specs.Closing.{is_among, closed_over}
use Rattle.unification.specs.Instances.{with_variable}
use Rattle.unification.specs.Touching.{IsWithin}
use Rattle.unification.proofs.Walking.{either_way, and_left, and_right, and_both, or_left, or_right, or_false_left, or_false_right}
use Rattle.unification.proofs.Putting.{put_free}
use Rattle.unification.specs.Fitting.{IsFit}
use Rattle.bare_phrases.specs.Phrases.{TypPhrase}
use Rattle.static_semantics.specs.Inferring.{Progress, Scope, with_written_alone, name_at, found_at, named, is_named}
use Rattle.static_semantics.specs.BasicTypes.{is_equality_variable}
use Rattle.static_semantics.specs.TypeInference.{infer_ty, new_rigid, listed, numbers, as_written, type_function, plain_type, infer_types}
use Rattle.static_semantics.specs.EnvironmentsPut.{put_type, put_env, put_scope}
use Rattle.static_semantics.specs.RuleConditions.{are_distinct, do_differ, OfList}
use Rattle.static_semantics.specs.Elaborates.{ElaboratesTy, ElaboratesTypes}
use Rattle.static_semantics.specs.Holding.{Given, IfSome, AllItems, AllRows}
use Rattle.static_semantics.proofs.Holding.{given_then, items_more}
use Rattle.static_semantics.proofs.TypesGrow.{given_more}
use Rattle.static_semantics.proofs.CoreGrow.{items_after}
use Rattle.unification.proofs.Fitting.{fit_variable, solves_before, leaves_before}
use Rattle.inference_laws.specs.Alike.{IsFirm, FirmType, FirmValue, AnyName, FirmEnv}
use Rattle.inference_laws.proofs.EnvsWith.{env_types, env_found}
use Rattle.inference_laws.proofs.Firm.{ty_within, closed_firm}
use Rattle.inference_laws.proofs.PutAlike.{firm_type}
use Rattle.inference_laws.proofs.Making.{given_both}
use Rattle.phrase_laws.specs.Derived.{SolvesBefore, LeavesBefore}
use Rattle.phrase_laws.proofs.Finding.{types_put, no_entry_put, type_found_put, with_type_put}
use Rattle.phrase_laws.proofs.Types.{given_check, given_new, Shows, shown_derives}
use Rattle.phrase_laws.proofs.Steps.{given_each}
use Rattle.phrase_laws.proofs.Patterns.{not_true, distinct_more}

-- ---- lists of type variables

neither : (a b : Bool) → a ≡ false → b ≡ false → (a || b) ≡ false
neither true b h k = h
neither false b h k = k

pub absent_still : (m n : ℕ) (ns : List ℕ) → is_among m ns ≡ false → eqb m n ≡ false → is_among m (ns ++ n ∷ []) ≡ false
absent_still m n [] h k = neither (eqb m n) false k refl
absent_still m n (i ∷ ns) h k = neither (eqb m i) (is_among m (ns ++ n ∷ []))
    (or_false_left (eqb m i) (is_among m ns) h) (absent_still m n ns (or_false_right (eqb m i) (is_among m ns) h) k)

-- numbers after others that are all below
pub differ_more : (n : ℕ) (ns : List ℕ) → AllItems (λ m. m < n) ns → do_differ ns ≡ true → do_differ (ns ++ n ∷ []) ≡ true
differ_more n [] h k = refl
differ_more n (m ∷ ns) h k =
    and_both (not (is_among m (ns ++ n ∷ []))) (do_differ (ns ++ n ∷ []))
    (ap not (absent_still m n ns (not_true (is_among m ns) (and_left (not (is_among m ns)) (do_differ ns) k))
    (either_way (eqb m n)
    (λ e. let i : m ≡ n = eqb-true m n e in let l : m < n = h.0 in absurd (omega (arith, i, l)))
    (λ e. e))))
    (differ_more n ns h.1 (and_right (not (is_among m ns)) (do_differ ns) k))

pub texts_more : (before : List (List ℕ × ℕ)) (row : List ℕ × ℕ) (rest : List (List ℕ))
    → map (λ (r : List ℕ × ℕ). r.0) (before ++ row ∷ []) ++ rest
    ≡ map (λ (r : List ℕ × ℕ). r.0) before ++ row.0 ∷ rest
texts_more [] row rest = refl
texts_more (first ∷ before) row rest = ap (λ z. first.0 ∷ z) (texts_more before row rest)

pub numbers_more : (before : List (List ℕ × ℕ)) (row : List ℕ × ℕ)
    → numbers (before ++ row ∷ []) ≡ numbers before ++ row.1 ∷ []
numbers_more [] row = refl
numbers_more (first ∷ before) row = ap (λ z. first.1 ∷ z) (numbers_more before row)

-- a variable that is there is rigid, and marked where its text says so
abbrev pub IsOwn : State → List ℕ × ℕ → Type 0
IsOwn s row = (row.1 < s.next) × (s.rigid row.1 ≡ true) × (s.marks row.1 ≡ is_equality_variable row.0)

flag_other : (next n : ℕ) (flag : Bool) (q : Marks) → n < next → cond (eqb n next) flag (q n) ≡ q n
flag_other next n flag q h = either_way (eqb n next)
    (λ e. let l : n ≡ next = eqb-true n next e in absurd (omega (arith, h, l)))
    (λ e. ap (λ z. cond z flag (q n)) e)

own_later : (mark : Bool) (s : State) (row : List ℕ × ℕ) → IsOwn s row → IsOwn (with_variable true mark s) row
own_later mark s row h = (
  omega (arith, h.0),
  flag_other s.next row.1 true s.rigid h.0 ∙ h.1,
  flag_other s.next row.1 mark s.marks h.0 ∙ h.2,
)

pub own_new : (text : List ℕ) (before : List (List ℕ × ℕ)) (st : Progress) → AllItems (IsOwn st.types) before
    → AllItems (IsOwn (new_rigid text st).types) (before ++ (text, st.types.next) ∷ [])
own_new text before st h =
    let n : ℕ = st.types.next in
    let mark : Bool = is_equality_variable text in
    items_after (IsOwn (new_rigid text st).types) before ((text, n) ∷ [])
    (items_more (IsOwn st.types) (IsOwn (new_rigid text st).types) before (own_later mark st.types) h) (
      (
        omega arith,
        ap (λ z. cond z true (st.types.rigid n)) (eq-eqb n n refl),
        ap (λ z. cond z mark (st.types.marks n)) (eq-eqb n n refl),
      ),
      tt,
    )

pub own_below : (s : State) (rows : List (List ℕ × ℕ)) → AllItems (IsOwn s) rows
    → AllItems (λ n. n < s.next) (numbers rows)
own_below s [] h = tt
own_below s (row ∷ rows) h = (h.0.0, own_below s rows h.1)

-- a list of type variables after others, whose numbers are those of variables that are there
pub record ListedOf (names : List Name) (before : List (List ℕ × ℕ)) (st : Progress) (r : List (List ℕ × ℕ) × Progress) :
    Type 0 where
  pub texts : map (λ (row : List ℕ × ℕ). row.0) r.0
      ≡ map (λ (row : List ℕ × ℕ). row.0) before ++ map (λ (name : Name). name.text) names
  pub distinct : are_distinct before ≡ true → are_distinct r.0 ≡ true
  pub differ : AllItems (λ n. n < st.types.next) (numbers before) → do_differ (numbers before) ≡ true
      → do_differ (numbers r.0) ≡ true
  pub solved : SolvesBefore st r.1
  pub leaves : LeavesBefore st r.1
  pub fit : IsFit r.1.types
  pub made : r.1.names ≡ st.names
  pub each : AllItems (IsOwn st.types) before → AllItems (IsOwn r.1.types) r.0

after_none : (texts : List (List ℕ)) → texts ≡ texts ++ []
after_none [] = refl
after_none (text ∷ texts) = ap (λ z. text ∷ z) (after_none texts)

pub listed_of : (sc : Scope) (names : List Name) (before : List (List ℕ × ℕ)) (st : Progress) → IsFit st.types
    → Given (ListedOf names before st) (listed sc names before st)
listed_of sc [] before st h = record {
  texts = after_none (map (λ (row : List ℕ × ℕ). row.0) before);
  distinct = λ k. k;
  differ = λ k l. l;
  solved = λ p q. q;
  leaves = λ p q. q;
  fit = h;
  made = refl;
  each = λ k. k;
}
listed_of sc (name ∷ names) before st h =
    let row : List ℕ × ℕ = (name.text, st.types.next) in
    let next : Progress = new_rigid name.text st in
    let mark : Bool = is_equality_variable name.text in
    given_check (ListedOf (name ∷ names) before st) (is_named name.text before) 40 sc (name_at name) _ (λ e.
    given_more (ListedOf names (before ++ row ∷ []) next) (ListedOf (name ∷ names) before st)
    (listed sc names (before ++ row ∷ []) next)
    (λ r k. record {
      texts = k.texts ∙ texts_more before row (map (λ (n : Name). n.text) names);
      distinct = λ d. k.distinct (distinct_more name.text st.types.next before e d);
      differ = λ below d. k.differ
          (subst (AllItems (λ n. n < st.types.next + 1)) (sym (numbers_more before row))
          (items_after (λ n. n < st.types.next + 1) (numbers before) (st.types.next ∷ [])
          (items_more (λ n. n < st.types.next) (λ n. n < st.types.next + 1) (numbers before)
          (λ n i. omega (arith, i)) below) ((omega arith), tt)))
          (subst (λ z. do_differ z ≡ true) (sym (numbers_more before row))
          (differ_more st.types.next (numbers before) below d));
      solved = λ p q. solves_before true mark p st.types h (k.solved p q);
      leaves = λ p q. leaves_before true mark p st.types h (k.leaves p q);
      fit = k.fit;
      made = k.made;
      each = λ i. k.each (own_new name.text before st i);
    })
    (listed_of sc names (before ++ row ∷ []) next (fit_variable true mark st.types h)))

of_list : (names : List Name) (st : Progress) (r : List (List ℕ × ℕ) × Progress) → ListedOf names [] st r
    → OfList names r.0
of_list names st r h = record { texts = h.texts; distinct = h.distinct refl; differ = h.differ tt refl }

-- ---- the type of a binding

firm_same : (s : Substitution) (o : Option TypeStr) → IfSome FirmType o
    → option_map (put_type s) o ≡ option_map (put_type Ty.Var) o
firm_same s None h = refl
firm_same s (Some str) h = ap Some (firm_type s str h ∙ sym (firm_type Ty.Var str h))

itself : (o : Option Ty) → o ≡ option_map (put Ty.Var) o
itself None = refl
itself (Some t) = ap Some (sym (put_free t))

-- types see a list alone, whatever is put in around
list_shows : (s : Substitution) (sc : Scope) (own : List (List ℕ × ℕ)) → FirmEnv sc.env
    → Shows Ty.Var (with_written_alone (as_written own) sc) (with_written_alone (as_written own) (put_scope s sc))
list_shows s sc own firm = record {
  types = λ parts. type_found_put s parts sc.env ∙ firm_same s (found_at types parts sc.env)
      (env_found AnyName FirmType FirmValue FirmType types (env_types AnyName FirmType FirmValue) parts sc.env firm);
  written = λ name. itself (named name (as_written own));
}

abbrev Among : List ℕ → ℕ → Type 0
Among vs n = is_among n vs ≡ true

own_within : (vs : List ℕ) (rows : List (List ℕ × ℕ))
    → ((n : ℕ) → is_among n (numbers rows) ≡ true → is_among n vs ≡ true)
    → AllRows (IsWithin (Among vs)) (as_written rows)
own_within vs [] h = tt
own_within vs (row ∷ rows) h = (
  (λ n e. h n (or_left (eqb n row.1) (is_among n (numbers rows)) e)),
  own_within vs rows (λ n e. h n (or_right (eqb n row.1) (is_among n (numbers rows)) e)),
)

-- a type of variables of a list, which the rules give whatever is put in around
record OwnTy (sc : Scope) (own : List (List ℕ × ℕ)) (bind : TypPhrase) (ty : Ty) : Type 0 where
  derives : (s : Substitution) → ElaboratesTy (with_written_alone (as_written own) (put_scope s sc)) bind.ty ty
  firm : IsFirm (closed_over (numbers own) ty)

own_ty : (sc : Scope) (own : List (List ℕ × ℕ)) (bind : TypPhrase) → FirmEnv sc.env
    → Given (OwnTy sc own bind) (infer_ty (with_written_alone (as_written own) sc) bind.ty)
own_ty sc own bind firm =
    let inner : Scope = with_written_alone (as_written own) sc in
    let D : Substitution → Ty → Type 0 =
    λ s t. ElaboratesTy (with_written_alone (as_written own) (put_scope s sc)) bind.ty (put Ty.Var t) in
    given_more (λ t. IsWithin (Among (numbers own)) t × ((s : Substitution) → D s t)) (OwnTy sc own bind)
    (infer_ty inner bind.ty)
    (λ t h. record {
      derives = λ s. subst (ElaboratesTy (with_written_alone (as_written own) (put_scope s sc)) bind.ty) (put_free t)
          (h.1 s);
      firm = closed_firm (numbers own) t h.0;
    })
    (given_both (IsWithin (Among (numbers own))) (λ t. (s : Substitution) → D s t) (infer_ty inner bind.ty)
    (ty_within (Among (numbers own)) inner bind.ty firm (own_within (numbers own) own (λ n e. e)))
    (given_each D (infer_ty inner bind.ty) (λ s. shown_derives Ty.Var inner
    (with_written_alone (as_written own) (put_scope s sc)) (list_shows s sc own firm) bind.ty)))

-- ---- bindings

pub record TypesDerived (sc : Scope) (binds : List TypPhrase) (before : Env) (st : Progress) (r : Env × Progress) :
    Type 0 where
  pub solved : SolvesBefore st r.1
  pub leaves : LeavesBefore st r.1
  pub made : r.1.names ≡ st.names
  pub derives : (s : Substitution) → ElaboratesTypes (put_scope s sc) binds (put_env s before) (put_env s r.0)

bind_derived : (sc : Scope) (bind : TypPhrase) (binds : List TypPhrase) (before : Env) (st : Progress)
    (own : List (List ℕ × ℕ) × Progress) (ty : Ty) (r : Env × Progress) → entry bind.name.text (types before) ≡ None
    → ListedOf bind.tyvars [] st own → OwnTy sc own.0 bind ty
    → TypesDerived sc binds (with_type bind.name.text (plain_type (type_function (numbers own.0) ty)) before) own.1 r
    → TypesDerived sc (bind ∷ binds) before st r
bind_derived sc bind binds before st own ty r e h t k =
    let str : TypeStr = plain_type (type_function (numbers own.0) ty) in
    record {
      solved = λ p q. h.solved p (k.solved p q);
      leaves = λ p q. h.leaves p (k.leaves p q);
      made = k.made ∙ h.made;
      derives = λ s. ElaboratesTypes.rule_27 (put_scope s sc) bind binds (put_env s before) (put_env s r.0) own.0 ty
          (of_list bind.tyvars st own h)
          (ap (entry bind.name.text) (types_put s before) ∙ no_entry_put (put_type s) bind.name.text (types before) e)
          (t.derives s)
          (subst (λ z. ElaboratesTypes (put_scope s sc) binds z (put_env s r.0))
          (sym (ap (λ x. with_type bind.name.text x (put_env s before)) (sym (firm_type s str (t.firm, tt)))
          ∙ with_type_put s bind.name.text str before)) (k.derives s));
    }

pub types_derive : (sc : Scope) (binds : List TypPhrase) (before : Env) (st : Progress) → FirmEnv sc.env
    → IsFit st.types → Given (TypesDerived sc binds before st) (infer_types sc binds before st)
types_derive sc [] before st firm h = record {
  solved = λ p q. q;
  leaves = λ p q. q;
  made = refl;
  derives = λ s. ElaboratesTypes.no_types (put_scope s sc) (put_env s before);
}
types_derive sc (bind ∷ binds) before st firm h =
    let Q : Env × Progress → Type 0 = TypesDerived sc (bind ∷ binds) before st in
    given_then (ListedOf bind.tyvars [] st) Q (listed sc bind.tyvars [] st) _ (listed_of sc bind.tyvars [] st h)
    (λ own l.
    given_new Q bind.name.text (types before) 40 sc (name_at bind.name) _ (λ e.
    given_then (OwnTy sc own.0 bind) Q (infer_ty (with_written_alone (as_written own.0) sc) bind.ty) _
    (own_ty sc own.0 bind firm) (λ ty t.
    let after : Env = with_type bind.name.text (plain_type (type_function (numbers own.0) ty)) before in
    given_more (TypesDerived sc binds after own.1) Q (infer_types sc binds after own.1)
    (λ r k. bind_derived sc bind binds before st own ty r e l t k)
    (types_derive sc binds after own.1 firm l.fit))))
