-- Types have derivations, whatever is put in for variables.
use Rattle.std.proofs.Common.{◌≡◌, ℕ, zero, suc, List, [], ◌∷◌, map, length, get_or, refl, sym, ◌∙◌, subst, Option, Some, None, Bool, true, false, not}
use Rattle.std.proofs.lemmas.Bool.{eqb-true}
use Rattle.std.proofs.lemmas.List.{length-map}
use Rattle.std.specs.Prelude.{eqb}
use Rattle.std.specs.Option.{option_map, is_some}
use Rattle.sml_trees.specs.declared.name.At.{At}
use Rattle.sml_trees.specs.declared.name.Name.{Name}
use Rattle.sml_trees.specs.declared.name.LongName.{LongName}
use Rattle.semantic_objects.specs.declared.entry.TypeStr.{TypeStr}
use Rattle.semantic_objects.specs.Tables.{Table, entry, with_entry}
use Rattle.semantic_objects.specs.Environments.{types}
use Rattle.unification.specs.Types.{Ty, Substitution, put}
use Rattle.unification.proofs.Filling.{put_fill, fill_put, fill_same_on}
use Rattle.bare_phrases.specs.Phrases.{TyPhrase, TyFields, TyPhrases}
use Rattle.static_semantics.specs.BasicTypes.{unit_ty, record_ty}
use Rattle.static_semantics.specs.Inferring.{Scope, Answer, ◌>>=◌, refuses_where, name_at, known, found_at, named}
use Rattle.static_semantics.specs.TypeInference.{applied_to, infer_ty, infer_ty_fields, infer_tys}
use Rattle.static_semantics.specs.EnvironmentsPut.{put_type, put_rows, put_scope}
use Rattle.static_semantics.specs.Elaborates.{ElaboratesTy, ElaboratesTyFields, ElaboratesTys}
use Rattle.static_semantics.specs.Holding.{Given, IfSome}
use Rattle.static_semantics.proofs.Holding.{given_then, given_known}
use Rattle.static_semantics.proofs.TypesGrow.{given_more}
use Rattle.phrase_laws.proofs.Finding.{no_entry_put, with_entry_put, named_put, type_found_put, record_put}

-- ---- answers

-- a check on the way, of which is known that it didn't fail
pub given_check : {B : Type 0} (Q : B → Type 0) (c : Bool) (number : ℕ) (sc : Scope) (at : At)
    (next : Unit {0} → Answer B) → (c ≡ false → Given Q (next tt)) → Given Q (refuses_where c number sc at >>= next)
given_check Q true number sc at next h = tt
given_check Q false number sc at next h = h refl

none_is : {A : Type 0} (o : Option A) → is_some o ≡ false → o ≡ None
none_is None h = refl
none_is (Some x) h = absurd (cc)

-- no earlier field has the label
pub given_new : {A B : Type 0} (Q : B → Type 0) (label : List ℕ) (fields : Table A) (number : ℕ) (sc : Scope) (at : At)
    (next : Unit {0} → Answer B) → (entry label fields ≡ None → Given Q (next tt))
    → Given Q (refuses_where (is_some (entry label fields)) number sc at >>= next)
given_new Q label fields number sc at next h =
    given_check Q (is_some (entry label fields)) number sc at next (λ e. h (none_is (entry label fields) e))

pub is_not : (b : Bool) → not b ≡ false → b ≡ true
is_not true h = refl
is_not false h = absurd (cc)

-- of what is found in an environment, where it is found with types put in
pub found_if : {A : Type 0} (f : A → A) (o p : Option A) → p ≡ option_map f o → IfSome (λ x. p ≡ Some (f x)) o
found_if f None p h = tt
found_if f (Some x) p h = h

-- ---- type functions

get_put : (s : Substitution) (tys : List Ty) (i : ℕ) → get_or (map (put s) tys) i unit_ty ≡ put s (get_or tys i unit_ty)
get_put s [] i = refl
get_put s (ty ∷ tys) zero = refl
get_put s (ty ∷ tys) (suc i) = get_put s tys i

applied_put : (s : Substitution) (str : TypeStr) (tys : List Ty)
    → applied_to (put_type s str).function (map (put s) tys) ≡ put s (applied_to str.function tys)
applied_put s str tys =
    fill_put (λ i. get_or (map (put s) tys) i unit_ty) s str.function.body
    ∙ fill_same_on (λ i. get_or (map (put s) tys) i unit_ty) (λ i. put s (get_or tys i unit_ty)) s str.function.body
    (λ i _. get_put s tys i)
    ∙ sym (put_fill s (λ i. get_or tys i unit_ty) Ty.Var str.function.body)

-- ---- types in a scope that shows another one

-- a scope in which names of types and type variables stand for what they stand for in another one, with types put in
pub record Shows (s : Substitution) (sc other : Scope) : Type 0 where
  pub types : (parts : List (List ℕ))
      → found_at types parts other.env ≡ option_map (put_type s) (found_at types parts sc.env)
  pub written : (name : List ℕ) → named name other.written ≡ option_map (put s) (named name sc.written)

module _ (s : Substitution) (sc other : Scope) (shows : Shows s sc other) where
  abbrev Derived : TyPhrase → Ty → Type 0
  Derived ty t = ElaboratesTy other ty (put s t)

  abbrev FieldsDerived : TyFields → Table Ty → Table Ty → Type 0
  FieldsDerived fields before after = ElaboratesTyFields other fields (put_rows s before) (put_rows s after)

  abbrev AllDerived : TyPhrases → List Ty → Type 0
  AllDerived tys ts = ElaboratesTys other tys (map (put s) ts)

  variable_derived : (name : Name) (at : At) (o : Option Ty) → named name.text other.written ≡ option_map (put s) o
      → IfSome (Derived (TyPhrase.Var name at)) o
  variable_derived name at None h = tt
  variable_derived name at (Some t) h = ElaboratesTy.rule_44 other name at (put s t) h

  record_derived : (fields : TyFields) (at : At) (made : Table Ty) → FieldsDerived fields [] made
      → Derived (TyPhrase.Record fields at) (record_ty made)
  record_derived fields at made h = subst (ElaboratesTy other (TyPhrase.Record fields at)) (record_put s made)
      (ElaboratesTy.rule_45 other fields at (put_rows s made) h)

  named_derived : (args : TyPhrases) (long : LongName) (at : At) (str : TypeStr) (tys : List Ty) → AllDerived args tys
      → found_at types long.parts other.env ≡ Some (put_type s str) → eqb (length tys) str.function.arity ≡ true
      → Derived (TyPhrase.Named args long at) (applied_to str.function tys)
  named_derived args long at str tys h k e =
      subst (ElaboratesTy other (TyPhrase.Named args long at)) (applied_put s str tys)
      (ElaboratesTy.rule_46 other args long at (put_type s str) (map (put s) tys) h k
      (length-map tys (put s) ∙ eqb-true (length tys) str.function.arity e))

  field_derived : (label : Name) (ty : TyPhrase) (rest : TyFields) (before after : Table Ty) (t : Ty)
      → entry label.text before ≡ None → Derived ty t → FieldsDerived rest (with_entry label.text t before) after
      → FieldsDerived (TyFields.Field label ty rest) before after
  field_derived label ty rest before after t e h k =
      ElaboratesTyFields.rule_49 other label ty rest (put_rows s before) (put_rows s after) (put s t)
      (no_entry_put (put s) label.text before e) h
      (subst (λ z. ElaboratesTyFields other rest z (put_rows s after))
      (sym (with_entry_put (put s) label.text t before)) k)

  mutual
    pub shown_derives : (ty : TyPhrase) → Given (Derived ty) (infer_ty sc ty)
    shown_derives (TyPhrase.Var name at) = given_known (Derived (TyPhrase.Var name at)) sc
        (let long : LongName = record { parts = name.text ∷ []; line = name.line; col = name.col } in long)
        (named name.text sc.written)
        (variable_derived name at (named name.text sc.written) (shows.written name.text))
    shown_derives (TyPhrase.Record fields at) =
        given_then (FieldsDerived fields []) (Derived (TyPhrase.Record fields at)) (infer_ty_fields sc fields []) _
        (fields_derive fields []) (record_derived fields at)
    shown_derives (TyPhrase.Named args long at) =
        let Q : Ty → Type 0 = Derived (TyPhrase.Named args long at) in
        let Found : TypeStr → Type 0 = λ str. found_at types long.parts other.env ≡ Some (put_type s str) in
        given_then (AllDerived args) Q (infer_tys sc args) _ (tys_derive args) (λ made h.
        given_then Found Q (known sc long (found_at types long.parts sc.env)) _
        (given_known Found sc long (found_at types long.parts sc.env)
        (found_if (put_type s) (found_at types long.parts sc.env) (found_at types long.parts other.env)
        (shows.types long.parts))) (λ found k.
        given_check Q (not (eqb (length made) found.function.arity)) 35 sc at _ (λ e.
        named_derived args long at found made h k (is_not (eqb (length made) found.function.arity) e))))
    shown_derives (TyPhrase.Arrow from to at) =
        let Q : Ty → Type 0 = Derived (TyPhrase.Arrow from to at) in
        given_then (Derived from) Q (infer_ty sc from) _ (shown_derives from) (λ a h.
        given_then (Derived to) Q (infer_ty sc to) _ (shown_derives to) (λ b k.
        ElaboratesTy.rule_47 other from to at (put s a) (put s b) h k))

    fields_derive : (fields : TyFields) (before : Table Ty)
        → Given (FieldsDerived fields before) (infer_ty_fields sc fields before)
    fields_derive TyFields.EndOfFields before = ElaboratesTyFields.no_ty_fields other (put_rows s before)
    fields_derive (TyFields.Field label ty rest) before =
        let Q : Table Ty → Type 0 = FieldsDerived (TyFields.Field label ty rest) before in
        given_new Q label.text before 40 sc (name_at label) _ (λ e.
        given_then (Derived ty) Q (infer_ty sc ty) _ (shown_derives ty) (λ t h.
        given_more (FieldsDerived rest (with_entry label.text t before)) Q
        (infer_ty_fields sc rest (with_entry label.text t before))
        (λ after k. field_derived label ty rest before after t e h k)
        (fields_derive rest (with_entry label.text t before))))

    tys_derive : (tys : TyPhrases) → Given (AllDerived tys) (infer_tys sc tys)
    tys_derive TyPhrases.EndOfArgs = ElaboratesTys.no_tys other
    tys_derive (TyPhrases.Arg ty rest) =
        let Q : List Ty → Type 0 = AllDerived (TyPhrases.Arg ty rest) in
        given_then (Derived ty) Q (infer_ty sc ty) _ (shown_derives ty) (λ t h.
        given_then (AllDerived rest) Q (infer_tys sc rest) _ (tys_derive rest) (λ ts k.
        ElaboratesTys.more_tys other ty rest (put s t) (map (put s) ts) h k))

-- ---- types in a scope in which types were put in

abbrev pub TyDerived : Substitution → Scope → TyPhrase → Ty → Type 0
TyDerived s sc ty t = ElaboratesTy (put_scope s sc) ty (put s t)

pub ty_derives : (s : Substitution) (sc : Scope) (ty : TyPhrase) → Given (TyDerived s sc ty) (infer_ty sc ty)
ty_derives s sc = shown_derives s sc (put_scope s sc) (record {
  types = λ parts. type_found_put s parts sc.env;
  written = λ name. named_put s name sc.written;
})
