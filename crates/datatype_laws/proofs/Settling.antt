-- Types in which the new names admit equality by a choice: what is inferred where all of them admit it is inferred, with
-- the names as the choice has them, where they stand so.
use Rattle.std.proofs.Common.{◌≡◌, ℕ, zero, suc, List, [], ◌∷◌, map, length, get_or, refl, sym, ap, ap₂, ◌∙◌, subst, Option, Some, None, Bool, true, not, eqb}
use Rattle.std.proofs.lemmas.Bool.{eqb-true}
use Rattle.std.proofs.lemmas.List.{length-map}
use Rattle.std.specs.Option.{option_map}
use Rattle.sml_trees.specs.declared.name.At.{At}
use Rattle.sml_trees.specs.declared.name.Name.{Name}
use Rattle.sml_trees.specs.declared.name.LongName.{LongName}
use Rattle.semantic_objects.specs.declared.symbol.Symbol.TheVariants as symbol
use Rattle.semantic_objects.specs.declared.entry.TypeFn.{TypeFn}
use Rattle.semantic_objects.specs.declared.entry.TypeStr.{TypeStr}
use Rattle.semantic_objects.specs.Tables.{Table, names_of, entry, with_entry}
use Rattle.semantic_objects.specs.Trees.{Tree, Trees}
use Rattle.semantic_objects.specs.Environments.{types}
use Rattle.unification.specs.Types.{Ty, Types, Substitution}
use Rattle.unification.specs.Instances.{fill, fill_all}
use Rattle.unification.proofs.Filling.{fill_same_on}
use Rattle.bare_phrases.specs.Phrases.{TyPhrase, TyFields, TyPhrases}
use Rattle.static_semantics.specs.BasicTypes.{unit_ty, record_ty, types_of}
use Rattle.static_semantics.specs.Inferring.{Scope, name_at, known, found_at, named}
use Rattle.static_semantics.specs.TypeInference.{applied_to, infer_ty, infer_ty_fields, infer_tys}
use Rattle.static_semantics.specs.DatatypeInference.{settled_symbol, settled, settled_all}
use Rattle.static_semantics.specs.EnvironmentsPut.{each_entry}
use Rattle.static_semantics.specs.Elaborates.{ElaboratesTy, ElaboratesTyFields, ElaboratesTys}
use Rattle.static_semantics.specs.Holding.{Given, IfSome}
use Rattle.static_semantics.proofs.Holding.{given_then, given_known}
use Rattle.static_semantics.proofs.TypesGrow.{given_more}
use Rattle.phrase_laws.proofs.Finding.{no_entry_put, with_entry_put}
use Rattle.phrase_laws.proofs.Types.{given_check, given_new, is_not, found_if}

module _ (home : List ℕ) (first : ℕ) (choice : List Bool) where
  -- ---- trees

  abbrev S : Ty → Ty
  S = settled home first choice

  abbrev mutual
    pub settled_tree : Tree → Tree
    settled_tree (Tree.Bound i) = Tree.Bound i
    settled_tree (Tree.Free n) = Tree.Free n
    settled_tree (Tree.Made c ts) = Tree.Made (settled_symbol home first choice c) (settled_trees ts)

    pub settled_trees : Trees → Trees
    settled_trees Trees.Nil = Trees.Nil
    settled_trees (Trees.Cons t ts) = Trees.Cons (settled_tree t) (settled_trees ts)

  abbrev pub settled_function : TypeFn → TypeFn
  settled_function function = record { arity = function.arity; body = settled_tree function.body }

  -- type structures without their constructors, which types don't see
  abbrev pub settled_str : TypeStr → TypeStr
  settled_str str = record { function = settled_function str.function; cons = str.cons }

  mutual
    fill_settled : (b f : Substitution) (t : Tree)
        → S (fill b f t) ≡ fill (λ i. S (b i)) (λ n. S (f n)) (settled_tree t)
    fill_settled b f (Tree.Bound i) = refl
    fill_settled b f (Tree.Free n) = refl
    fill_settled b f (Tree.Made c ts) = ap (Ty.Made (settled_symbol home first choice c)) (fill_all_settled b f ts)

    fill_all_settled : (b f : Substitution) (ts : Trees)
        → settled_all home first choice (fill_all b f ts)
        ≡ fill_all (λ i. S (b i)) (λ n. S (f n)) (settled_trees ts)
    fill_all_settled b f Trees.Nil = refl
    fill_all_settled b f (Trees.Cons t ts) = ap₂ Types.Cons (fill_settled b f t) (fill_all_settled b f ts)

  get_settled : (tys : List Ty) (i : ℕ) → get_or (map S tys) i unit_ty ≡ S (get_or tys i unit_ty)
  get_settled [] i = refl
  get_settled (ty ∷ tys) zero = refl
  get_settled (ty ∷ tys) (suc i) = get_settled tys i

  applied_settled : (function : TypeFn) (tys : List Ty)
      → applied_to (settled_function function) (map S tys) ≡ S (applied_to function tys)
  applied_settled function tys =
      fill_same_on (λ i. get_or (map S tys) i unit_ty) (λ i. S (get_or tys i unit_ty)) Ty.Var
      (settled_tree function.body) (λ i _. get_settled tys i)
      ∙ sym (fill_settled (λ i. get_or tys i unit_ty) Ty.Var function.body)

  names_settled : (rows : Table Ty) → names_of (each_entry S rows) ≡ names_of rows
  names_settled [] = refl
  names_settled (row ∷ rows) = ap (λ z. row.0 ∷ z) (names_settled rows)

  parts_settled : (rows : Table Ty)
      → types_of (map (λ (row : List ℕ × Ty). row.1) (each_entry S rows))
      ≡ settled_all home first choice (types_of (map (λ (row : List ℕ × Ty). row.1) rows))
  parts_settled [] = refl
  parts_settled (row ∷ rows) = ap (Types.Cons (S row.1)) (parts_settled rows)

  record_settled : (rows : Table Ty) → record_ty (each_entry S rows) ≡ S (record_ty rows)
  record_settled rows = ap₂ (λ names ts. Ty.Made (symbol.Record names) ts) (names_settled rows) (parts_settled rows)

  -- ---- types in a scope with the settled names

  -- a scope in which type names stand for the settled functions, and type variables for the same
  pub record ShowsSettled (sc other : Scope) : Type 0 where
    pub types : (parts : List (List ℕ))
        → found_at types parts other.env ≡ option_map settled_str (found_at types parts sc.env)
    pub written : (name : List ℕ) → named name other.written ≡ option_map S (named name sc.written)

  module _ (sc other : Scope) (shows : ShowsSettled sc other) where
    abbrev Derived : TyPhrase → Ty → Type 0
    Derived ty t = ElaboratesTy other ty (S t)

    abbrev FieldsDerived : TyFields → Table Ty → Table Ty → Type 0
    FieldsDerived fields before after = ElaboratesTyFields other fields (each_entry S before) (each_entry S after)

    abbrev AllDerived : TyPhrases → List Ty → Type 0
    AllDerived tys ts = ElaboratesTys other tys (map S ts)

    variable_derived : (name : Name) (at : At) (o : Option Ty) → named name.text other.written ≡ option_map S o
        → IfSome (Derived (TyPhrase.Var name at)) o
    variable_derived name at None h = tt
    variable_derived name at (Some t) h = ElaboratesTy.rule_44 other name at (S t) h

    record_derived : (fields : TyFields) (at : At) (made : Table Ty) → FieldsDerived fields [] made
        → Derived (TyPhrase.Record fields at) (record_ty made)
    record_derived fields at made h = subst (ElaboratesTy other (TyPhrase.Record fields at)) (record_settled made)
        (ElaboratesTy.rule_45 other fields at (each_entry S made) h)

    named_derived : (args : TyPhrases) (long : LongName) (at : At) (str : TypeStr) (tys : List Ty)
        → AllDerived args tys → found_at types long.parts other.env ≡ Some (settled_str str)
        → eqb (length tys) str.function.arity ≡ true
        → Derived (TyPhrase.Named args long at) (applied_to str.function tys)
    named_derived args long at str tys h k e =
        subst (ElaboratesTy other (TyPhrase.Named args long at)) (applied_settled str.function tys)
        (ElaboratesTy.rule_46 other args long at (settled_str str) (map S tys) h k
        (length-map tys S ∙ eqb-true (length tys) str.function.arity e))

    field_derived : (label : Name) (ty : TyPhrase) (rest : TyFields) (before after : Table Ty) (t : Ty)
        → entry label.text before ≡ None → Derived ty t → FieldsDerived rest (with_entry label.text t before) after
        → FieldsDerived (TyFields.Field label ty rest) before after
    field_derived label ty rest before after t e h k =
        ElaboratesTyFields.rule_49 other label ty rest (each_entry S before) (each_entry S after) (S t)
        (no_entry_put S label.text before e) h
        (subst (λ z. ElaboratesTyFields other rest z (each_entry S after)) (sym (with_entry_put S label.text t before))
        k)

    mutual
      pub settled_derives : (ty : TyPhrase) → Given (Derived ty) (infer_ty sc ty)
      settled_derives (TyPhrase.Var name at) = given_known (Derived (TyPhrase.Var name at)) sc
          (let long : LongName = record { parts = name.text ∷ []; line = name.line; col = name.col } in long)
          (named name.text sc.written)
          (variable_derived name at (named name.text sc.written) (shows.written name.text))
      settled_derives (TyPhrase.Record fields at) =
          given_then (FieldsDerived fields []) (Derived (TyPhrase.Record fields at)) (infer_ty_fields sc fields []) _
          (fields_derive fields []) (record_derived fields at)
      settled_derives (TyPhrase.Named args long at) =
          let Q : Ty → Type 0 = Derived (TyPhrase.Named args long at) in
          let Found : TypeStr → Type 0 = λ str. found_at types long.parts other.env ≡ Some (settled_str str) in
          given_then (AllDerived args) Q (infer_tys sc args) _ (tys_derive args) (λ made h.
          given_then Found Q (known sc long (found_at types long.parts sc.env)) _
          (given_known Found sc long (found_at types long.parts sc.env)
          (found_if settled_str (found_at types long.parts sc.env) (found_at types long.parts other.env)
          (shows.types long.parts))) (λ found k.
          given_check Q (not (eqb (length made) found.function.arity)) 35 sc at _ (λ e.
          named_derived args long at found made h k (is_not (eqb (length made) found.function.arity) e))))
      settled_derives (TyPhrase.Arrow from to at) =
          let Q : Ty → Type 0 = Derived (TyPhrase.Arrow from to at) in
          given_then (Derived from) Q (infer_ty sc from) _ (settled_derives from) (λ a h.
          given_then (Derived to) Q (infer_ty sc to) _ (settled_derives to) (λ b k.
          ElaboratesTy.rule_47 other from to at (S a) (S b) h k))

      fields_derive : (fields : TyFields) (before : Table Ty)
          → Given (FieldsDerived fields before) (infer_ty_fields sc fields before)
      fields_derive TyFields.EndOfFields before = ElaboratesTyFields.no_ty_fields other (each_entry S before)
      fields_derive (TyFields.Field label ty rest) before =
          let Q : Table Ty → Type 0 = FieldsDerived (TyFields.Field label ty rest) before in
          given_new Q label.text before 40 sc (name_at label) _ (λ e.
          given_then (Derived ty) Q (infer_ty sc ty) _ (settled_derives ty) (λ t h.
          given_more (FieldsDerived rest (with_entry label.text t before)) Q
          (infer_ty_fields sc rest (with_entry label.text t before))
          (λ after k. field_derived label ty rest before after t e h k)
          (fields_derive rest (with_entry label.text t before))))

      tys_derive : (tys : TyPhrases) → Given (AllDerived tys) (infer_tys sc tys)
      tys_derive TyPhrases.EndOfArgs = ElaboratesTys.no_tys other
      tys_derive (TyPhrases.Arg ty rest) =
          let Q : List Ty → Type 0 = AllDerived (TyPhrases.Arg ty rest) in
          given_then (Derived ty) Q (infer_ty sc ty) _ (settled_derives ty) (λ t h.
          given_then (AllDerived rest) Q (infer_tys sc rest) _ (tys_derive rest) (λ ts k.
          ElaboratesTys.more_tys other ty rest (S t) (map S ts) h k))
