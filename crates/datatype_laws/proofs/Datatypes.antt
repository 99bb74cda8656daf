-- Datatypes have derivations, in the scope in which their types admit equality by the choice from the start.
use Rattle.std.proofs.Common.{◌≡◌, ℕ, suc, ◌+◌, ◌-◌, List, [], ◌∷◌, ◌++◌, map, length, get_or, refl, sym, ap, ap₂, ◌∙◌, subst, arith, Option, Some, None, Bool, true, false, ◌&&◌, cond}
use Rattle.std.specs.Prelude.{Ok, Err}
use Rattle.std.specs.List.{list_all}
use Rattle.std.specs.Option.{option_map, is_some}
use Rattle.std.proofs.lemmas.List.{length-map}
use Rattle.semantic_objects.specs.declared.name.TyName.{TyName}
use Rattle.semantic_objects.specs.declared.symbol.Symbol.{Symbol}
use Rattle.semantic_objects.specs.declared.symbol.Symbol.TheVariants as symbol
use Rattle.semantic_objects.specs.declared.entry.TypeStr.{TypeStr}
use Rattle.semantic_objects.specs.Symbols.{same_text}
use Rattle.semantic_objects.specs.Tables.{with_entry}
use Rattle.semantic_objects.specs.Trees.{TypeScheme}
use Rattle.semantic_objects.specs.Environments.{Env, empty_env}
use Rattle.unification.specs.Types.{Ty, Types, Substitution, admits}
use Rattle.unification.specs.Closing.{closed_over}
use Rattle.unification.specs.Fitting.{IsFit}
use Rattle.bare_phrases.specs.Phrases.{TyPhrase, ConPhrase, DatPhrase}
use Rattle.static_semantics.specs.BasicTypes.{is_one_of, is_equality_variable, arrow_ty}
use Rattle.static_semantics.specs.Inferring.{Progress, Scope, Answer, under, with_written_alone, name_at, named, is_named}
use Rattle.static_semantics.specs.TypeInference.{infer_ty, listed, numbers, as_written, type_function}
use Rattle.static_semantics.specs.DatatypeInference.{own_name, own_ty, new_types, Con, Dat, infer_optional_ty, infer_cons, cons_of, infer_dats, is_new, settled_name, settled_symbol, settled, settled_all, argument_admits, equality_choice, con_ty, con_schemes, con_entries, with_datatype, datatype_str, made_types, datatypes_of}
use Rattle.static_semantics.specs.EnvironmentsPut.{put_env, put_scope}
use Rattle.static_semantics.specs.RuleConditions.{types_by, RespectsIn, MaximisesEquality}
use Rattle.static_semantics.specs.Elaborates.{ElaboratesTy, ElaboratesCons, ElaboratesDats}
use Rattle.static_semantics.specs.Holding.{Given, AllItems}
use Rattle.static_semantics.proofs.Holding.{given_then}
use Rattle.static_semantics.proofs.TypesGrow.{given_more}
use Rattle.static_semantics.proofs.Maximal.{datatypes_maximise}
use Rattle.inference_laws.specs.Alike.{FirmType, FirmEnv}
use Rattle.inference_laws.proofs.Firm.{closed_firm, own_within, new_firm, DatWithin, dats_within, schemes_firm, entries_firm, firm_nothing, firm_modified}
use Rattle.inference_laws.proofs.PutAlike.{firm_type}
use Rattle.inference_laws.proofs.Making.{given_both}
use Rattle.phrase_laws.specs.Derived.{SolvesBefore, LeavesBefore}
use Rattle.phrase_laws.proofs.Types.{given_check}
use Rattle.phrase_laws.proofs.TypeBindings.{ListedOf, listed_of}
use Rattle.phrase_laws.proofs.Declarations.{with_datatype_put}
use Rattle.datatype_laws.specs.Below.{TypesBelow}
use Rattle.datatype_laws.specs.Derived.{DatatypesDerived}
use Rattle.datatype_laws.specs.Promises.{DatatypesHaveDerivations}
use Rattle.datatype_laws.proofs.Settling.{ShowsSettled, settled_derives}
use Rattle.datatype_laws.proofs.New.{list_settles, NewOf, new_of}

after_after : {A : Type 0} (xs ys zs : List A) → (xs ++ ys) ++ zs ≡ xs ++ (ys ++ zs)
after_after [] ys zs = refl
after_after (x ∷ xs) ys zs = ap (λ z. x ∷ z) (after_after xs ys zs)

map_after : {A B : Type 0} (f : A → B) (xs ys : List A) → map f (xs ++ ys) ≡ map f xs ++ map f ys
map_after f [] ys = refl
map_after f (x ∷ xs) ys = ap (λ z. f x ∷ z) (map_after f xs ys)

nothing_after : {A : Type 0} (xs : List A) → xs ++ [] ≡ xs
nothing_after [] = refl
nothing_after (x ∷ xs) = ap (λ z. x ∷ z) (nothing_after xs)

-- ---- settled constructors and datatypes

module _ (home : List ℕ) (first : ℕ) (choice : List Bool) where
  abbrev S : Ty → Ty
  S = settled home first choice

  abbrev pub settled_con : Con → Con
  settled_con con = (con.0, option_map S con.1)

  abbrev pub settled_cons : List Con → List Con
  settled_cons cons = map settled_con cons

  abbrev pub settled_dat : Dat → Dat
  settled_dat dat = record { name = dat.name; variables = dat.variables; cons = settled_cons dat.cons }

  abbrev pub settled_dats : List Dat → List Dat
  settled_dats dats = map settled_dat dats

  same_named : (name : List ℕ) (cons : List Con) → is_named name (settled_cons cons) ≡ is_named name cons
  same_named name [] = refl
  same_named name (con ∷ cons) = by_test (same_text name con.0) (same_named name cons)
    where
      by_test : (c : Bool) → is_some (named name (settled_cons cons)) ≡ is_some (named name cons)
          → is_some (cond c (Some (option_map S con.1)) (named name (settled_cons cons)))
          ≡ is_some (cond c (Some con.1) (named name cons))
      by_test true h = refl
      by_test false h = h

  settled_cons_of : (dats : List Dat) (cons : List Con)
      → settled_cons (cons_of dats) ++ settled_cons cons ≡ settled_cons (cons_of dats ++ cons)
  settled_cons_of dats cons = sym (map_after settled_con (cons_of dats) cons)

  cons_of_after : (dats : List Dat) (dat : Dat) → cons_of (dats ++ dat ∷ []) ≡ cons_of dats ++ dat.cons
  cons_of_after [] dat = nothing_after dat.cons
  cons_of_after (d ∷ dats) dat = ap (λ z. d.cons ++ z) (cons_of_after dats dat)
      ∙ sym (after_after d.cons (cons_of dats) dat.cons)

  -- ---- constructors in two scopes

  module _ (sc other : Scope) (shows : ShowsSettled home first choice sc other) (refused : List (List ℕ)) where
    record ConsDerived (cons : List ConPhrase) (before made r : List Con) : Type 0 where
      more : List Con
      is : r ≡ made ++ more
      derives : ElaboratesCons other refused cons (settled_cons (before ++ made)) (settled_cons more)

    -- one constructor, and those after it
    con_derived : (con : ConPhrase) (cons : List ConPhrase) (before made r : List Con) (arg : Option Ty)
        → ((more : List Con) → ElaboratesCons other refused cons
        (settled_cons (before ++ made) ++ (con.name.text, option_map S arg) ∷ []) more
        → ElaboratesCons other refused (con ∷ cons) (settled_cons (before ++ made))
        ((con.name.text, option_map S arg) ∷ more))
        → ConsDerived cons before (made ++ (con.name.text, arg) ∷ []) r → ConsDerived (con ∷ cons) before made r
    con_derived con cons before made r arg rule h =
        let x : Con = (con.name.text, arg) in
        record {
          more = x ∷ h.more;
          is = h.is ∙ after_after made (x ∷ []) h.more;
          derives = rule (settled_cons h.more)
              (subst (λ z. ElaboratesCons other refused cons z (settled_cons h.more))
              (ap settled_cons (sym (after_after before made (x ∷ [])))
              ∙ map_after settled_con (before ++ made) (x ∷ [])) h.derives);
        }

    argument_derived : (con : ConPhrase) (cons : List ConPhrase) (before made : List Con)
        → is_one_of refused con.name.text ≡ false → is_named con.name.text (before ++ made) ≡ false
        → (arg : Option TyPhrase) → con.arg ≡ arg
        → Given (λ t. (more : List Con) → ElaboratesCons other refused cons
        (settled_cons (before ++ made) ++ (con.name.text, option_map S t) ∷ []) more
        → ElaboratesCons other refused (con ∷ cons) (settled_cons (before ++ made))
        ((con.name.text, option_map S t) ∷ more)) (infer_optional_ty sc arg)
    argument_derived con cons before made a n None e = λ more k.
        ElaboratesCons.rule_29_constant other refused con cons (settled_cons (before ++ made)) more e a
        (same_named con.name.text (before ++ made) ∙ n) k
    argument_derived con cons before made a n (Some ty) e =
        given_then (λ t. ElaboratesTy other ty (S t)) _ (infer_ty sc ty) _
        (settled_derives home first choice sc other shows ty) (λ t d more k.
        ElaboratesCons.rule_29_of other refused con cons (settled_cons (before ++ made)) more ty (S t) e a
        (same_named con.name.text (before ++ made) ∙ n) d k)

    cons_derive : (cons : List ConPhrase) (before made : List Con)
        → Given (ConsDerived cons before made) (infer_cons sc refused cons before made)
    cons_derive [] before made = record {
      more = [];
      is = sym (nothing_after made);
      derives = ElaboratesCons.no_cons other refused (settled_cons (before ++ made));
    }
    cons_derive (con ∷ cons) before made =
        let Q : List Con → Type 0 = ConsDerived (con ∷ cons) before made in
        given_check Q (is_one_of refused con.name.text) 34 sc (name_at con.name) _ (λ a.
        given_check Q (is_named con.name.text (before ++ made)) 40 sc (name_at con.name) _ (λ n.
        given_then (λ t. (more : List Con) → ElaboratesCons other refused cons
        (settled_cons (before ++ made) ++ (con.name.text, option_map S t) ∷ []) more
        → ElaboratesCons other refused (con ∷ cons) (settled_cons (before ++ made))
        ((con.name.text, option_map S t) ∷ more)) Q (infer_optional_ty sc con.arg) _
        (argument_derived con cons before made a n con.arg refl) (λ arg rule.
        given_more (ConsDerived cons before (made ++ (con.name.text, arg) ∷ [])) Q
        (infer_cons sc refused cons before (made ++ (con.name.text, arg) ∷ []))
        (λ r k. con_derived con cons before made r arg rule k)
        (cons_derive cons before (made ++ (con.name.text, arg) ∷ [])))))

  -- ---- datatypes

  record DatsDerived (other : Scope) (refused : List (List ℕ)) (binds : List DatPhrase) (made : List Dat)
      (r : List Dat × Progress) : Type 0 where
    more : List Dat
    is : r.0 ≡ made ++ more
    derives : ElaboratesDats other refused binds (settled_cons (cons_of made)) (settled_dats more)

  dats_derive : (sc other : Scope) (refused : List (List ℕ)) → ((own : List (List ℕ × ℕ))
      → ShowsSettled home first choice (with_written_alone (as_written own) sc)
      (with_written_alone (as_written own) other))
      → (binds : List DatPhrase) (made : List Dat) (st : Progress) → IsFit st.types
      → Given (DatsDerived other refused binds made) (infer_dats sc refused binds made st)
  dats_derive sc other refused shows [] made st fit = record {
    more = [];
    is = sym (nothing_after made);
    derives = ElaboratesDats.no_dats other refused (settled_cons (cons_of made));
  }
  dats_derive sc other refused shows (bind ∷ binds) made st fit =
      let Q : List Dat × Progress → Type 0 = DatsDerived other refused (bind ∷ binds) made in
      given_then (ListedOf bind.tyvars [] st) Q (listed sc bind.tyvars [] st) _ (listed_of sc bind.tyvars [] st fit)
      (λ own l.
      let inner : Scope = with_written_alone (as_written own.0) sc in
      let outer : Scope = with_written_alone (as_written own.0) other in
      given_then (ConsDerived inner outer (shows own.0) refused bind.cons (cons_of made) []) Q
      (infer_cons inner refused bind.cons (cons_of made) []) _
      (cons_derive inner outer (shows own.0) refused bind.cons (cons_of made) []) (λ cons c.
      let dat : Dat = record { name = bind.name.text; variables = own.0; cons = cons } in
      given_more (DatsDerived other refused binds (made ++ dat ∷ [])) Q
      (infer_dats sc refused binds (made ++ dat ∷ []) own.1) (λ r h. record {
        more = dat ∷ h.more;
        is = h.is ∙ after_after made (dat ∷ []) h.more;
        derives = ElaboratesDats.rule_28 other refused bind binds (settled_cons (cons_of made)) (settled_dat dat)
            (settled_dats h.more) refl
            (record { texts = l.texts; distinct = l.distinct refl; differ = l.differ tt refl })
            (subst (λ z. ElaboratesCons outer refused bind.cons z (settled_cons cons))
            (ap settled_cons (nothing_after (cons_of made)))
            (subst (λ z. ElaboratesCons outer refused bind.cons (settled_cons (cons_of made ++ [])) (settled_cons z))
            (sym c.is) c.derives))
            (subst (λ z. ElaboratesDats other refused binds z (settled_dats h.more))
            (ap settled_cons (cons_of_after made dat) ∙ sym (settled_cons_of made cons)) h.derives);
      }) (dats_derive sc other refused shows binds (made ++ dat ∷ []) own.1 l.fit)))

  -- ---- settling twice

  module _ (next : List Bool) (same : length next ≡ length choice) where
    -- a name that was settled, by what it is and by whether it is new
    twice_by : (c : Bool) (name : TyName) → is_new home first (length choice) name ≡ c
        → settled_name home first next (cond c
        (let made : TyName = record {
          owner = name.owner;
          number = name.number;
          arity = name.arity;
          eq = get_or choice (name.number - first) false;
        } in made) name)
        ≡ settled_name home first next name
    twice_by false name e = refl
    twice_by true name e =
        let new : is_new home first (length next) name ≡ true =
        subst (λ k. is_new home first k name ≡ true) (sym same) e in
        rw (new)

    name_twice : (name : TyName)
        → settled_name home first next (settled_name home first choice name) ≡ settled_name home first next name
    name_twice name = twice_by (is_new home first (length choice) name) name refl

    symbol_twice : (c : Symbol)
        → settled_symbol home first next (settled_symbol home first choice c) ≡ settled_symbol home first next c
    symbol_twice symbol.Arrow = refl
    symbol_twice (symbol.Record labels) = refl
    symbol_twice (symbol.Name name) = ap symbol.Name (name_twice name)

    mutual
      ty_twice : (t : Ty) → settled home first next (S t) ≡ settled home first next t
      ty_twice (Ty.Var n) = refl
      ty_twice (Ty.Made c ts) = ap₂ Ty.Made (symbol_twice c) (tys_twice ts)

      tys_twice : (ts : Types)
          → settled_all home first next (settled_all home first choice ts) ≡ settled_all home first next ts
      tys_twice Types.Nil = refl
      tys_twice (Types.Cons t ts) = ap₂ Types.Cons (ty_twice t) (tys_twice ts)

    argument_twice : (arg : Option Ty)
        → argument_admits home first next (option_map S arg) ≡ argument_admits home first next arg
    argument_twice None = refl
    argument_twice (Some t) = ap (admits (λ n. true)) (ty_twice t)

    cons_twice : (cons : List Con)
        → list_all (λ (con : Con). argument_admits home first next con.1) (settled_cons cons)
        ≡ list_all (λ (con : Con). argument_admits home first next con.1) cons
    cons_twice [] = refl
    cons_twice (con ∷ cons) = ap₂ (λ (a b : Bool). a && b) (argument_twice con.1) (cons_twice cons)

    respects_more : (other : List Bool) (dats : List Dat) → RespectsIn home first next other dats
        → RespectsIn home first next other (settled_dats dats)
    respects_more [] [] h = h
    respects_more [] (dat ∷ dats) h = h
    respects_more (eq ∷ other) [] h = h
    respects_more (eq ∷ other) (dat ∷ dats) h =
        ((λ e. cons_twice dat.cons ∙ h.0 e), respects_more other dats h.1)

    respects_less : (other : List Bool) (dats : List Dat) → RespectsIn home first next other (settled_dats dats)
        → RespectsIn home first next other dats
    respects_less [] [] h = h
    respects_less [] (dat ∷ dats) h = h
    respects_less (eq ∷ other) [] h = h
    respects_less (eq ∷ other) (dat ∷ dats) h =
        ((λ e. sym (cons_twice dat.cons) ∙ h.0 e), respects_less other dats h.1)

  -- ---- the choice

  pub as_many : (whole other : List Bool) (dats : List Dat) → RespectsIn home first whole other dats
      → length other ≡ length dats
  as_many whole [] [] k = refl
  as_many whole [] (dat ∷ dats) k = absurd k
  as_many whole (a ∷ other) [] k = absurd k
  as_many whole (a ∷ other) (dat ∷ dats) k = ap suc (as_many whole other dats k.1)

  maximal : (dats : List Dat) → MaximisesEquality home first dats choice
      → MaximisesEquality home first (settled_dats dats) choice
  maximal dats h =
      let many : length choice ≡ length dats = as_many choice choice dats h.respects in
      record {
        respects = respects_more choice refl choice dats h.respects;
        greatest = λ other k.
            let same : length other ≡ length choice =
            as_many other other (settled_dats dats) k ∙ length-map dats settled_dat ∙ sym many in
            h.greatest other (respects_less other same other dats k);
      }

  -- ---- what is made

  con_same : (of : Ty) (arg : Option Ty) → con_ty home first choice of (option_map S arg) ≡ con_ty home first choice of arg
  con_same of None = refl
  con_same of (Some arg) = ap (λ z. arrow_ty z of) (ty_twice choice refl arg)

  schemes_same : (own : List (List ℕ × ℕ)) (of : Ty) (cons : List Con)
      → con_schemes home first choice own of (settled_cons cons) ≡ con_schemes home first choice own of cons
  schemes_same own of [] = refl
  schemes_same own of (con ∷ cons) = ap₂ (λ ty rows. with_entry con.0
      (let σ : TypeScheme = record {
        marks = map (λ (row : List ℕ × ℕ). is_equality_variable row.0) own;
        body = closed_over (numbers own) ty;
      } in σ) rows)
      (con_same of con.1) (schemes_same own of cons)

  made_same : (number : ℕ) (dats : List Dat) (env : Env)
      → made_types home first choice number (settled_dats dats) env ≡ made_types home first choice number dats env
  made_same number [] env = refl
  made_same number (dat ∷ dats) env =
      let of : Ty = own_ty (own_name home number (length dat.variables) (get_or choice (number - first) false))
      (numbers dat.variables) in
      ap (λ rows. made_types home first choice (suc number) (settled_dats dats) (with_datatype dat.name
      (let str : TypeStr = record {
        function = type_function (numbers dat.variables) of;
        cons = con_entries rows;
      } in str) env)) (schemes_same dat.variables of dat.cons)
      ∙ made_same (suc number) dats
      (with_datatype dat.name (datatype_str home first choice dat.variables of dat.cons) env)

  -- whatever is put in, it stays
  made_stays : (s : Substitution) (number : ℕ) (dats : List Dat) (env : Env) → AllItems DatWithin dats
      → put_env s env ≡ env → put_env s (made_types home first choice number dats env)
      ≡ made_types home first choice number dats env
  made_stays s number [] env h e = e
  made_stays s number (dat ∷ dats) env h e =
      let name : TyName = own_name home number (length dat.variables) (get_or choice (number - first) false) in
      let of : Ty = own_ty name (numbers dat.variables) in
      let str : TypeStr = datatype_str home first choice dat.variables of dat.cons in
      let firm : FirmType str = (
        closed_firm (numbers dat.variables) of (own_within name (numbers dat.variables)),
        entries_firm (con_schemes home first choice dat.variables of dat.cons)
            (schemes_firm home first choice dat.variables of dat.cons (own_within name (numbers dat.variables)) h.0),
      ) in
      made_stays s (suc number) dats (with_datatype dat.name str env) h.1
      (sym (with_datatype_put s dat.name str env) ∙ ap₂ (with_datatype dat.name) (firm_type s str firm) e)

-- ---- the state

-- variables were made, and so many datatypes; no type name was
record DatsState (binds : List DatPhrase) (made : List Dat) (st : Progress) (r : List Dat × Progress) : Type 0 where
  many : length r.0 ≡ length made + length binds
  names : r.1.names ≡ st.names
  solved : SolvesBefore st r.1
  leaves : LeavesBefore st r.1

one_longer : (made : List Dat) (dat : Dat) → length (made ++ dat ∷ []) ≡ suc (length made)
one_longer [] dat = refl
one_longer (d ∷ made) dat = ap suc (one_longer made dat)

dats_state : (sc : Scope) (refused : List (List ℕ)) (binds : List DatPhrase) (made : List Dat) (st : Progress)
    → IsFit st.types → Given (DatsState binds made st) (infer_dats sc refused binds made st)
dats_state sc refused [] made st fit =
    record { many = omega arith; names = refl; solved = λ p q. q; leaves = λ p q. q }
dats_state sc refused (bind ∷ binds) made st fit =
    let Q : List Dat × Progress → Type 0 = DatsState (bind ∷ binds) made st in
    given_then (ListedOf bind.tyvars [] st) Q (listed sc bind.tyvars [] st) _ (listed_of sc bind.tyvars [] st fit)
    (λ own l.
    given_then (λ v. Unit {0}) Q
    (infer_cons (with_written_alone (as_written own.0) sc) refused bind.cons (cons_of made) []) _
    (any (infer_cons (with_written_alone (as_written own.0) sc) refused bind.cons (cons_of made) [])) (λ cons _.
    let dat : Dat = record { name = bind.name.text; variables = own.0; cons = cons } in
    given_more (DatsState binds (made ++ dat ∷ []) own.1) Q (infer_dats sc refused binds (made ++ dat ∷ []) own.1)
    (λ r h. record {
      many = let k : length (made ++ dat ∷ []) ≡ suc (length made) = one_longer made dat in
          let n : length r.0 ≡ length (made ++ dat ∷ []) + length binds = h.many in omega (arith, k, n);
      names = h.names ∙ l.made;
      solved = λ p q. l.solved p (h.solved p q);
      leaves = λ p q. l.leaves p (h.leaves p q);
    }) (dats_state sc refused binds (made ++ dat ∷ []) own.1 l.fit)))
  where
    any : {A : Type 0} (m : Answer A) → Given (λ x. Unit {0}) m
    any None = tt
    any (Some (Err d)) = tt
    any (Some (Ok x)) = tt

-- ---- the whole

-- whatever is put in, and whatever the choice
abbrev Index : ℕ → Type 0
Index many = Substitution × ((choice : List Bool) × (length choice ≡ many))

given_all : {I A : Type 0} (R : I → A → Type 0) (m : Answer A) → ((i : I) → Given (R i) m)
    → Given (λ x. (i : I) → R i x) m
given_all R None h = tt
given_all R (Some (Err d)) h = tt
given_all R (Some (Ok x)) h = λ i. h i

abbrev other_scope : (sc : Scope) (binds : List DatPhrase) (first : ℕ) → Index (length binds) → Scope
other_scope sc binds first i = under (types_by sc.home i.1.0 binds first empty_env) (put_scope i.0 sc)

pub datatypes_have_derivations : DatatypesHaveDerivations
datatypes_have_derivations = record {
  all = λ sc refused binds st firm old fit. whole sc refused binds st firm old fit;
}
  where
    whole : (sc : Scope) (refused : List (List ℕ)) (binds : List DatPhrase) (st : Progress) → FirmEnv sc.env
        → TypesBelow sc.home st.names sc.env → IsFit st.types
        → Given (DatatypesDerived sc refused binds st) (datatypes_of sc refused binds st)
    whole sc refused binds st firm old fit =
        let Q : Env × Progress → Type 0 = DatatypesDerived sc refused binds st in
        given_then (λ new. NewOf sc.home binds st.names empty_env new × FirmEnv new) Q
        (new_types sc binds st.names empty_env) _
        (given_both (NewOf sc.home binds st.names empty_env) FirmEnv (new_types sc binds st.names empty_env)
        (new_of sc binds st.names empty_env) (new_firm sc binds st.names empty_env firm_nothing)) (λ new n.
        let inner : Scope = under new sc in
        let Derives : Index (length binds) → List Dat × Progress → Type 0 =
        λ i. DatsDerived sc.home st.names i.1.0 (other_scope sc binds st.names i) refused binds [] in
        given_then (λ r. ((i : Index (length binds)) → Derives i r) × (DatsState binds [] st r × AllItems DatWithin r.0))
        Q (infer_dats inner refused binds [] st) _
        (given_both (λ r. (i : Index (length binds)) → Derives i r)
        (λ r. DatsState binds [] st r × AllItems DatWithin r.0) (infer_dats inner refused binds [] st)
        (given_all Derives (infer_dats inner refused binds [] st) (λ i.
        dats_derive sc.home st.names i.1.0 inner (other_scope sc binds st.names i) refused
        (λ own. subst (λ z. ShowsSettled sc.home st.names i.1.0 (with_written_alone (as_written own) (under z sc))
        (with_written_alone (as_written own) (other_scope sc binds st.names i))) (sym n.0.is)
        (list_settles sc.home st.names i.1.0 sc binds i.0 firm old i.1.1 own)) binds [] st fit))
        (given_both (DatsState binds [] st) (λ r. AllItems DatWithin r.0) (infer_dats inner refused binds [] st)
        (dats_state inner refused binds [] st fit)
        (dats_within inner refused binds [] st (firm_modified sc.env new firm n.1) tt))) (λ r h.
        let choice : List Bool = equality_choice sc.home st.names r.0 in
        let best : MaximisesEquality sc.home st.names r.0 choice = datatypes_maximise.all sc.home st.names r.0 in
        let many : length choice ≡ length binds =
        as_many sc.home st.names choice choice choice r.0 best.respects ∙ h.1.0.many
        ∙ (let z : 0 + length binds ≡ length binds = omega arith in z) in
        record {
          choice = choice;
          dats = settled_dats sc.home st.names choice r.0;
          distinct = n.0.distinct;
          counted = many;
          derives = λ s.
              let d : Derives (s, (choice, many)) r = h.0 (s, (choice, many)) in
              subst (λ z. ElaboratesDats (other_scope sc binds st.names (s, (choice, many))) refused binds []
              (settled_dats sc.home st.names choice z)) (sym d.is) d.derives;
          maximal = maximal sc.home st.names choice r.0 best;
          made = sym (made_same sc.home st.names choice st.names r.0 empty_env);
          names = ap (λ k. k + length binds) h.1.0.names;
          stays = λ s. made_stays sc.home st.names choice s st.names r.0 empty_env h.1.1 refl;
          solved = h.1.0.solved;
          leaves = h.1.0.leaves;
        }))
