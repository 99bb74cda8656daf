-- What datatypes, their replications and exceptions are made of.
use Rattle.std.proofs.Common.{◌≡◌, ℕ, zero, suc, ◌+◌, ◌-◌, ◌<◌, ◌≤◌, List, [], ◌∷◌, ◌++◌, length, map, refl, sym, ap, ◌∙◌, subst, arith, Option, Some, None, Bool, true, false, ◌||◌, ◌&&◌, cond, not, get_or}
use Rattle.std.specs.Prelude.{Ok, Err, eqb, ltb}
use Rattle.std.specs.Option.{is_some}
use Rattle.std.proofs.lemmas.Bool.{eq-eqb, lt-ltb, le-ltb}
use Rattle.std.proofs.lemmas.List.{length-map}
use Rattle.sml_trees.specs.declared.name.Name.{Name}
use Rattle.sml_trees.specs.declared.name.LongName.{LongName}
use Rattle.semantic_objects.specs.declared.name.TyName.{TyName}
use Rattle.semantic_objects.specs.declared.symbol.Symbol.{Symbol}
use Rattle.semantic_objects.specs.declared.symbol.Symbol.TheVariants as symbol
use Rattle.semantic_objects.specs.declared.entry.ConEntry.{ConEntry}
use Rattle.semantic_objects.specs.declared.entry.TypeStr.{TypeStr}
use Rattle.semantic_objects.specs.declared.entry.VidStatus.TheVariants as status
use Rattle.semantic_objects.specs.Symbols.{same_text}
use Rattle.semantic_objects.specs.Tables.{Table, entry}
use Rattle.semantic_objects.specs.Trees.{TypeScheme}
use Rattle.semantic_objects.specs.Environments.{Env, types, values, empty_env, with_type, with_value}
use Rattle.unification.specs.Types.{Ty, Types}
use Rattle.unification.specs.Closing.{closed_over}
use Rattle.unification.proofs.Walking.{and_both}
use Rattle.bare_phrases.specs.Phrases.{TyPhrase, ConPhrase, DatPhrase, ExBodyPhrase, ExPhrase}
use Rattle.static_semantics.specs.BasicTypes.{exn_ty, arrow_ty, is_one_of, is_equality_variable, reserved_constructors}
use Rattle.static_semantics.specs.Inferring.{Progress, Scope, Answer, under, with_written_alone, name_at, long_at, known, found_at, is_named, variable_entry}
use Rattle.static_semantics.specs.TypeInference.{infer_ty, listed, numbers, as_written}
use Rattle.static_semantics.specs.RuleConditions.{RespectsIn}
use Rattle.static_semantics.specs.DatatypeInference.{own_name, own_ty, counted, own_type, new_types, Con, Dat, infer_optional_ty, infer_cons, cons_of, infer_dats, same_as_home, settled_name, settled_symbol, settled, settled_all, equality_choice, con_ty, con_schemes, con_entries, with_cons, with_datatype, datatype_str, made_types, after_names, datatypes_of, infer_replication, is_exception, exception_of, infer_exceptions, exceptions_of}
use Rattle.static_semantics.specs.Holding.{Given, IfSome, AllItems, AllRows, ConHas, TypeHas, ValueHas}
use Rattle.static_semantics.proofs.Holding.{given_then, given_where, rows_with, rows_after, has_nothing, has_with_type, has_with_value, has_modified}
use Rattle.static_semantics.proofs.TypesGrow.{given_more}
use Rattle.static_semantics.proofs.Maximal.{datatypes_maximise}
use Rattle.inference_laws.specs.Nodes.{Nodes, count_types, TyOf, TysOf, SchemeOf, FunctionOf, EnvOf, Admits, ScopeOf, IsOf, NumberedFrom, MayStand, Makes, below_number, IsReadyFor, DecOf}
use Rattle.inference_laws.specs.Spelling.{OptionalSpelt, ConSpelt, DatSpelt, ExBodySpelt, ExSpelt}
use Rattle.inference_laws.proofs.Nodes.{ty_made, ty_arrow, tree_closed, closed_binds}
use Rattle.inference_laws.proofs.Both.{Join, env_both, rows_both}
use Rattle.inference_laws.proofs.Making.{given_all, given_both, ready_now}
use Rattle.inference_laws.proofs.TypesMade.{type_found, ty_of, IsListed, listed_of, state_same, list_scope, function_closed}
use Rattle.inference_laws.proofs.PatternsMade.{value_of}

-- ---- the names of the new types

-- the names with these arities, admitting equality by a choice, from a number on
abbrev pub names_by : List ℕ → ℕ → List Bool → ℕ → List ℕ → List TyName
names_by home first choice number [] = []
names_by home first choice number (arity ∷ arities) =
    own_name home number arity (get_or choice (number - first) false)
    ∷ names_by home first choice (suc number) arities

-- .. all admitting equality
abbrev pub names_at_first : List ℕ → ℕ → List ℕ → List TyName
names_at_first home number [] = []
names_at_first home number (arity ∷ arities) = own_name home number arity true ∷ names_at_first home (suc number)
    arities

numbered_by : (home : List ℕ) (first : ℕ) (choice : List Bool) (number : ℕ) (arities : List ℕ)
    → NumberedFrom home number (names_by home first choice number arities) (number + length arities)
numbered_by home first choice number [] = omega arith
numbered_by home first choice number (arity ∷ arities) = (
  refl,
  refl,
  subst (NumberedFrom home (suc number) (names_by home first choice (suc number) arities))
      (let k : suc number + length arities ≡ number + length (arity ∷ arities) = omega arith in k)
      (numbered_by home first choice (suc number) arities),
)

abbrev pub arities_of : List DatPhrase → List ℕ
arities_of binds = map (λ (bind : DatPhrase). length bind.tyvars) binds

abbrev pub dat_arities : List Dat → List ℕ
dat_arities dats = map (λ (dat : Dat). length dat.variables) dats

-- ---- nodes with the new names as a choice has them

abbrev settles : List ℕ → ℕ → List Bool → Nodes → Nodes
settles home first choice q c k = q (settled_symbol home first choice c) k

text_same : (text : List ℕ) → same_text text text ≡ true
text_same [] = refl
text_same (c ∷ text) = and_both (eqb c c) (same_text text text) (eq-eqb c c refl) (text_same text)

old_name : (same low high : Bool) (x y : TyName) → (not same || low) ≡ true → cond (same && (not low && high)) x y ≡ y
old_name true true high x y h = refl
old_name true false high x y h = absurd (cc)
old_name false low high x y h = refl

new_name : (same low high : Bool) (x y : TyName) → same ≡ true → low ≡ false → high ≡ true
    → cond (same && (not low && high)) x y ≡ x
new_name true false true x y h k l = refl
new_name true false false x y h k l = absurd (cc)
new_name true true high x y h k l = absurd (cc)
new_name false low high x y h k l = absurd (cc)

-- what was there has no new names
settled_old : (home : List ℕ) (first : ℕ) (choice : List Bool) (c : Symbol) (k : ℕ) → below_number home first c k ≡ true
    → settled_symbol home first choice c ≡ c
settled_old home first choice symbol.Arrow k h = refl
settled_old home first choice (symbol.Record labels) k h = refl
settled_old home first choice (symbol.Name name) k h = ap symbol.Name
    (old_name (same_as_home home name.owner) (ltb name.number first) (ltb name.number (first + length choice)) _ name h)

settles_old : (home : List ℕ) (first : ℕ) (choice : List Bool) (q : Nodes)
    → Join q (below_number home first) (settles home first choice q)
settles_old home first choice q c k h l =
    subst (λ z. q z k ≡ true) (sym (settled_old home first choice c k l)) h

settles_admits : (good : List ℕ → Bool) (home : List ℕ) (first : ℕ) (choice : List Bool) (q : Nodes) → Admits good q
    → Admits good (settles home first choice q)
settles_admits good home first choice q h = record {
  arrow = h.arrow;
  records = h.records;
  int = h.int;
  string = h.string;
  char = h.char;
  exn = h.exn;
}

settled_new : (home : List ℕ) (first : ℕ) (choice : List Bool) (number arity : ℕ) → first ≤ number
    → number < first + length choice
    → settled_name home first choice (own_name home number arity true)
    ≡ own_name home number arity (get_or choice (number - first) false)
settled_new home first choice number arity h k = new_name (same_text home home) (ltb number first)
    (ltb number (first + length choice)) _ _ (text_same home) (le-ltb number first h)
    (lt-ltb number (first + length choice) k)

-- the names at first may stand where the names by a choice may
stand_at_first : (q : Nodes) (home : List ℕ) (first : ℕ) (choice : List Bool) (number : ℕ) (arities : List ℕ)
    → first ≤ number → number + length arities ≤ first + length choice
    → AllItems (MayStand q) (names_by home first choice number arities)
    → AllItems (MayStand (settles home first choice q)) (names_at_first home number arities)
stand_at_first q home first choice number [] h k l = tt
stand_at_first q home first choice number (arity ∷ arities) h k l = (
  subst (λ z. q (symbol.Name z) arity ≡ true)
      (sym (settled_new home first choice number arity h
      (let m : number + suc (length arities) ≤ first + length choice = k in omega (arith, m)))) l.0,
  stand_at_first q home first choice (suc number) arities (omega (arith, h))
      (let m : number + suc (length arities) ≤ first + length choice = k in omega (arith, m)) l.1,
)

count_settled : (home : List ℕ) (first : ℕ) (choice : List Bool) (ts : Types)
    → count_types ts ≡ count_types (settled_all home first choice ts)
count_settled home first choice Types.Nil = refl
count_settled home first choice (Types.Cons t ts) = ap suc (count_settled home first choice ts)

mutual
  settled_of : (q : Nodes) (home : List ℕ) (first : ℕ) (choice : List Bool) (t : Ty)
      → TyOf (settles home first choice q) t → TyOf q (settled home first choice t)
  settled_of q home first choice (Ty.Var n) h = tt
  settled_of q home first choice (Ty.Made c ts) h = (
    subst (λ z. q (settled_symbol home first choice c) z ≡ true) (count_settled home first choice ts) h.0,
    settled_all_of q home first choice ts h.1,
  )

  settled_all_of : (q : Nodes) (home : List ℕ) (first : ℕ) (choice : List Bool) (ts : Types)
      → TysOf (settles home first choice q) ts → TysOf q (settled_all home first choice ts)
  settled_all_of q home first choice Types.Nil h = tt
  settled_all_of q home first choice (Types.Cons t ts) h =
      (settled_of q home first choice t h.0, settled_all_of q home first choice ts h.1)

-- ---- the new types

variables_of : (q : Nodes) (vs : List ℕ) → AllItems (TyOf q) (map Ty.Var vs)
variables_of q [] = tt
variables_of q (v ∷ vs) = (tt, variables_of q vs)

own_ty_of : (q : Nodes) (name : TyName) (vs : List ℕ) → MayStand q name → length vs ≡ name.arity
    → TyOf q (own_ty name vs)
own_ty_of q name vs h e = ty_made q (symbol.Name name) (map Ty.Var vs)
    (subst (λ z. q (symbol.Name name) z ≡ true) (sym (length-map vs Ty.Var ∙ e)) h) (variables_of q vs)

count_counted : (n first : ℕ) → length (counted n first) ≡ n
count_counted zero first = refl
count_counted (suc n) first = ap suc (count_counted n (suc first))

own_type_of : (q : Nodes) (name : TyName) → MayStand q name → TypeHas (SchemeOf q) (FunctionOf q) (own_type name)
own_type_of q name h = (
  function_closed q (counted name.arity 0) (own_ty name (counted name.arity 0))
      (own_ty_of q name (counted name.arity 0) h (count_counted name.arity 0)),
  tt,
)

new_of : (q : Nodes) (sc : Scope) (binds : List DatPhrase) (number : ℕ) (made : Env)
    → AllItems (MayStand q) (names_at_first sc.home number (arities_of binds)) → EnvOf q made
    → Given (EnvOf q) (new_types sc binds number made)
new_of q sc [] number made h k = k
new_of q sc (bind ∷ binds) number made h k =
    let name : TyName = own_name sc.home number (length bind.tyvars) true in
    given_where (EnvOf q) (is_some (entry bind.name.text (types made))) 40 sc (name_at bind.name) _
    (new_of q sc binds (suc number) (with_type bind.name.text (own_type name) made) h.1
    (has_with_type (SchemeOf q) (FunctionOf q) bind.name.text (own_type name) made (own_type_of q name h.0) k))

-- ---- constructors

abbrev pub ConsOf : Nodes → List Con → Type 0
ConsOf q cons = AllRows (IfSome (TyOf q)) cons

abbrev pub DatOf : Nodes → Dat → Type 0
DatOf q dat = ConsOf q dat.cons

optional_of : (good : List ℕ → Bool) (q : Nodes) (sc : Scope) (ty : Option TyPhrase) → OptionalSpelt good ty
    → ScopeOf good sc q → Given (IfSome (TyOf q)) (infer_optional_ty sc ty)
optional_of good q sc None p h = tt
optional_of good q sc (Some ty) p h = given_then (TyOf q) (IfSome (TyOf q)) (infer_ty sc ty) _ (ty_of good q sc ty p h)
    (λ t k. k)

infer_cons_of : (good : List ℕ → Bool) (q : Nodes) (sc : Scope) (refused : List (List ℕ)) (cons : List ConPhrase)
    (before made : List Con) → AllItems (ConSpelt good) cons → ScopeOf good sc q → ConsOf q made
    → Given (ConsOf q) (infer_cons sc refused cons before made)
infer_cons_of good q sc refused [] before made p h k = k
infer_cons_of good q sc refused (con ∷ cons) before made p h k =
    given_where (ConsOf q) (is_one_of refused con.name.text) 34 sc (name_at con.name) _
    (given_where (ConsOf q) (is_named con.name.text (before ++ made)) 40 sc (name_at con.name) _
    (given_then (IfSome (TyOf q)) (ConsOf q) (infer_optional_ty sc con.arg) _ (optional_of good q sc con.arg p.0.1 h)
    (λ arg l. infer_cons_of good q sc refused cons before (made ++ (con.name.text, arg) ∷ []) p.1 h
    (rows_after (IfSome (TyOf q)) made ((con.name.text, arg) ∷ []) k (l, tt)))))

pub items_after : {A : Type 0} (R : A → Type 0) (first second : List A) → AllItems R first → AllItems R second
    → AllItems R (first ++ second)
items_after R [] second h k = k
items_after R (x ∷ xs) second h k = (h.0, items_after R xs second h.1 k)

dats_of : (good : List ℕ → Bool) (q : Nodes) (sc : Scope) (refused : List (List ℕ)) (binds : List DatPhrase)
    (made : List Dat) (st : Progress) → AllItems (DatSpelt good) binds → ScopeOf good sc q → AllItems (DatOf q) made
    → Given (λ r. AllItems (DatOf q) r.0) (infer_dats sc refused binds made st)
dats_of good q sc refused [] made st p h k = k
dats_of good q sc refused (bind ∷ binds) made st p h k =
    given_then (IsListed 0 (length bind.tyvars) st) (λ r. AllItems (DatOf q) r.0) (listed sc bind.tyvars [] st) _
    (listed_of sc bind.tyvars [] st) (λ r l.
    given_then (ConsOf q) (λ r. AllItems (DatOf q) r.0)
    (infer_cons (with_written_alone (as_written r.0) sc) refused bind.cons (cons_of made) []) _
    (infer_cons_of good q (with_written_alone (as_written r.0) sc) refused bind.cons (cons_of made) [] p.0.1
    (list_scope good q sc r.0 h) tt) (λ cons m.
    let dat : Dat = record { name = bind.name.text; variables = r.0; cons = cons } in
    dats_of good q sc refused binds (made ++ dat ∷ []) r.1 p.1 h
    (items_after (DatOf q) made (dat ∷ []) k (m, tt))))

-- nothing is put in, no name is made, and the lists are as long as those that were written
pub record AreDats (before wanted : List ℕ) (st : Progress) (r : List Dat × Progress) : Type 0 where
  pub stands : r.1.types.stands ≡ st.types.stands
  pub names : r.1.names ≡ st.names
  pub arities : dat_arities r.0 ≡ before ++ wanted

one_arity : (made : List Dat) (dat : Dat) (n : ℕ) (ns : List ℕ) → length dat.variables ≡ n
    → dat_arities (made ++ dat ∷ []) ++ ns ≡ dat_arities made ++ n ∷ ns
one_arity [] dat n ns e = ap (λ z. z ∷ ns) e
one_arity (other ∷ made) dat n ns e = ap (λ z. length other.variables ∷ z) (one_arity made dat n ns e)

nothing_after : (xs : List ℕ) → xs ≡ xs ++ []
nothing_after [] = refl
nothing_after (x ∷ xs) = ap (λ z. x ∷ z) (nothing_after xs)

given_any : {A : Type 0} (m : Answer A) → Given (λ x. Unit {0}) m
given_any None = tt
given_any (Some (Err d)) = tt
given_any (Some (Ok x)) = tt

are_dats : (sc : Scope) (refused : List (List ℕ)) (binds : List DatPhrase) (made : List Dat) (st : Progress)
    → Given (AreDats (dat_arities made) (arities_of binds) st) (infer_dats sc refused binds made st)
are_dats sc refused [] made st = record { stands = refl; names = refl; arities = nothing_after (dat_arities made) }
are_dats sc refused (bind ∷ binds) made st =
    let Whole : List Dat × Progress → Type 0 = AreDats (dat_arities made) (arities_of (bind ∷ binds)) st in
    given_then (IsListed 0 (length bind.tyvars) st) Whole (listed sc bind.tyvars [] st) _
    (listed_of sc bind.tyvars [] st) (λ r l.
    given_then (λ cons. Unit {0}) Whole
    (infer_cons (with_written_alone (as_written r.0) sc) refused bind.cons (cons_of made) []) _
    (given_any (infer_cons (with_written_alone (as_written r.0) sc) refused bind.cons (cons_of made) [])) (λ cons m.
    let dat : Dat = record { name = bind.name.text; variables = r.0; cons = cons } in
    given_more (AreDats (dat_arities (made ++ dat ∷ [])) (arities_of binds) r.1) Whole
    (infer_dats sc refused binds (made ++ dat ∷ []) r.1)
    (λ v h. record {
      stands = h.stands ∙ l.stands;
      names = h.names ∙ l.names;
      arities = h.arities ∙ one_arity made dat (length bind.tyvars) (arities_of binds)
          (let k : length r.0 ≡ 0 + length bind.tyvars = l.length in omega (arith, k));
    })
    (are_dats sc refused binds (made ++ dat ∷ []) r.1)))

-- ---- what is made of them

con_ty_of : (good : List ℕ → Bool) (q : Nodes) (home : List ℕ) (first : ℕ) (choice : List Bool) (of : Ty)
    (arg : Option Ty) → Admits good q → TyOf q of → IfSome (TyOf (settles home first choice q)) arg
    → TyOf q (con_ty home first choice of arg)
con_ty_of good q home first choice of None a h k = h
con_ty_of good q home first choice of (Some arg) a h k = ty_arrow good q (settled home first choice arg) of a
    (settled_of q home first choice arg k) h

con_scheme_of : (q : Nodes) (own : List (List ℕ × ℕ)) (t : Ty) → TyOf q t → SchemeOf q (record {
  marks = map (λ row. is_equality_variable row.0) own;
  body = closed_over (numbers own) t;
})
con_scheme_of q own t h = record {
  closed = λ i e. (let l : i < length (numbers own) = closed_binds (numbers own) t i e in
      let k : length (numbers own) ≡ length own = length-map own (λ row. row.1) in
      let j : length (map (λ (row : List ℕ × ℕ). is_equality_variable row.0) own) ≡ length own =
      length-map own (λ row. is_equality_variable row.0) in
      omega (arith, l, k, j));
  body = tree_closed q (numbers own) t h;
}

con_schemes_of : (good : List ℕ → Bool) (q : Nodes) (home : List ℕ) (first : ℕ) (choice : List Bool)
    (own : List (List ℕ × ℕ)) (of : Ty) (cons : List Con) → Admits good q → TyOf q of
    → ConsOf (settles home first choice q) cons → AllRows (SchemeOf q) (con_schemes home first choice own of cons)
con_schemes_of good q home first choice own of [] a h k = tt
con_schemes_of good q home first choice own of (con ∷ cons) a h k = rows_with (SchemeOf q) con.0 _
    (con_schemes home first choice own of cons)
    (con_scheme_of q own (con_ty home first choice of con.1) (con_ty_of good q home first choice of con.1 a h k.0))
    (con_schemes_of good q home first choice own of cons a h k.1)

entries_of : (S : TypeScheme → Type 0) (rows : Table TypeScheme) → AllRows S rows
    → AllItems (ConHas S) (con_entries rows)
entries_of S [] h = tt
entries_of S (row ∷ rows) h = (h.0, entries_of S rows h.1)

with_cons_of : (q : Nodes) (cons : List ConEntry) (env : Env) → AllItems (ConHas (SchemeOf q)) cons → EnvOf q env
    → EnvOf q (with_cons cons env)
with_cons_of q [] env h k = k
with_cons_of q (con ∷ cons) env h k = with_cons_of q cons
    (with_value con.name (record { status = status.Constructor; scheme = con.scheme }) env) h.1
    (has_with_value (SchemeOf q) (FunctionOf q) con.name
    (record { status = status.Constructor; scheme = con.scheme }) env h.0 k)

with_datatype_of : (q : Nodes) (name : List ℕ) (str : TypeStr) (env : Env)
    → TypeHas (SchemeOf q) (FunctionOf q) str → EnvOf q env → EnvOf q (with_datatype name str env)
with_datatype_of q name str env h k = with_cons_of q str.cons (with_type name str env) h.1
    (has_with_type (SchemeOf q) (FunctionOf q) name str env h k)

made_types_of : (good : List ℕ → Bool) (q : Nodes) (home : List ℕ) (first : ℕ) (choice : List Bool) (number : ℕ)
    (dats : List Dat) (env : Env) → Admits good q
    → AllItems (MayStand q) (names_by home first choice number (dat_arities dats))
    → AllItems (DatOf (settles home first choice q)) dats → EnvOf q env
    → EnvOf q (made_types home first choice number dats env)
made_types_of good q home first choice number [] env a n h k = k
made_types_of good q home first choice number (dat ∷ dats) env a n h k =
    let name : TyName = own_name home number (length dat.variables) (get_or choice (number - first) false) in
    let of : Ty = own_ty name (numbers dat.variables) in
    let l : TyOf q of = own_ty_of q name (numbers dat.variables) n.0 (length-map dat.variables (λ row. row.1)) in
    let str : TypeStr = datatype_str home first choice dat.variables of dat.cons in
    made_types_of good q home first choice (suc number) dats (with_datatype dat.name str env) a n.1 h.1
    (with_datatype_of q dat.name str env (
      function_closed q (numbers dat.variables) of l,
      entries_of (SchemeOf q) (con_schemes home first choice dat.variables of dat.cons)
          (con_schemes_of good q home first choice dat.variables of dat.cons a l h.0),
    ) k)

-- a choice says it of each datatype
respects_length : (home : List ℕ) (first : ℕ) (whole other : List Bool) (dats : List Dat)
    → RespectsIn home first whole other dats → length other ≡ length dats
respects_length home first whole [] [] k = refl
respects_length home first whole [] (dat ∷ dats) k = absurd k
respects_length home first whole (a ∷ other) [] k = absurd k
respects_length home first whole (a ∷ other) (dat ∷ dats) k = ap suc (respects_length home first whole other dats k.1)

choice_length : (home : List ℕ) (first : ℕ) (dats : List Dat) → length (equality_choice home first dats) ≡ length dats
choice_length home first dats = respects_length home first (equality_choice home first dats)
    (equality_choice home first dats) dats (datatypes_maximise.all home first dats).respects

-- the scope in which constructors are inferred
abbrev NewIn : (List ℕ → Bool) → Scope → List DatPhrase → ℕ → Nodes → Type 0
NewIn good sc binds first q =
    ScopeOf good sc q × AllItems (MayStand q) (names_at_first sc.home first (arities_of binds))

pub under_of : (good : List ℕ → Bool) (q : Nodes) (made : Env) (sc : Scope) → EnvOf q made → ScopeOf good sc q
    → ScopeOf good (under made sc) q
under_of good q made sc h k = record {
  admits = k.admits;
  env = has_modified (SchemeOf q) (FunctionOf q) sc.env made k.env h;
  written = k.written;
}

-- of datatypes whose constructors were inferred
datatypes_end : (good : List ℕ → Bool) (sc : Scope) (binds : List DatPhrase) (st : Progress) (r : List Dat × Progress)
    → IsReadyFor sc.home (IsOf good sc st) st.names → AreDats [] (arities_of binds) st r
    → ((q : Nodes) → NewIn good sc binds st.names q → AllItems (DatOf q) r.0)
    → Makes sc.home (IsOf good sc st) st (after_names (length binds) r.1) (λ q.
    DecOf (
      made_types sc.home st.names (equality_choice sc.home st.names r.0) st.names r.0 empty_env,
      after_names (length binds) r.1,
    ) q)
datatypes_end good sc binds st r h d f =
    let choice : List Bool = equality_choice sc.home st.names r.0 in
    let wanted : List ℕ = arities_of binds in
    let many : length wanted ≡ length binds = length-map binds (λ (bind : DatPhrase). length bind.tyvars) in
    let long : length choice ≡ length r.0 = choice_length sc.home st.names r.0 in
    let dats : length (dat_arities r.0) ≡ length r.0 = length-map r.0 (λ (dat : Dat). length dat.variables) in
    let same : length (dat_arities r.0) ≡ length wanted = ap length d.arities in
    let old : IsOf good sc st (below_number sc.home st.names) = ready_now sc.home (IsOf good sc st) st.names h in
    record {
      names = names_by sc.home st.names choice st.names wanted;
      numbered = subst (NumberedFrom sc.home st.names (names_by sc.home st.names choice st.names wanted))
          (let k : r.1.names ≡ st.names = d.names in
          let l : st.names + length wanted ≡ r.1.names + length binds = omega (arith, k, many) in l)
          (numbered_by sc.home st.names choice st.names wanted);
      holds = λ q p n.
          let t : Nodes = settles sc.home st.names choice q in
          let join : Join q (below_number sc.home st.names) t = settles_old sc.home st.names choice q in (
            state_same q r.1.types st.types.stands d.stands p.state,
            made_types_of good q sc.home st.names choice st.names r.0 empty_env p.scope.admits
                (subst (λ z. AllItems (MayStand q) (names_by sc.home st.names choice st.names z)) (sym d.arities) n)
                (f t (
                  record {
                    admits = settles_admits good sc.home st.names choice q p.scope.admits;
                    env = env_both q (below_number sc.home st.names) t join sc.env p.scope.env old.scope.env;
                    written = rows_both q (below_number sc.home st.names) t join sc.written p.scope.written
                        old.scope.written;
                  },
                  stand_at_first q sc.home st.names choice st.names wanted (omega arith)
                      (omega (arith, long, dats, same)) n,
                ))
                (has_nothing (SchemeOf q) (FunctionOf q)),
          );
    }

pub datatypes_made : (good : List ℕ → Bool) (sc : Scope) (refused : List (List ℕ)) (binds : List DatPhrase)
    (st : Progress) → AllItems (DatSpelt good) binds → IsReadyFor sc.home (IsOf good sc st) st.names
    → Given (λ r. Makes sc.home (IsOf good sc st) st r.1 (DecOf r)) (datatypes_of sc refused binds st)
datatypes_made good sc refused binds st p h =
    let Whole : Env × Progress → Type 0 = λ r. Makes sc.home (IsOf good sc st) st r.1 (DecOf r) in
    given_then (λ new. (q : Nodes) → NewIn good sc binds st.names q → EnvOf q new) Whole
    (new_types sc binds st.names empty_env) _
    (given_all (NewIn good sc binds st.names) EnvOf (new_types sc binds st.names empty_env)
    (λ q i. new_of q sc binds st.names empty_env i.1 (has_nothing (SchemeOf q) (FunctionOf q)))) (λ new k.
    given_then (λ r. AreDats [] (arities_of binds) st r
    × ((q : Nodes) → NewIn good sc binds st.names q → AllItems (DatOf q) r.0)) Whole
    (infer_dats (under new sc) refused binds [] st) _
    (given_both (AreDats [] (arities_of binds) st)
    (λ r. (q : Nodes) → NewIn good sc binds st.names q → AllItems (DatOf q) r.0)
    (infer_dats (under new sc) refused binds [] st)
    (are_dats (under new sc) refused binds [] st)
    (given_all (NewIn good sc binds st.names) (λ q r. AllItems (DatOf q) r.0)
    (infer_dats (under new sc) refused binds [] st)
    (λ q i. dats_of good q (under new sc) refused binds [] st p (under_of good q new sc (k q i) i.0) tt)))
    (λ r l. datatypes_end good sc binds st r h l.0 l.1))

-- ---- replication and exceptions

pub replication_of : (good : List ℕ → Bool) (q : Nodes) (sc : Scope) (name : Name) (long : LongName)
    → ScopeOf good sc q → Given (EnvOf q) (infer_replication sc name long)
replication_of good q sc name long h =
    given_then (TypeHas (SchemeOf q) (FunctionOf q)) (EnvOf q) (known sc long (found_at types long.parts sc.env)) _
    (type_found good q sc long h)
    (λ str k. with_datatype_of q name.text str empty_env k (has_nothing (SchemeOf q) (FunctionOf q)))

pub variable_of : (q : Nodes) (t : Ty) → TyOf q t → SchemeOf q (variable_entry t).scheme
variable_of q t h = record { closed = closed_binds [] t; body = tree_closed q [] t h }

pub exn_of : (good : List ℕ → Bool) (q : Nodes) → Admits good q → TyOf q exn_ty
exn_of good q h = (h.exn, tt)

exception_made : (good : List ℕ → Bool) (q : Nodes) (sc : Scope) (body : ExBodyPhrase) → ExBodySpelt good body
    → ScopeOf good sc q → Given (ValueHas (SchemeOf q)) (exception_of sc body)
exception_made good q sc ExBodyPhrase.Plain p h = variable_of q exn_ty (exn_of good q h.admits)
exception_made good q sc (ExBodyPhrase.Of ty) p h =
    given_then (TyOf q) (ValueHas (SchemeOf q)) (infer_ty sc ty) _ (ty_of good q sc ty p h)
    (λ t k. variable_of q (arrow_ty t exn_ty) (ty_arrow good q t exn_ty h.admits k (exn_of good q h.admits)))
exception_made good q sc (ExBodyPhrase.Copy long) p h =
    given_then (ValueHas (SchemeOf q)) (ValueHas (SchemeOf q)) (known sc long (found_at values long.parts sc.env)) _
    (value_of good q sc long h) (λ value k.
    given_where (ValueHas (SchemeOf q)) (not (is_exception value.status)) 34 sc (long_at long) _ k)

exceptions_in : (good : List ℕ → Bool) (q : Nodes) (sc : Scope) (binds : List ExPhrase) (made : Env)
    → AllItems (ExSpelt good) binds → ScopeOf good sc q → EnvOf q made
    → Given (EnvOf q) (infer_exceptions sc binds made)
exceptions_in good q sc [] made p h k = k
exceptions_in good q sc (bind ∷ binds) made p h k =
    given_where (EnvOf q) (is_one_of reserved_constructors bind.name.text) 34 sc (name_at bind.name) _
    (given_where (EnvOf q) (is_some (entry bind.name.text (values made))) 40 sc (name_at bind.name) _
    (given_then (ValueHas (SchemeOf q)) (EnvOf q) (exception_of sc bind.body) _
    (exception_made good q sc bind.body p.0.1 h)
    (λ value l. exceptions_in good q sc binds (with_value bind.name.text value made) p.1 h
    (has_with_value (SchemeOf q) (FunctionOf q) bind.name.text value made l k))))

pub exceptions_made : (good : List ℕ → Bool) (q : Nodes) (sc : Scope) (binds : List ExPhrase)
    → AllItems (ExSpelt good) binds → ScopeOf good sc q → Given (EnvOf q) (exceptions_of sc binds)
exceptions_made good q sc binds p h = exceptions_in good q sc binds empty_env p h
    (has_nothing (SchemeOf q) (FunctionOf q))
