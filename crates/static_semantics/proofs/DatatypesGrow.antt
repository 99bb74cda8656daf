-- Datatypes, replication and exceptions: states grow, and environments stay among such variables.
use Rattle.std.proofs.Common.{◌≡◌, ℕ, suc, ◌-◌, ◌<◌, ◌≤◌, List, [], ◌∷◌, ◌++◌, length, map, refl, sym, ap, ◌∙◌, subst, arith, Option, Some, None, Bool, true, false, ◌||◌, cond, not, get_or}
use Rattle.std.specs.Prelude.{eqb}
use Rattle.std.specs.Option.{is_some}
use Rattle.std.proofs.lemmas.List.{length-map}
use Rattle.sml_trees.specs.declared.name.Name.{Name}
use Rattle.sml_trees.specs.declared.name.LongName.{LongName}
use Rattle.semantic_objects.specs.declared.name.TyName.{TyName}
use Rattle.semantic_objects.specs.declared.symbol.Symbol.TheVariants as symbol
use Rattle.semantic_objects.specs.declared.entry.ConEntry.{ConEntry}
use Rattle.semantic_objects.specs.declared.entry.TypeFn.{TypeFn}
use Rattle.semantic_objects.specs.declared.entry.TypeStr.{TypeStr}
use Rattle.semantic_objects.specs.declared.entry.VidStatus.TheVariants as status
use Rattle.semantic_objects.specs.Tables.{Table, entry}
use Rattle.semantic_objects.specs.Trees.{TypeScheme}
use Rattle.semantic_objects.specs.Environments.{Env, types, values, empty_env, with_type, with_value}
use Rattle.unification.specs.Types.{Ty, Types, Substitution, State, put, put_all, occurs, occurs_any}
use Rattle.unification.specs.Touching.{IsWithin, AreWithin}
use Rattle.unification.specs.Closing.{is_among, closed_over, filler}
use Rattle.unification.specs.Fitting.{Below, IsBelow}
use Rattle.unification.proofs.Putting.{or_either, or_left, or_right, put-put, put_free}
use Rattle.unification.proofs.Untouched.{within_put}
use Rattle.unification.proofs.Filling.{fill_closed}
use Rattle.unification.proofs.Closing.{closed_fits}
use Rattle.bare_phrases.specs.Phrases.{TyPhrase, ConPhrase, DatPhrase, ExBodyPhrase, ExPhrase}
use Rattle.static_semantics.specs.BasicTypes.{unit_ty, exn_ty, arrow_ty, types_of, is_one_of, is_equality_variable, reserved_constructors}
use Rattle.static_semantics.specs.Inferring.{Progress, Scope, under, with_written_alone, name_at, long_at, known, found_at, is_named, variable_entry, seen}
use Rattle.static_semantics.specs.TypeInference.{infer_ty, listed, numbers, as_written}
use Rattle.static_semantics.specs.DatatypeInference.{own_name, own_ty, counted, own_type, new_types, Con, Dat, infer_optional_ty, infer_cons, cons_of, infer_dats, settled, settled_all, equality_choice, con_ty, con_schemes, con_entries, with_cons, with_datatype, datatype_str, made_types, after_names, datatypes_of, infer_replication, is_exception, exception_of, infer_exceptions, exceptions_of}
use Rattle.static_semantics.specs.Holding.{Given, IfSome, AllItems, AllRows, ConHas, TypeHas, ValueHas, EnvHas}
use Rattle.static_semantics.specs.Growing.{TyIn, SchemeIn, FunctionIn, EnvIn, ScopeIn, Grows, IsReady}
use Rattle.static_semantics.proofs.Holding.{given_then, given_where, given_known, rows_with, rows_more, rows_after, items_more, has_types, has_nothing, has_with_type, has_with_value, has_modified, has_found}
use Rattle.static_semantics.proofs.Growing.{grows_same, grows_then, ty_later, ready_later, ty_made, ty_arrow, ty_constant, ty_closed}
use Rattle.static_semantics.proofs.TypesGrow.{given_more, ty_grows, NumberIn, ListedIn, MadeIn, numbers_later, listed_grows, list_scope}
use Rattle.static_semantics.proofs.PatternsGrow.{value_in}

-- ---- the new types

-- a type all of whose variables are closed over has none left
put_choice : (s : Substitution) (c : Bool) (t u : Ty) → put s (cond c t u) ≡ cond c (put s t) (put s u)
put_choice s true t u = refl
put_choice s false t u = refl

unit_within : (Q : ℕ → Type 0) → IsWithin Q unit_ty
unit_within Q n e = absurd (cc)

ty_all_closed : (P : ℕ → Type 0) (s : State) (vs : List ℕ) (t : Ty) → ((m : ℕ) → occurs m t ≡ true
    → is_among m vs ≡ true)
    → TyIn P s (seen Ty.Var (closed_over vs t))
ty_all_closed P s vs t h =
    let f : Substitution = filler vs (λ i. unit_ty) Ty.Var in
    record {
      below = subst (IsBelow s.next) (sym (fill_closed (λ i. unit_ty) Ty.Var vs t))
          (within_put (Below s.next) f t (λ m e. subst (λ c. IsWithin (Below s.next) (cond c unit_ty (Ty.Var m)))
          (sym (h m e)) (unit_within (Below s.next))));
      within = subst (λ z. IsWithin P (put s.stands z)) (sym (fill_closed (λ i. unit_ty) Ty.Var vs t))
          (subst (IsWithin P) (sym (put-put s.stands f t))
          (within_put P (λ n. put s.stands (f n)) t (λ m e. subst (IsWithin P)
          (sym (put_choice s.stands (is_among m vs) unit_ty (Ty.Var m)))
          (subst (λ c. IsWithin P (cond c unit_ty (s.stands m))) (sym (h m e)) (unit_within P)))));
    }

variables_among : (m : ℕ) (vs : List ℕ) → occurs_any m (types_of (map Ty.Var vs)) ≡ is_among m vs
variables_among m [] = refl
variables_among m (v ∷ vs) = ap (λ z. eqb m v || z) (variables_among m vs)

own_type_in : (P : ℕ → Type 0) (s : State) (name : TyName) → TypeHas (SchemeIn P s) (FunctionIn P s) (own_type name)
own_type_in P s name = (
  ty_all_closed P s (counted name.arity 0) (own_ty name (counted name.arity 0))
      (λ m e. sym (variables_among m (counted name.arity 0)) ∙ e),
  tt,
)

new_grow : (P : ℕ → Type 0) (s : State) (sc : Scope) (binds : List DatPhrase) (number : ℕ) (made : Env) → EnvIn P s made
    → Given (EnvIn P s) (new_types sc binds number made)
new_grow P s sc [] number made h = h
new_grow P s sc (bind ∷ binds) number made h =
    let name : TyName = own_name sc.home number (length bind.tyvars) true in
    given_where (EnvIn P s) (is_some (entry bind.name.text (types made))) 40 sc (name_at bind.name) _
    (new_grow P s sc binds (suc number) (with_type bind.name.text (own_type name) made)
    (has_with_type (SchemeIn P s) (FunctionIn P s) bind.name.text (own_type name) made (own_type_in P s name) h))

-- ---- constructors

abbrev pub ConsIn : (ℕ → Type 0) → State → List Con → Type 0
ConsIn P s cons = AllRows (IfSome (TyIn P s)) cons

optional_grows : (P : ℕ → Type 0) (s : State) (sc : Scope) (ty : Option TyPhrase) → ScopeIn P s sc
    → Given (IfSome (TyIn P s)) (infer_optional_ty sc ty)
optional_grows P s sc None h = tt
optional_grows P s sc (Some ty) h = given_then (TyIn P s) (IfSome (TyIn P s)) (infer_ty sc ty) _ (ty_grows P s sc ty h)
    (λ t k. k)

cons_grow : (P : ℕ → Type 0) (s : State) (sc : Scope) (refused : List (List ℕ)) (cons : List ConPhrase)
    (before made : List Con) → ScopeIn P s sc → ConsIn P s made
    → Given (ConsIn P s) (infer_cons sc refused cons before made)
cons_grow P s sc refused [] before made h k = k
cons_grow P s sc refused (con ∷ cons) before made h k =
    given_where (ConsIn P s) (is_one_of refused con.name.text) 34 sc (name_at con.name) _
    (given_where (ConsIn P s) (is_named con.name.text (before ++ made)) 40 sc (name_at con.name) _
    (given_then (IfSome (TyIn P s)) (ConsIn P s) (infer_optional_ty sc con.arg) _ (optional_grows P s sc con.arg h)
    (λ arg l. cons_grow P s sc refused cons before (made ++ (con.name.text, arg) ∷ []) h
    (rows_after (IfSome (TyIn P s)) made ((con.name.text, arg) ∷ []) k (l, tt)))))

pub record DatIn (P : ℕ → Type 0) (s : State) (dat : Dat) : Type 0 where
  pub variables : AllRows (NumberIn P s) dat.variables
  pub cons : ConsIn P s dat.cons

abbrev pub DatsIn : (ℕ → Type 0) → Progress → List Dat × Progress → Type 0
DatsIn P st r = Grows P st r.1 × AllItems (DatIn P r.1.types) r.0

optional_later : (P : ℕ → Type 0) (st u : Progress) → Grows P st u → (o : Option Ty) → IfSome (TyIn P st.types) o
    → IfSome (TyIn P u.types) o
optional_later P st u g None h = tt
optional_later P st u g (Some t) h = ty_later P st u t g h

dat_later : (P : ℕ → Type 0) (st u : Progress) → Grows P st u → (dat : Dat) → DatIn P st.types dat → DatIn P u.types dat
dat_later P st u g dat h = record {
  variables = numbers_later P st u dat.variables g h.variables;
  cons = rows_more (IfSome (TyIn P st.types)) (IfSome (TyIn P u.types)) dat.cons (optional_later P st u g) h.cons;
}

items_after : {A : Type 0} (R : A → Type 0) (first second : List A) → AllItems R first → AllItems R second
    → AllItems R (first ++ second)
items_after R [] second h k = k
items_after R (x ∷ xs) second h k = (h.0, items_after R xs second h.1 k)

dats_grow : (P : ℕ → Type 0) (sc : Scope) (refused : List (List ℕ)) (binds : List DatPhrase) (made : List Dat)
    (st : Progress) → IsReady P sc st → AllItems (DatIn P st.types) made
    → Given (DatsIn P st) (infer_dats sc refused binds made st)
dats_grow P sc refused [] made st h k = (grows_same P st h.fit, k)
dats_grow P sc refused (bind ∷ binds) made st h k =
    given_then (ListedIn P st) (DatsIn P st) (listed sc bind.tyvars [] st) _
    (listed_grows P sc bind.tyvars [] st h.fit h.new tt) (λ r l.
    given_then (ConsIn P r.1.types) (DatsIn P st)
    (infer_cons (with_written_alone (as_written r.0) sc) refused bind.cons (cons_of made) []) _
    (cons_grow P r.1.types (with_written_alone (as_written r.0) sc) refused bind.cons (cons_of made) []
    (list_scope P sc st r h.scope l) tt) (λ cons m.
    let dat : Dat = record { name = bind.name.text; variables = r.0; cons = cons } in
    given_more (DatsIn P r.1) (DatsIn P st) (infer_dats sc refused binds (made ++ dat ∷ []) r.1)
    (λ q i. (grows_then P st r.1 q.1 l.0 i.0, i.1))
    (dats_grow P sc refused binds (made ++ dat ∷ []) r.1 (ready_later P sc st r.1 h l.0)
    (items_after (DatIn P r.1.types) made (dat ∷ [])
    (items_more (DatIn P st.types) (DatIn P r.1.types) made (dat_later P st r.1 l.0) k)
    (record { variables = l.1; cons = m }, tt)))))

-- ---- what is made of them

mutual
  settled_within : (Q : ℕ → Type 0) (f : Substitution) (home : List ℕ) (first : ℕ) (choice : List Bool) (t : Ty)
      → IsWithin Q (put f t) → IsWithin Q (put f (settled home first choice t))
  settled_within Q f home first choice (Ty.Var n) h = h
  settled_within Q f home first choice (Ty.Made c ts) h = settled_all_within Q f home first choice ts h

  settled_all_within : (Q : ℕ → Type 0) (f : Substitution) (home : List ℕ) (first : ℕ) (choice : List Bool) (ts : Types)
      → AreWithin Q (put_all f ts) → AreWithin Q (put_all f (settled_all home first choice ts))
  settled_all_within Q f home first choice Types.Nil h = h
  settled_all_within Q f home first choice (Types.Cons t ts) h = λ n e. or_either _ _ e
      (settled_within Q f home first choice t (λ m i. h m (or_left _ _ i)) n)
      (settled_all_within Q f home first choice ts (λ m i. h m (or_right _ _ i)) n)

settled_in : (P : ℕ → Type 0) (s : State) (home : List ℕ) (first : ℕ) (choice : List Bool) (t : Ty) → TyIn P s t
    → TyIn P s (settled home first choice t)
settled_in P s home first choice t h = record {
  below = subst (IsBelow s.next) (put_free (settled home first choice t))
      (settled_within (Below s.next) Ty.Var home first choice t (subst (IsBelow s.next) (sym (put_free t)) h.below));
  within = settled_within P s.stands home first choice t h.within;
}

con_ty_in : (P : ℕ → Type 0) (s : State) (home : List ℕ) (first : ℕ) (choice : List Bool) (of : Ty) (arg : Option Ty)
    → TyIn P s of → IfSome (TyIn P s) arg → TyIn P s (con_ty home first choice of arg)
con_ty_in P s home first choice of None h k = h
con_ty_in P s home first choice of (Some arg) h k = ty_arrow P s (settled home first choice arg) of
    (settled_in P s home first choice arg k) h

-- closed over all variables of a list
con_scheme_in : (P : ℕ → Type 0) (s : State) (own : List (List ℕ × ℕ)) (t : Ty) → TyIn P s t → SchemeIn P s (record {
  marks = map (λ row. is_equality_variable row.0) own;
  body = closed_over (numbers own) t;
})
con_scheme_in P s own t h = record {
  closed = λ i e. (let l : i < length (map s.marks (numbers own)) =
      (closed_fits s (numbers own) s.marks t h.below).closed i e in
      let m : length (map s.marks (numbers own)) ≡ length (numbers own) = length-map (numbers own) s.marks in
      let k : length (numbers own) ≡ length own = length-map own (λ row. row.1) in
      let j : length (map (λ (row : List ℕ × ℕ). is_equality_variable row.0) own) ≡ length own =
      length-map own (λ row. is_equality_variable row.0) in
      omega (arith, l, m, k, j));
  body = ty_closed P s (numbers own) t h;
}

con_schemes_in : (P : ℕ → Type 0) (s : State) (home : List ℕ) (first : ℕ) (choice : List Bool) (own : List (List ℕ × ℕ))
    (of : Ty) (cons : List Con) → TyIn P s of → ConsIn P s cons
    → AllRows (SchemeIn P s) (con_schemes home first choice own of cons)
con_schemes_in P s home first choice own of [] h k = tt
con_schemes_in P s home first choice own of (con ∷ cons) h k = rows_with (SchemeIn P s) con.0 _
    (con_schemes home first choice own of cons)
    (con_scheme_in P s own (con_ty home first choice of con.1) (con_ty_in P s home first choice of con.1 h k.0))
    (con_schemes_in P s home first choice own of cons h k.1)

entries_in : (S : TypeScheme → Type 0) (rows : Table TypeScheme) → AllRows S rows
    → AllItems (ConHas S) (con_entries rows)
entries_in S [] h = tt
entries_in S (row ∷ rows) h = (h.0, entries_in S rows h.1)

numbers_in : (P : ℕ → Type 0) (s : State) (rows : List (List ℕ × ℕ)) → AllRows (NumberIn P s) rows
    → AllItems (TyIn P s) (map Ty.Var (numbers rows))
numbers_in P s [] h = tt
numbers_in P s (row ∷ rows) h = (h.0.ty, numbers_in P s rows h.1)

own_ty_in : (P : ℕ → Type 0) (s : State) (name : TyName) (rows : List (List ℕ × ℕ)) → AllRows (NumberIn P s) rows
    → TyIn P s (own_ty name (numbers rows))
own_ty_in P s name rows h = ty_made P s (symbol.Name name) (map Ty.Var (numbers rows)) (numbers_in P s rows h)

with_cons_in : (S : TypeScheme → Type 0) (F : TypeFn → Type 0) (cons : List ConEntry) (env : Env)
    → AllItems (ConHas S) cons
    → EnvHas S F env → EnvHas S F (with_cons cons env)
with_cons_in S F [] env h k = k
with_cons_in S F (con ∷ cons) env h k = with_cons_in S F cons
    (with_value con.name (record { status = status.Constructor; scheme = con.scheme }) env) h.1
    (has_with_value S F con.name (record { status = status.Constructor; scheme = con.scheme }) env h.0 k)

with_datatype_in : (S : TypeScheme → Type 0) (F : TypeFn → Type 0) (name : List ℕ) (str : TypeStr) (env : Env)
    → TypeHas S F str → EnvHas S F env → EnvHas S F (with_datatype name str env)
with_datatype_in S F name str env h k = with_cons_in S F str.cons (with_type name str env) h.1
    (has_with_type S F name str env h k)

made_types_in : (P : ℕ → Type 0) (s : State) (home : List ℕ) (first : ℕ) (choice : List Bool) (number : ℕ)
    (dats : List Dat) (env : Env) → AllItems (DatIn P s) dats → EnvIn P s env
    → EnvIn P s (made_types home first choice number dats env)
made_types_in P s home first choice number [] env h k = k
made_types_in P s home first choice number (dat ∷ dats) env h k =
    let name : TyName = own_name home number (length dat.variables) (get_or choice (number - first) false) in
    let of : Ty = own_ty name (numbers dat.variables) in
    let l : TyIn P s of = own_ty_in P s name dat.variables h.0.variables in
    let str : TypeStr = datatype_str home first choice dat.variables of dat.cons in
    made_types_in P s home first choice (suc number) dats (with_datatype dat.name str env) h.1
    (with_datatype_in (SchemeIn P s) (FunctionIn P s) dat.name str env (
      ty_closed P s (numbers dat.variables) of l,
      entries_in (SchemeIn P s) (con_schemes home first choice dat.variables of dat.cons)
          (con_schemes_in P s home first choice dat.variables of dat.cons l h.0.cons),
    ) k)

grows_names : (P : ℕ → Type 0) (count : ℕ) (st u : Progress) → Grows P st u → Grows P st (after_names count u)
grows_names P count st u h = record {
  fit = h.fit;
  later = h.later;
  touches = h.touches;
  rigid = h.rigid;
  names = let l : st.names ≤ u.names = h.names in omega (arith, l);
}

pub under_in : (P : ℕ → Type 0) (s : State) (made : Env) (sc : Scope) → EnvIn P s made → ScopeIn P s sc
    → ScopeIn P s (under made sc)
under_in P s made sc h k = record {
  env = has_modified (SchemeIn P s) (FunctionIn P s) sc.env made k.env h;
  written = k.written;
}

pub ready_under : (P : ℕ → Type 0) (made : Env) (sc : Scope) (st : Progress) → EnvIn P st.types made → IsReady P sc st
    → IsReady P (under made sc) st
ready_under P made sc st h k = record {
  fit = k.fit;
  new = k.new;
  scope = under_in P st.types made sc h k.scope;
}

pub datatypes_grow : (P : ℕ → Type 0) (sc : Scope) (refused : List (List ℕ)) (binds : List DatPhrase) (st : Progress)
    → IsReady P sc st → Given (MadeIn P st) (datatypes_of sc refused binds st)
datatypes_grow P sc refused binds st h =
    given_then (EnvIn P st.types) (MadeIn P st) (new_types sc binds st.names empty_env) _
    (new_grow P st.types sc binds st.names empty_env (has_nothing (SchemeIn P st.types) (FunctionIn P st.types)))
    (λ new k.
    given_then (DatsIn P st) (MadeIn P st) (infer_dats (under new sc) refused binds [] st) _
    (dats_grow P (under new sc) refused binds [] st (ready_under P new sc st k h) tt) (λ r l. (
      grows_names P (length binds) st r.1 l.0,
      made_types_in P r.1.types sc.home st.names (equality_choice sc.home st.names r.0) st.names r.0 empty_env l.1
          (has_nothing (SchemeIn P r.1.types) (FunctionIn P r.1.types)),
    )))

-- ---- replication and exceptions

pub replication_grows : (P : ℕ → Type 0) (s : State) (sc : Scope) (name : Name) (long : LongName) → ScopeIn P s sc
    → Given (EnvIn P s) (infer_replication sc name long)
replication_grows P s sc name long h =
    given_then (TypeHas (SchemeIn P s) (FunctionIn P s)) (EnvIn P s) (known sc long
    (found_at types long.parts sc.env)) _
    (given_known (TypeHas (SchemeIn P s) (FunctionIn P s)) sc long (found_at types long.parts sc.env)
    (has_found (SchemeIn P s) (FunctionIn P s) (TypeHas (SchemeIn P s) (FunctionIn P s)) types
    (has_types (SchemeIn P s) (FunctionIn P s)) long.parts sc.env h.env))
    (λ str k. with_datatype_in (SchemeIn P s) (FunctionIn P s) name.text str empty_env k
    (has_nothing (SchemeIn P s) (FunctionIn P s)))

pub variable_in : (P : ℕ → Type 0) (s : State) (t : Ty) → TyIn P s t → SchemeIn P s (variable_entry t).scheme
variable_in P s t h = record {
  closed = (closed_fits s [] s.marks t h.below).closed;
  body = ty_closed P s [] t h;
}

exception_grows : (P : ℕ → Type 0) (s : State) (sc : Scope) (body : ExBodyPhrase) → ScopeIn P s sc
    → Given (ValueHas (SchemeIn P s)) (exception_of sc body)
exception_grows P s sc ExBodyPhrase.Plain h = variable_in P s exn_ty (ty_constant P s _)
exception_grows P s sc (ExBodyPhrase.Of ty) h =
    given_then (TyIn P s) (ValueHas (SchemeIn P s)) (infer_ty sc ty) _ (ty_grows P s sc ty h)
    (λ t k. variable_in P s (arrow_ty t exn_ty) (ty_arrow P s t exn_ty k (ty_constant P s _)))
exception_grows P s sc (ExBodyPhrase.Copy long) h =
    given_then (ValueHas (SchemeIn P s)) (ValueHas (SchemeIn P s)) (known sc long (found_at values long.parts sc.env)) _
    (value_in P s sc long h) (λ value k.
    given_where (ValueHas (SchemeIn P s)) (not (is_exception value.status)) 34 sc (long_at long) _ k)

exceptions_in : (P : ℕ → Type 0) (s : State) (sc : Scope) (binds : List ExPhrase) (made : Env) → ScopeIn P s sc
    → EnvIn P s made → Given (EnvIn P s) (infer_exceptions sc binds made)
exceptions_in P s sc [] made h k = k
exceptions_in P s sc (bind ∷ binds) made h k =
    given_where (EnvIn P s) (is_one_of reserved_constructors bind.name.text) 34 sc (name_at bind.name) _
    (given_where (EnvIn P s) (is_some (entry bind.name.text (values made))) 40 sc (name_at bind.name) _
    (given_then (ValueHas (SchemeIn P s)) (EnvIn P s) (exception_of sc bind.body) _ (exception_grows P s sc bind.body h)
    (λ value l. exceptions_in P s sc binds (with_value bind.name.text value made) h
    (has_with_value (SchemeIn P s) (FunctionIn P s) bind.name.text value made l k))))

pub exceptions_grow : (P : ℕ → Type 0) (s : State) (sc : Scope) (binds : List ExPhrase) → ScopeIn P s sc
    → Given (EnvIn P s) (exceptions_of sc binds)
exceptions_grow P s sc binds h = exceptions_in P s sc binds empty_env h (has_nothing (SchemeIn P s) (FunctionIn P s))
