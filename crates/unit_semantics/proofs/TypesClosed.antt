-- What types, constructors and specifications hold of type variables: those of their own lists alone, so that nothing
-- that is closed over them has any.
use Rattle.std.proofs.Common.{◌≡◌, ℕ, zero, suc, ◌-◌, List, [], ◌∷◌, ◌++◌, length, map, get_or, refl, sym, ap, ◌∙◌, Option, Some, None, Bool, true, false, ◌||◌, not}
use Rattle.std.specs.Prelude.{eqb}
use Rattle.std.specs.Option.{is_some}
use Rattle.std.proofs.lemmas.Bool.{eq-eqb}
use Rattle.semantic_objects.specs.declared.name.TyName.{TyName}
use Rattle.semantic_objects.specs.declared.entry.ConEntry.{ConEntry}
use Rattle.semantic_objects.specs.declared.entry.TypeStr.{TypeStr}
use Rattle.semantic_objects.specs.Tables.{Table, entry, with_entry}
use Rattle.semantic_objects.specs.Trees.{Tree, Trees, TypeScheme}
use Rattle.semantic_objects.specs.Environments.{Env, types, empty_env, with_type}
use Rattle.env_parts.specs.Types.{holds_free, any_holds_free}
use Rattle.unification.specs.Types.{Ty, Types, Substitution, occurs, occurs_any}
use Rattle.unification.specs.Touching.{IsWithin, AreWithin}
use Rattle.unification.specs.Instances.{fill, fill_all}
use Rattle.unification.specs.Closing.{is_among, place_of, closed_over, closed_over_all}
use Rattle.unification.proofs.Walking.{or_left, or_right, or_either, or_false_left, or_false_right}
use Rattle.bare_phrases.specs.Phrases.{TyPhrase, TyFields, TyPhrases, ConPhrase, DatPhrase}
use Rattle.sml_trees.specs.declared.name.LongName.{LongName}
use Rattle.sml_trees.specs.declared.name.Name.{Name}
use Rattle.static_semantics.specs.BasicTypes.{unit_ty, arrow_ty, types_of, record_ty, is_one_of}
use Rattle.static_semantics.specs.Inferring.{Progress, Scope, under, with_written_alone, gives, name_at, known, found_at, named, is_named}
use Rattle.static_semantics.specs.TypeInference.{infer_ty, infer_ty_fields, infer_tys, listed, numbers, as_written}
use Rattle.static_semantics.specs.DatatypeInference.{own_name, own_ty, own_type, new_types, Con, Dat, infer_optional_ty, infer_cons, cons_of, infer_dats, settled, settled_all, equality_choice, con_ty, con_schemes, con_entries, with_cons, with_datatype, datatype_str, made_types, datatypes_of, infer_replication}
use Rattle.static_semantics.specs.Holding.{Given, IfSome, AllItems, AllRows, ConHas, TypeHas}
use Rattle.static_semantics.proofs.Holding.{given_then, given_where, given_known, rows_with, rows_after, has_types, has_nothing, has_with_type, has_with_value, has_modified, has_found}
use Rattle.static_semantics.proofs.TypesGrow.{rows_named}
use Rattle.unit_semantics.specs.Promises.{IsClosedScheme, IsClosedFunction, IsClosedEnv}
use Rattle.unit_semantics.proofs.Closed.{neither, bound_where, own_closed}
use Rattle.unit_semantics.proofs.Answers.{always}

abbrev pub Among : List ℕ → ℕ → Type 0
Among vs n = is_among n vs ≡ true

-- ---- types

items_get : {A : Type 0} (R : A → Type 0) (xs : List A) (d : A) → R d → AllItems R xs → (i : ℕ) → R (get_or xs i d)
items_get R [] d h k i = h
items_get R (x ∷ xs) d h k zero = k.0
items_get R (x ∷ xs) d h k (suc i) = items_get R xs d h k.1 i

within_unit : (P : ℕ → Type 0) → IsWithin P unit_ty
within_unit P n e = absurd (cc)

within_fields : (P : ℕ → Type 0) (rows : Table Ty) → AllRows (IsWithin P) rows
    → AreWithin P (types_of (map (λ row. row.1) rows))
within_fields P [] h = λ n e. absurd (cc)
within_fields P (row ∷ rows) h = λ n e. or_either (occurs n row.1) (occurs_any n (types_of (map (λ row. row.1) rows))) e
    (h.0 n) (within_fields P rows h.1 n)

pub within_arrow : (P : ℕ → Type 0) (a b : Ty) → IsWithin P a → IsWithin P b → IsWithin P (arrow_ty a b)
within_arrow P a b h k = λ n e. or_either (occurs n a) (occurs n b || false) e (h n)
    (λ i. or_either (occurs n b) false i (k n) (λ j. absurd (cc)))

mutual
  within_closed : (P : ℕ → Type 0) (b : Substitution) (x : Tree) → ((i : ℕ) → IsWithin P (b i)) → holds_free x ≡ false
      → IsWithin P (fill b Ty.Var x)
  within_closed P b (Tree.Bound i) h k = h i
  within_closed P b (Tree.Free n) h k = absurd (cc)
  within_closed P b (Tree.Made c ts) h k = within_closed_all P b ts h k

  within_closed_all : (P : ℕ → Type 0) (b : Substitution) (xs : Trees) → ((i : ℕ) → IsWithin P (b i))
      → any_holds_free xs ≡ false → AreWithin P (fill_all b Ty.Var xs)
  within_closed_all P b Trees.Nil h k = λ n e. absurd (cc)
  within_closed_all P b (Trees.Cons t ts) h k = λ n e.
      or_either (occurs n (fill b Ty.Var t)) (occurs_any n (fill_all b Ty.Var ts)) e
      (within_closed P b t h (or_false_left (holds_free t) (any_holds_free ts) k) n)
      (within_closed_all P b ts h (or_false_right (holds_free t) (any_holds_free ts) k) n)

abbrev ClosedType : TypeStr → Type 0
ClosedType str = TypeHas IsClosedScheme IsClosedFunction str

type_found : (sc : Scope) (long : LongName) (env : Env) → IsClosedEnv env
    → Given ClosedType (known sc long (found_at types long.parts env))
type_found sc long env h = given_known ClosedType sc long (found_at types long.parts env)
    (has_found IsClosedScheme IsClosedFunction ClosedType types (has_types IsClosedScheme IsClosedFunction) long.parts
    env h)

mutual
  pub ty_within : (P : ℕ → Type 0) (sc : Scope) (ty : TyPhrase) → IsClosedEnv sc.env
      → AllRows (IsWithin P) sc.written → Given (IsWithin P) (infer_ty sc ty)
  ty_within P sc (TyPhrase.Var name at) h w = given_known (IsWithin P) sc
      (let long : LongName = record { parts = name.text ∷ []; line = name.line; col = name.col } in long)
      (named name.text sc.written) (rows_named (IsWithin P) name.text sc.written w)
  ty_within P sc (TyPhrase.Record fields at) h w = given_then (AllRows (IsWithin P)) (IsWithin P)
      (infer_ty_fields sc fields []) (λ made. gives (record_ty made)) (ty_fields_within P sc fields [] h w tt)
      (λ made k. within_fields P made k)
  ty_within P sc (TyPhrase.Named args long at) h w =
      given_then (AllItems (IsWithin P)) (IsWithin P) (infer_tys sc args) _ (tys_within P sc args h w) (λ made k.
      given_then ClosedType (IsWithin P) (known sc long (found_at types long.parts sc.env)) _
      (type_found sc long sc.env h) (λ found l.
      given_where (IsWithin P) (not (eqb (length made) found.function.arity)) 35 sc at _
      (within_closed P (λ i. get_or made i unit_ty) found.function.body
      (items_get (IsWithin P) made unit_ty (within_unit P) k) l.0)))
  ty_within P sc (TyPhrase.Arrow from to at) h w =
      given_then (IsWithin P) (IsWithin P) (infer_ty sc from) _ (ty_within P sc from h w) (λ a k.
      given_then (IsWithin P) (IsWithin P) (infer_ty sc to) _ (ty_within P sc to h w) (λ b l. within_arrow P a b k l))

  ty_fields_within : (P : ℕ → Type 0) (sc : Scope) (fields : TyFields) (made : Table Ty) → IsClosedEnv sc.env
      → AllRows (IsWithin P) sc.written → AllRows (IsWithin P) made
      → Given (AllRows (IsWithin P)) (infer_ty_fields sc fields made)
  ty_fields_within P sc TyFields.EndOfFields made h w k = k
  ty_fields_within P sc (TyFields.Field label ty rest) made h w k =
      given_where (AllRows (IsWithin P)) (is_some (entry label.text made)) 40 sc (name_at label) _
      (given_then (IsWithin P) (AllRows (IsWithin P)) (infer_ty sc ty) _ (ty_within P sc ty h w) (λ t l.
      ty_fields_within P sc rest (with_entry label.text t made) h w (rows_with (IsWithin P) label.text t made l k)))

  tys_within : (P : ℕ → Type 0) (sc : Scope) (tys : TyPhrases) → IsClosedEnv sc.env → AllRows (IsWithin P) sc.written
      → Given (AllItems (IsWithin P)) (infer_tys sc tys)
  tys_within P sc TyPhrases.EndOfArgs h w = tt
  tys_within P sc (TyPhrases.Arg ty rest) h w =
      given_then (IsWithin P) (AllItems (IsWithin P)) (infer_ty sc ty) _ (ty_within P sc ty h w) (λ t k.
      given_then (AllItems (IsWithin P)) (AllItems (IsWithin P)) (infer_tys sc rest) _ (tys_within P sc rest h w)
      (λ ts l. (k, l)))

pub optional_within : (P : ℕ → Type 0) (sc : Scope) (ty : Option TyPhrase) → IsClosedEnv sc.env
    → AllRows (IsWithin P) sc.written → Given (IfSome (IsWithin P)) (infer_optional_ty sc ty)
optional_within P sc None h w = tt
optional_within P sc (Some ty) h w = given_then (IsWithin P) (IfSome (IsWithin P)) (infer_ty sc ty) _
    (ty_within P sc ty h w) (λ t k. k)

-- ---- closing

mutual
  pub closed_none : (vs : List ℕ) (t : Ty) → IsWithin (Among vs) t → holds_free (closed_over vs t) ≡ false
  closed_none vs (Ty.Var n) h = bound_where (is_among n vs) (place_of n vs) n (h n (eq-eqb n n refl))
  closed_none vs (Ty.Made c ts) h = closed_none_all vs ts h

  closed_none_all : (vs : List ℕ) (ts : Types) → AreWithin (Among vs) ts
      → any_holds_free (closed_over_all vs ts) ≡ false
  closed_none_all vs Types.Nil h = refl
  closed_none_all vs (Types.Cons t ts) h = neither (holds_free (closed_over vs t)) (any_holds_free (closed_over_all vs ts))
      (closed_none vs t (λ n e. h n (or_left (occurs n t) (occurs_any n ts) e)))
      (closed_none_all vs ts (λ n e. h n (or_right (occurs n t) (occurs_any n ts) e)))

pub written_among : (rows : List (List ℕ × ℕ)) (vs : List ℕ)
    → ((n : ℕ) → is_among n (numbers rows) ≡ true → is_among n vs ≡ true)
    → AllRows (IsWithin (Among vs)) (as_written rows)
written_among [] vs h = tt
written_among (row ∷ rows) vs h = (
  λ n e. h n (or_left (eqb n row.1) (is_among n (numbers rows)) e),
  written_among rows vs (λ n e. h n (or_right (eqb n row.1) (is_among n (numbers rows)) e)),
)

-- ---- datatypes

pub own_type_closed : (name : TyName) → ClosedType (own_type name)
own_type_closed name = (own_closed name, tt)

new_closed : (sc : Scope) (binds : List DatPhrase) (number : ℕ) (made : Env) → IsClosedEnv made
    → Given IsClosedEnv (new_types sc binds number made)
new_closed sc [] number made h = h
new_closed sc (bind ∷ binds) number made h =
    let name : TyName = own_name sc.home number (length bind.tyvars) true in
    given_where IsClosedEnv (is_some (entry bind.name.text (types made))) 40 sc (name_at bind.name) _
    (new_closed sc binds (suc number) (with_type bind.name.text (own_type name) made)
    (has_with_type IsClosedScheme IsClosedFunction bind.name.text (own_type name) made (own_type_closed name) h))

abbrev ConsWithin : (ℕ → Type 0) → List Con → Type 0
ConsWithin P cons = AllRows (IfSome (IsWithin P)) cons

cons_within : (P : ℕ → Type 0) (sc : Scope) (refused : List (List ℕ)) (cons : List ConPhrase) (before made : List Con)
    → IsClosedEnv sc.env → AllRows (IsWithin P) sc.written → ConsWithin P made
    → Given (ConsWithin P) (infer_cons sc refused cons before made)
cons_within P sc refused [] before made h w k = k
cons_within P sc refused (con ∷ cons) before made h w k =
    given_where (ConsWithin P) (is_one_of refused con.name.text) 34 sc (name_at con.name) _
    (given_where (ConsWithin P) (is_named con.name.text (before ++ made)) 40 sc (name_at con.name) _
    (given_then (IfSome (IsWithin P)) (ConsWithin P) (infer_optional_ty sc con.arg) _
    (optional_within P sc con.arg h w) (λ arg l.
    cons_within P sc refused cons before (made ++ (con.name.text, arg) ∷ []) h w
    (rows_after (IfSome (IsWithin P)) made ((con.name.text, arg) ∷ []) k (l, tt)))))

abbrev OwnCons : Dat → Type 0
OwnCons dat = ConsWithin (Among (numbers dat.variables)) dat.cons

abbrev OwnDats : List Dat × Progress → Type 0
OwnDats r = AllItems OwnCons r.0

items_after : {A : Type 0} (R : A → Type 0) (first second : List A) → AllItems R first → AllItems R second
    → AllItems R (first ++ second)
items_after R [] second h k = k
items_after R (x ∷ xs) second h k = (h.0, items_after R xs second h.1 k)

dats_within : (sc : Scope) (refused : List (List ℕ)) (binds : List DatPhrase) (made : List Dat) (st : Progress)
    → IsClosedEnv sc.env → AllItems OwnCons made → Given OwnDats (infer_dats sc refused binds made st)
dats_within sc refused [] made st h k = k
dats_within sc refused (bind ∷ binds) made st h k =
    always OwnDats (listed sc bind.tyvars [] st) _ (λ r.
    given_then (ConsWithin (Among (numbers r.0))) OwnDats
    (infer_cons (with_written_alone (as_written r.0) sc) refused bind.cons (cons_of made) []) _
    (cons_within (Among (numbers r.0)) (with_written_alone (as_written r.0) sc) refused bind.cons (cons_of made) [] h
    (written_among r.0 (numbers r.0) (λ n e. e)) tt) (λ cons m.
    let dat : Dat = record { name = bind.name.text; variables = r.0; cons = cons } in
    dats_within sc refused binds (made ++ dat ∷ []) r.1 h (items_after OwnCons made (dat ∷ []) k (m, tt))))

mutual
  settled_within : (P : ℕ → Type 0) (home : List ℕ) (first : ℕ) (choice : List Bool) (t : Ty) → IsWithin P t
      → IsWithin P (settled home first choice t)
  settled_within P home first choice (Ty.Var n) h = h
  settled_within P home first choice (Ty.Made c ts) h = settled_all_within P home first choice ts h

  settled_all_within : (P : ℕ → Type 0) (home : List ℕ) (first : ℕ) (choice : List Bool) (ts : Types) → AreWithin P ts
      → AreWithin P (settled_all home first choice ts)
  settled_all_within P home first choice Types.Nil h = h
  settled_all_within P home first choice (Types.Cons t ts) h = λ n e.
      or_either (occurs n (settled home first choice t)) (occurs_any n (settled_all home first choice ts)) e
      (settled_within P home first choice t (λ m i. h m (or_left (occurs m t) (occurs_any m ts) i)) n)
      (settled_all_within P home first choice ts (λ m i. h m (or_right (occurs m t) (occurs_any m ts) i)) n)

con_within : (P : ℕ → Type 0) (home : List ℕ) (first : ℕ) (choice : List Bool) (of : Ty) (arg : Option Ty)
    → IsWithin P of → IfSome (IsWithin P) arg → IsWithin P (con_ty home first choice of arg)
con_within P home first choice of None h k = h
con_within P home first choice of (Some arg) h k =
    within_arrow P (settled home first choice arg) of (settled_within P home first choice arg k) h

schemes_closed : (home : List ℕ) (first : ℕ) (choice : List Bool) (own : List (List ℕ × ℕ)) (of : Ty) (cons : List Con)
    → IsWithin (Among (numbers own)) of → ConsWithin (Among (numbers own)) cons
    → AllRows IsClosedScheme (con_schemes home first choice own of cons)
schemes_closed home first choice own of [] h k = tt
schemes_closed home first choice own of (con ∷ cons) h k = rows_with IsClosedScheme con.0 _
    (con_schemes home first choice own of cons)
    (closed_none (numbers own) (con_ty home first choice of con.1)
    (con_within (Among (numbers own)) home first choice of con.1 h k.0))
    (schemes_closed home first choice own of cons h k.1)

entries_closed : (rows : Table TypeScheme) → AllRows IsClosedScheme rows
    → AllItems (ConHas IsClosedScheme) (con_entries rows)
entries_closed [] h = tt
entries_closed (row ∷ rows) h = (h.0, entries_closed rows h.1)

cons_as_values : (cons : List ConEntry) (env : Env) → AllItems (ConHas IsClosedScheme) cons → IsClosedEnv env
    → IsClosedEnv (with_cons cons env)
cons_as_values [] env h k = k
cons_as_values (con ∷ cons) env h k = cons_as_values cons _ h.1
    (has_with_value IsClosedScheme IsClosedFunction con.name _ env h.0 k)

pub datatype_closed : (name : List ℕ) (str : TypeStr) (env : Env) → ClosedType str → IsClosedEnv env
    → IsClosedEnv (with_datatype name str env)
datatype_closed name str env h k = cons_as_values str.cons (with_type name str env) h.1
    (has_with_type IsClosedScheme IsClosedFunction name str env h k)

variables_among : (m : ℕ) (vs : List ℕ) → occurs_any m (types_of (map Ty.Var vs)) ≡ is_among m vs
variables_among m [] = refl
variables_among m (v ∷ vs) = ap (λ z. eqb m v || z) (variables_among m vs)

own_within : (name : TyName) (vs : List ℕ) → IsWithin (Among vs) (own_ty name vs)
own_within name vs n e = sym (variables_among n vs) ∙ e

str_closed : (home : List ℕ) (first : ℕ) (choice : List Bool) (own : List (List ℕ × ℕ)) (of : Ty) (cons : List Con)
    → IsWithin (Among (numbers own)) of → ConsWithin (Among (numbers own)) cons
    → ClosedType (datatype_str home first choice own of cons)
str_closed home first choice own of cons h k = (
  closed_none (numbers own) of h,
  entries_closed (con_schemes home first choice own of cons) (schemes_closed home first choice own of cons h k),
)

made_closed : (home : List ℕ) (first : ℕ) (choice : List Bool) (number : ℕ) (dats : List Dat) (env : Env)
    → AllItems OwnCons dats → IsClosedEnv env → IsClosedEnv (made_types home first choice number dats env)
made_closed home first choice number [] env h k = k
made_closed home first choice number (dat ∷ dats) env h k =
    let name : TyName = own_name home number (length dat.variables) (get_or choice (number - first) false) in
    let of : Ty = own_ty name (numbers dat.variables) in
    let str : TypeStr = datatype_str home first choice dat.variables of dat.cons in
    made_closed home first choice (suc number) dats (with_datatype dat.name str env) h.1
    (datatype_closed dat.name str env
    (str_closed home first choice dat.variables of dat.cons (own_within name (numbers dat.variables)) h.0) k)

abbrev pub ClosedMade : Env × Progress → Type 0
ClosedMade r = IsClosedEnv r.0

pub datatypes_closed : (sc : Scope) (refused : List (List ℕ)) (binds : List DatPhrase) (st : Progress)
    → IsClosedEnv sc.env → Given ClosedMade (datatypes_of sc refused binds st)
datatypes_closed sc refused binds st h =
    given_then IsClosedEnv ClosedMade (new_types sc binds st.names empty_env) _
    (new_closed sc binds st.names empty_env (has_nothing IsClosedScheme IsClosedFunction)) (λ new k.
    given_then OwnDats ClosedMade (infer_dats (under new sc) refused binds [] st) _
    (dats_within (under new sc) refused binds [] st (has_modified IsClosedScheme IsClosedFunction sc.env new h k) tt)
    (λ r l. made_closed sc.home st.names (equality_choice sc.home st.names r.0) st.names r.0 empty_env l
    (has_nothing IsClosedScheme IsClosedFunction)))

pub replication_closed : (sc : Scope) (name : Name) (long : LongName) → IsClosedEnv sc.env
    → Given IsClosedEnv (infer_replication sc name long)
replication_closed sc name long h =
    given_then ClosedType IsClosedEnv (known sc long (found_at types long.parts sc.env)) _
    (type_found sc long sc.env h)
    (λ str k. datatype_closed name.text str empty_env k (has_nothing IsClosedScheme IsClosedFunction))
