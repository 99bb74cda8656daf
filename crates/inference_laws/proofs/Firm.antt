-- No variable of the table stands in the types of what inference makes.
use Rattle.std.proofs.Common.{◌≡◌, ℕ, suc, ◌-◌, List, [], ◌∷◌, ◌++◌, length, map, refl, sym, ap, ◌∙◌, Option, Some, None, Bool, true, false, ◌||◌, cond, not, get_or}
use Rattle.std.specs.Prelude.{eqb}
use Rattle.std.specs.Option.{is_some}
use Rattle.std.proofs.lemmas.Bool.{eq-eqb}
use Rattle.sml_trees.specs.declared.name.At.{At}
use Rattle.sml_trees.specs.declared.name.LongName.{LongName}
use Rattle.semantic_objects.specs.declared.name.TyName.{TyName}
use Rattle.semantic_objects.specs.declared.entry.ConEntry.{ConEntry}
use Rattle.semantic_objects.specs.declared.entry.TypeStr.{TypeStr}
use Rattle.semantic_objects.specs.declared.entry.ValueEntry.{ValueEntry}
use Rattle.semantic_objects.specs.declared.entry.VidStatus.TheVariants as status
use Rattle.semantic_objects.specs.Tables.{Table, entry, with_entry}
use Rattle.semantic_objects.specs.Trees.{Tree, Trees, TypeScheme, frees, frees_any}
use Rattle.semantic_objects.specs.Environments.{Env, structures, types, values, empty_env, with_type, with_value, modified_by}
use Rattle.unification.specs.Types.{Ty, Types, Substitution, State, occurs, occurs_any}
use Rattle.unification.specs.Touching.{IsWithin, AreWithin}
use Rattle.unification.specs.Instances.{fill, fill_all}
use Rattle.unification.specs.Closing.{is_among, place_of, closed_over, closed_over_all}
use Rattle.unification.proofs.Walking.{or_either, or_left, or_right, or_false_left, or_false_right}
use Rattle.bare_phrases.specs.Phrases.{TyPhrase, TyFields, TyPhrases, TypPhrase, ConPhrase, DatPhrase, ExBodyPhrase, ExPhrase, DecPhrase, DecPhrases}
use Rattle.static_semantics.specs.BasicTypes.{unit_ty, arrow_ty, types_of, record_ty, is_one_of, reserved_constructors}
use Rattle.static_semantics.specs.Inferring.{Progress, Scope, under, with_written, with_written_alone, gives, name_at, long_at, known, found_at, named, is_named, Bound, under_bound, is_kept, has_too_large, sized_dec}
use Rattle.static_semantics.specs.TypeInference.{infer_ty, infer_ty_fields, infer_tys, listed, numbers, as_written, type_function, plain_type, infer_types}
use Rattle.static_semantics.specs.DatatypeInference.{own_name, own_ty, counted, own_type, new_types, Con, Dat, infer_optional_ty, infer_cons, cons_of, infer_dats, settled, settled_all, equality_choice, con_ty, con_schemes, con_entries, with_cons, with_datatype, datatype_str, made_types, datatypes_of, infer_replication, is_exception, exception_of, infer_exceptions, exceptions_of}
use Rattle.static_semantics.specs.CoreInference.{own_variables, Group, rec_bound, infer_rec_pats, rec_groups, closed_where, closed_variables, closed_groups, left_over, none_left, closed_val, infer_open, infer_binds, infer_rec_exps, infer_dec, infer_decs}
use Rattle.static_semantics.specs.Holding.{Given, IfSome, AllItems, AllRows}
use Rattle.static_semantics.proofs.Holding.{given_then, given_where, given_known, rows_with, rows_after}
use Rattle.static_semantics.proofs.TypesGrow.{rows_named}
use Rattle.inference_laws.specs.Alike.{is_variable_tree, IsFirm, FirmType, FirmValue, AnyName, FirmEnv}
use Rattle.inference_laws.proofs.TypesMade.{items_get}
use Rattle.inference_laws.proofs.SameTypes.{given_any}
use Rattle.inference_laws.proofs.EnvsWith.{items_after, env_structures, env_types, env_values, env_nothing, env_with_type, env_with_value, env_modified, env_found}

-- ---- environments

pub firm_nothing : FirmEnv empty_env
firm_nothing = env_nothing AnyName FirmType FirmValue

firm_with_type : (name : List ℕ) (str : TypeStr) (env : Env) → FirmType str → FirmEnv env
    → FirmEnv (with_type name str env)
firm_with_type name str env h k = env_with_type AnyName FirmType FirmValue name str env tt h k

firm_with_value : (name : List ℕ) (value : ValueEntry) (env : Env) → FirmValue value → FirmEnv env
    → FirmEnv (with_value name value env)
firm_with_value name value env h k = env_with_value AnyName FirmType FirmValue name value env tt h k

pub firm_modified : (env by : Env) → FirmEnv env → FirmEnv by → FirmEnv (modified_by env by)
firm_modified env by h k = env_modified AnyName FirmType FirmValue env by h k

type_found : (sc : Scope) (long : LongName) → FirmEnv sc.env
    → Given FirmType (known sc long (found_at types long.parts sc.env))
type_found sc long h = given_known FirmType sc long (found_at types long.parts sc.env)
    (env_found AnyName FirmType FirmValue FirmType types (env_types AnyName FirmType FirmValue) long.parts sc.env h)

-- ---- types hold variables that are written alone

mutual
  pub within_firm : (Q : ℕ → Type 0) (b f : Substitution) (x : Tree) → IsFirm x → ((i : ℕ) → IsWithin Q (b i))
      → IsWithin Q (fill b f x)
  within_firm Q b f (Tree.Bound i) h k = k i
  within_firm Q b f (Tree.Free n) h k = let l : true ≡ false = sym (eq-eqb n n refl) ∙ h n in absurd (cc)
  within_firm Q b f (Tree.Made c xs) h k = within_firm_all Q b f xs h k

  within_firm_all : (Q : ℕ → Type 0) (b f : Substitution) (xs : Trees) → ((n : ℕ) → frees_any n xs ≡ false)
      → ((i : ℕ) → IsWithin Q (b i)) → AreWithin Q (fill_all b f xs)
  within_firm_all Q b f Trees.Nil h k n e = absurd (cc)
  within_firm_all Q b f (Trees.Cons x xs) h k n e =
      or_either (occurs n (fill b f x)) (occurs_any n (fill_all b f xs)) e
      (within_firm Q b f x (λ m. or_false_left (frees m x) (frees_any m xs) (h m)) k n)
      (within_firm_all Q b f xs (λ m. or_false_right (frees m x) (frees_any m xs) (h m)) k n)

are_within : (Q : ℕ → Type 0) (ts : List Ty) → AllItems (IsWithin Q) ts → AreWithin Q (types_of ts)
are_within Q [] h n e = absurd (cc)
are_within Q (t ∷ ts) h n e = or_either (occurs n t) (occurs_any n (types_of ts)) e (h.0 n) (are_within Q ts h.1 n)

rows_within : (Q : ℕ → Type 0) (rows : Table Ty) → AllRows (IsWithin Q) rows
    → AllItems (IsWithin Q) (map (λ row. row.1) rows)
rows_within Q [] h = tt
rows_within Q (row ∷ rows) h = (h.0, rows_within Q rows h.1)

arrow_within : (Q : ℕ → Type 0) (a b : Ty) → IsWithin Q a → IsWithin Q b → IsWithin Q (arrow_ty a b)
arrow_within Q a b h k = are_within Q (a ∷ b ∷ []) (h, (k, tt))

pub unit_within : (Q : ℕ → Type 0) → IsWithin Q unit_ty
unit_within Q n e = absurd (cc)

mutual
  pub ty_within : (Q : ℕ → Type 0) (sc : Scope) (ty : TyPhrase) → FirmEnv sc.env → AllRows (IsWithin Q) sc.written
      → Given (IsWithin Q) (infer_ty sc ty)
  ty_within Q sc (TyPhrase.Var name at) h k = given_known (IsWithin Q) sc
      (let long : LongName = record { parts = name.text ∷ []; line = name.line; col = name.col } in long)
      (named name.text sc.written) (rows_named (IsWithin Q) name.text sc.written k)
  ty_within Q sc (TyPhrase.Record fields at) h k = given_then (AllRows (IsWithin Q)) (IsWithin Q)
      (infer_ty_fields sc fields []) (λ made. gives (record_ty made)) (ty_fields_within Q sc fields [] h k tt)
      (λ made l. are_within Q (map (λ row. row.1) made) (rows_within Q made l))
  ty_within Q sc (TyPhrase.Named args long at) h k =
      given_then (AllItems (IsWithin Q)) (IsWithin Q) (infer_tys sc args) _ (tys_within Q sc args h k) (λ made l.
      given_then FirmType (IsWithin Q) (known sc long (found_at types long.parts sc.env)) _ (type_found sc long h)
      (λ found m.
      given_where (IsWithin Q) (not (eqb (length made) found.function.arity)) 35 sc at _
      (within_firm Q (λ i. get_or made i unit_ty) Ty.Var found.function.body m.0
      (items_get (IsWithin Q) made unit_ty (unit_within Q) l))))
  ty_within Q sc (TyPhrase.Arrow from to at) h k =
      given_then (IsWithin Q) (IsWithin Q) (infer_ty sc from) _ (ty_within Q sc from h k) (λ a l.
      given_then (IsWithin Q) (IsWithin Q) (infer_ty sc to) _ (ty_within Q sc to h k) (λ b m.
      arrow_within Q a b l m))

  ty_fields_within : (Q : ℕ → Type 0) (sc : Scope) (fields : TyFields) (made : Table Ty) → FirmEnv sc.env
      → AllRows (IsWithin Q) sc.written → AllRows (IsWithin Q) made
      → Given (AllRows (IsWithin Q)) (infer_ty_fields sc fields made)
  ty_fields_within Q sc TyFields.EndOfFields made h k l = l
  ty_fields_within Q sc (TyFields.Field label ty rest) made h k l =
      given_where (AllRows (IsWithin Q)) (is_some (entry label.text made)) 40 sc (name_at label) _
      (given_then (IsWithin Q) (AllRows (IsWithin Q)) (infer_ty sc ty) _ (ty_within Q sc ty h k) (λ t m.
      ty_fields_within Q sc rest (with_entry label.text t made) h k (rows_with (IsWithin Q) label.text t made m l)))

  tys_within : (Q : ℕ → Type 0) (sc : Scope) (tys : TyPhrases) → FirmEnv sc.env → AllRows (IsWithin Q) sc.written
      → Given (AllItems (IsWithin Q)) (infer_tys sc tys)
  tys_within Q sc TyPhrases.EndOfArgs h k = tt
  tys_within Q sc (TyPhrases.Arg ty rest) h k =
      given_then (IsWithin Q) (AllItems (IsWithin Q)) (infer_ty sc ty) _ (ty_within Q sc ty h k) (λ t l.
      given_then (AllItems (IsWithin Q)) (AllItems (IsWithin Q)) (infer_tys sc rest) _ (tys_within Q sc rest h k)
      (λ ts m. (l, m)))

-- ---- types that are closed over all their variables

abbrev Among : List ℕ → ℕ → Type 0
Among vs n = is_among n vs ≡ true

neither : (a b : Bool) → a ≡ false → b ≡ false → (a || b) ≡ false
neither true b h k = h
neither false b h k = k

variable_firm : (c : Bool) (i m n : ℕ) → c ≡ true → frees n (cond c (Tree.Bound i) (Tree.Free m)) ≡ false
variable_firm true i m n h = refl
variable_firm false i m n h = absurd (cc)

mutual
  pub closed_firm : (vs : List ℕ) (t : Ty) → IsWithin (Among vs) t → IsFirm (closed_over vs t)
  closed_firm vs (Ty.Var m) h n = variable_firm (is_among m vs) (place_of m vs) m n (h m (eq-eqb m m refl))
  closed_firm vs (Ty.Made c ts) h n = closed_firm_all vs ts h n

  closed_firm_all : (vs : List ℕ) (ts : Types) → AreWithin (Among vs) ts → (n : ℕ)
      → frees_any n (closed_over_all vs ts) ≡ false
  closed_firm_all vs Types.Nil h n = refl
  closed_firm_all vs (Types.Cons t ts) h n = neither (frees n (closed_over vs t)) (frees_any n (closed_over_all vs ts))
      (closed_firm vs t (λ m e. h m (or_left (occurs m t) (occurs_any m ts) e)) n)
      (closed_firm_all vs ts (λ m e. h m (or_right (occurs m t) (occurs_any m ts) e)) n)

-- variables of a list are among it
among_more : (vs : List ℕ) (v : ℕ) (rows : List (List ℕ × Ty)) → AllRows (IsWithin (Among vs)) rows
    → AllRows (IsWithin (Among (v ∷ vs))) rows
among_more vs v [] h = tt
among_more vs v (row ∷ rows) h = (
  λ n e. or_right (eqb n v) (is_among n vs) (h.0 n e),
  among_more vs v rows h.1,
)

written_among : (rows : List (List ℕ × ℕ)) → AllRows (IsWithin (Among (numbers rows))) (as_written rows)
written_among [] = tt
written_among (row ∷ rows) = (
  λ n e. or_left (eqb n row.1) (is_among n (numbers rows)) e,
  among_more (numbers rows) row.1 (as_written rows) (written_among rows),
)

own_among : (m : ℕ) (vs : List ℕ) → occurs_any m (types_of (map Ty.Var vs)) ≡ is_among m vs
own_among m [] = refl
own_among m (v ∷ vs) = ap (λ z. eqb m v || z) (own_among m vs)

pub own_within : (name : TyName) (vs : List ℕ) → IsWithin (Among vs) (own_ty name vs)
own_within name vs n e = sym (own_among n vs) ∙ e

own_type_firm : (name : TyName) → FirmType (own_type name)
own_type_firm name = (
  closed_firm (counted name.arity 0) (own_ty name (counted name.arity 0)) (own_within name (counted name.arity 0)),
  tt,
)

-- ---- `type`

abbrev DecFirm : Env × Progress → Type 0
DecFirm r = FirmEnv r.0

infer_types_firm : (sc : Scope) (binds : List TypPhrase) (made : Env) (st : Progress) → FirmEnv sc.env → FirmEnv made
    → Given DecFirm (infer_types sc binds made st)
infer_types_firm sc [] made st h k = k
infer_types_firm sc (bind ∷ binds) made st h k =
    given_then (λ v. Unit {0}) DecFirm (listed sc bind.tyvars [] st) _ (given_any (listed sc bind.tyvars [] st))
    (λ r _.
    given_where DecFirm (is_some (entry bind.name.text (types made))) 40 sc (name_at bind.name) _
    (given_then (IsWithin (Among (numbers r.0))) DecFirm
    (infer_ty (with_written_alone (as_written r.0) sc) bind.ty) _
    (ty_within (Among (numbers r.0)) (with_written_alone (as_written r.0) sc) bind.ty h (written_among r.0))
    (λ ty l.
    let str : TypeStr = plain_type (type_function (numbers r.0) ty) in
    infer_types_firm sc binds (with_type bind.name.text str made) r.1 h
    (firm_with_type bind.name.text str made (closed_firm (numbers r.0) ty l, tt) k))))

-- ---- datatypes

pub new_firm : (sc : Scope) (binds : List DatPhrase) (number : ℕ) (made : Env) → FirmEnv made
    → Given FirmEnv (new_types sc binds number made)
new_firm sc [] number made h = h
new_firm sc (bind ∷ binds) number made h =
    let name : TyName = own_name sc.home number (length bind.tyvars) true in
    given_where FirmEnv (is_some (entry bind.name.text (types made))) 40 sc (name_at bind.name) _
    (new_firm sc binds (suc number) (with_type bind.name.text (own_type name) made)
    (firm_with_type bind.name.text (own_type name) made (own_type_firm name) h))

abbrev pub ConsWithin : (ℕ → Type 0) → List Con → Type 0
ConsWithin Q cons = AllRows (IfSome (IsWithin Q)) cons

abbrev pub DatWithin : Dat → Type 0
DatWithin dat = ConsWithin (Among (numbers dat.variables)) dat.cons

optional_within : (Q : ℕ → Type 0) (sc : Scope) (ty : Option TyPhrase) → FirmEnv sc.env
    → AllRows (IsWithin Q) sc.written → Given (IfSome (IsWithin Q)) (infer_optional_ty sc ty)
optional_within Q sc None h k = tt
optional_within Q sc (Some ty) h k = given_then (IsWithin Q) (IfSome (IsWithin Q)) (infer_ty sc ty) _
    (ty_within Q sc ty h k) (λ t l. l)

cons_within : (Q : ℕ → Type 0) (sc : Scope) (refused : List (List ℕ)) (cons : List ConPhrase) (before made : List Con)
    → FirmEnv sc.env → AllRows (IsWithin Q) sc.written → ConsWithin Q made
    → Given (ConsWithin Q) (infer_cons sc refused cons before made)
cons_within Q sc refused [] before made h k l = l
cons_within Q sc refused (con ∷ cons) before made h k l =
    given_where (ConsWithin Q) (is_one_of refused con.name.text) 34 sc (name_at con.name) _
    (given_where (ConsWithin Q) (is_named con.name.text (before ++ made)) 40 sc (name_at con.name) _
    (given_then (IfSome (IsWithin Q)) (ConsWithin Q) (infer_optional_ty sc con.arg) _ (optional_within Q sc con.arg h k)
    (λ arg m. cons_within Q sc refused cons before (made ++ (con.name.text, arg) ∷ []) h k
    (rows_after (IfSome (IsWithin Q)) made ((con.name.text, arg) ∷ []) l (m, tt)))))

pub dats_within : (sc : Scope) (refused : List (List ℕ)) (binds : List DatPhrase) (made : List Dat) (st : Progress)
    → FirmEnv sc.env → AllItems DatWithin made
    → Given (λ r. AllItems DatWithin r.0) (infer_dats sc refused binds made st)
dats_within sc refused [] made st h k = k
dats_within sc refused (bind ∷ binds) made st h k =
    let R : List Dat × Progress → Type 0 = λ r. AllItems DatWithin r.0 in
    given_then (λ v. Unit {0}) R (listed sc bind.tyvars [] st) _ (given_any (listed sc bind.tyvars [] st)) (λ r _.
    given_then (ConsWithin (Among (numbers r.0))) R
    (infer_cons (with_written_alone (as_written r.0) sc) refused bind.cons (cons_of made) []) _
    (cons_within (Among (numbers r.0)) (with_written_alone (as_written r.0) sc) refused bind.cons (cons_of made) [] h
    (written_among r.0) tt) (λ cons l.
    let dat : Dat = record { name = bind.name.text; variables = r.0; cons = cons } in
    dats_within sc refused binds (made ++ dat ∷ []) r.1 h (items_after DatWithin made (dat ∷ []) k (l, tt))))

mutual
  settled_within : (Q : ℕ → Type 0) (home : List ℕ) (first : ℕ) (choice : List Bool) (t : Ty) → IsWithin Q t
      → IsWithin Q (settled home first choice t)
  settled_within Q home first choice (Ty.Var n) h = h
  settled_within Q home first choice (Ty.Made c ts) h = settled_all_within Q home first choice ts h

  settled_all_within : (Q : ℕ → Type 0) (home : List ℕ) (first : ℕ) (choice : List Bool) (ts : Types) → AreWithin Q ts
      → AreWithin Q (settled_all home first choice ts)
  settled_all_within Q home first choice Types.Nil h = h
  settled_all_within Q home first choice (Types.Cons t ts) h = λ n e.
      or_either (occurs n (settled home first choice t)) (occurs_any n (settled_all home first choice ts)) e
      (settled_within Q home first choice t (λ m i. h m (or_left (occurs m t) (occurs_any m ts) i)) n)
      (settled_all_within Q home first choice ts (λ m i. h m (or_right (occurs m t) (occurs_any m ts) i)) n)

con_within : (Q : ℕ → Type 0) (home : List ℕ) (first : ℕ) (choice : List Bool) (of : Ty) (arg : Option Ty)
    → IsWithin Q of → IfSome (IsWithin Q) arg → IsWithin Q (con_ty home first choice of arg)
con_within Q home first choice of None h k = h
con_within Q home first choice of (Some arg) h k = arrow_within Q (settled home first choice arg) of
    (settled_within Q home first choice arg k) h

abbrev pub FirmScheme : TypeScheme → Type 0
FirmScheme σ = IsFirm σ.body

pub schemes_firm : (home : List ℕ) (first : ℕ) (choice : List Bool) (own : List (List ℕ × ℕ)) (of : Ty) (cons : List Con)
    → IsWithin (Among (numbers own)) of → ConsWithin (Among (numbers own)) cons
    → AllRows FirmScheme (con_schemes home first choice own of cons)
schemes_firm home first choice own of [] h k = tt
schemes_firm home first choice own of (con ∷ cons) h k = rows_with FirmScheme con.0 _
    (con_schemes home first choice own of cons)
    (closed_firm (numbers own) (con_ty home first choice of con.1)
    (con_within (Among (numbers own)) home first choice of con.1 h k.0))
    (schemes_firm home first choice own of cons h k.1)

abbrev FirmCons : List ConEntry → Type 0
FirmCons cons = AllItems (λ (con : ConEntry). IsFirm con.scheme.body) cons

pub entries_firm : (rows : Table TypeScheme) → AllRows FirmScheme rows → FirmCons (con_entries rows)
entries_firm [] h = tt
entries_firm (row ∷ rows) h = (h.0, entries_firm rows h.1)

pub firm_shaped : (x : Tree) → IsFirm x → is_variable_tree x ≡ false
firm_shaped (Tree.Bound i) h = refl
firm_shaped (Tree.Free n) h = let k : true ≡ false = sym (eq-eqb n n refl) ∙ h n in absurd (cc)
firm_shaped (Tree.Made c xs) h = refl

with_cons_firm : (cons : List ConEntry) (env : Env) → FirmCons cons → FirmEnv env → FirmEnv (with_cons cons env)
with_cons_firm [] env h k = k
with_cons_firm (con ∷ cons) env h k =
    let value : ValueEntry = record { status = status.Constructor; scheme = con.scheme } in
    with_cons_firm cons (with_value con.name value env) h.1
    (firm_with_value con.name value env (λ e. firm_shaped con.scheme.body h.0) k)

with_datatype_firm : (name : List ℕ) (str : TypeStr) (env : Env) → FirmType str → FirmEnv env
    → FirmEnv (with_datatype name str env)
with_datatype_firm name str env h k = with_cons_firm str.cons (with_type name str env) h.1
    (firm_with_type name str env h k)

made_types_firm : (home : List ℕ) (first : ℕ) (choice : List Bool) (number : ℕ) (dats : List Dat) (env : Env)
    → AllItems DatWithin dats → FirmEnv env → FirmEnv (made_types home first choice number dats env)
made_types_firm home first choice number [] env h k = k
made_types_firm home first choice number (dat ∷ dats) env h k =
    let name : TyName = own_name home number (length dat.variables) (get_or choice (number - first) false) in
    let of : Ty = own_ty name (numbers dat.variables) in
    let str : TypeStr = datatype_str home first choice dat.variables of dat.cons in
    made_types_firm home first choice (suc number) dats (with_datatype dat.name str env) h.1
    (with_datatype_firm dat.name str env (
      closed_firm (numbers dat.variables) of (own_within name (numbers dat.variables)),
      entries_firm (con_schemes home first choice dat.variables of dat.cons)
          (schemes_firm home first choice dat.variables of dat.cons (own_within name (numbers dat.variables)) h.0),
    ) k)

pub datatypes_firm : (sc : Scope) (refused : List (List ℕ)) (binds : List DatPhrase) (st : Progress) → FirmEnv sc.env
    → Given (λ r. FirmEnv r.0) (datatypes_of sc refused binds st)
datatypes_firm sc refused binds st h =
    given_then FirmEnv DecFirm (new_types sc binds st.names empty_env) _
    (new_firm sc binds st.names empty_env firm_nothing) (λ new k.
    given_then (λ r. AllItems DatWithin r.0) DecFirm (infer_dats (under new sc) refused binds [] st) _
    (dats_within (under new sc) refused binds [] st (firm_modified sc.env new h k) tt) (λ r l.
    made_types_firm sc.home st.names (equality_choice sc.home st.names r.0) st.names r.0 empty_env l firm_nothing))

-- ---- exceptions

exception_firm : (sc : Scope) (body : ExBodyPhrase) → FirmEnv sc.env → Given FirmValue (exception_of sc body)
exception_firm sc ExBodyPhrase.Plain h = λ e. refl
exception_firm sc (ExBodyPhrase.Of ty) h = given_then (λ t. Unit {0}) FirmValue (infer_ty sc ty) _
    (given_any (infer_ty sc ty)) (λ t _ e. refl)
exception_firm sc (ExBodyPhrase.Copy long) h =
    given_then FirmValue FirmValue (known sc long (found_at values long.parts sc.env)) _
    (given_known FirmValue sc long (found_at values long.parts sc.env)
    (env_found AnyName FirmType FirmValue FirmValue values (env_values AnyName FirmType FirmValue) long.parts sc.env h))
    (λ value k. given_where FirmValue (not (is_exception value.status)) 34 sc (long_at long) _ k)

exceptions_in_firm : (sc : Scope) (binds : List ExPhrase) (made : Env) → FirmEnv sc.env → FirmEnv made
    → Given FirmEnv (infer_exceptions sc binds made)
exceptions_in_firm sc [] made h k = k
exceptions_in_firm sc (bind ∷ binds) made h k =
    given_where FirmEnv (is_one_of reserved_constructors bind.name.text) 34 sc (name_at bind.name) _
    (given_where FirmEnv (is_some (entry bind.name.text (values made))) 40 sc (name_at bind.name) _
    (given_then FirmValue FirmEnv (exception_of sc bind.body) _ (exception_firm sc bind.body h)
    (λ value l. exceptions_in_firm sc binds (with_value bind.name.text value made) h
    (firm_with_value bind.name.text value made l k))))

pub exceptions_firm : (sc : Scope) (binds : List ExPhrase) → FirmEnv sc.env → Given FirmEnv (exceptions_of sc binds)
exceptions_firm sc binds h = exceptions_in_firm sc binds empty_env h firm_nothing

-- ---- declarations

open_firm : (sc : Scope) (longs : List LongName) (made : Env) → FirmEnv sc.env → FirmEnv made
    → Given FirmEnv (infer_open sc longs made)
open_firm sc [] made h k = k
open_firm sc (long ∷ longs) made h k =
    given_then FirmEnv FirmEnv (known sc long (found_at structures long.parts sc.env)) _
    (given_known FirmEnv sc long (found_at structures long.parts sc.env)
    (env_found AnyName FirmType FirmValue FirmEnv structures (env_structures AnyName FirmType FirmValue) long.parts
    sc.env h))
    (λ env l. open_firm sc longs (modified_by made env) h (firm_modified made env k l))

variables_firm : (closes : Bool) (kept : ℕ → Bool) (s : State) (rows : Bound) (env : Env) → FirmEnv env
    → FirmEnv (closed_variables closes kept s rows env)
variables_firm closes kept s [] env k = k
variables_firm closes kept s (row ∷ rows) env k =
    let value : ValueEntry = record { status = status.Variable; scheme = closed_where closes kept s row.1 } in
    variables_firm closes kept s rows (with_value row.0 value env)
    (firm_with_value row.0 value env (λ e. absurd (cc)) k)

groups_firm : (kept : ℕ → Bool) (s : State) (groups : List Group) (env : Env) → FirmEnv env
    → FirmEnv (closed_groups kept s groups env)
groups_firm kept s [] env k = k
groups_firm kept s (group ∷ groups) env k = groups_firm kept s groups (closed_variables group.0 kept s group.1 env)
    (variables_firm group.0 kept s group.1 env k)

none_left_in : {A : Type 0} (R : A → Type 0) (sc : Scope) (at : At) (x : A) (o : Option (List ℕ)) → R x
    → Given R (none_left sc at x o)
none_left_in R sc at x None h = h
none_left_in R sc at x (Some text) h = tt

dec_sized : (sc : Scope) (at : At) (r : Env × Progress) → DecFirm r → Given DecFirm (sized_dec sc at r)
dec_sized sc at r h = given_where DecFirm (has_too_large r.1.types.stands r.0) 38 sc at (λ u. gives r) h

mutual
  pub dec_firm : (depth : ℕ) (sc : Scope) (dec : DecPhrase) (st : Progress) → FirmEnv sc.env
      → Given (λ r. FirmEnv r.0) (infer_dec depth sc dec st)
  dec_firm depth sc (DecPhrase.Val tyvars rules recs at) st h =
      given_then (λ v. Unit {0}) DecFirm (own_variables sc tyvars rules recs st) _
      (given_any (own_variables sc tyvars rules recs st)) (λ own _.
      let inner : Scope = with_written (as_written own.0) sc in
      given_then (λ v. Unit {0}) DecFirm (infer_binds depth inner rules [] [] own.1) _
      (given_any (infer_binds depth inner rules [] [] own.1)) (λ b _.
      given_then (λ v. Unit {0}) DecFirm (infer_rec_pats depth inner recs [] b.0 b.2) _
      (given_any (infer_rec_pats depth inner recs [] b.0 b.2)) (λ r _.
      given_then (λ v. Unit {0}) DecFirm (infer_rec_exps depth (under_bound (rec_bound r.0) inner) recs r.0 r.1) _
      (given_any (infer_rec_exps depth (under_bound (rec_bound r.0) inner) recs r.0 r.1)) (λ u _.
      let groups : List Group = b.1 ++ rec_groups sc.env recs r.0 in
      let kept : ℕ → Bool = is_kept sc u.types.stands in
      given_then DecFirm DecFirm (closed_val sc at kept own.0 groups u) _
      (none_left_in DecFirm sc at (closed_groups kept u.types groups empty_env, u)
      (left_over kept u.types (closed_groups kept u.types groups empty_env) own.0)
      (groups_firm kept u.types groups empty_env firm_nothing)) (λ v i. dec_sized sc at v i)))))
  dec_firm depth sc (DecPhrase.Types binds at) st h =
      given_then DecFirm DecFirm (infer_types sc binds empty_env st) _
      (infer_types_firm sc binds empty_env st h firm_nothing) (λ r k. dec_sized sc at r k)
  dec_firm depth sc (DecPhrase.Datatypes binds at) st h =
      given_then DecFirm DecFirm (datatypes_of sc reserved_constructors binds st) _
      (datatypes_firm sc reserved_constructors binds st h) (λ r k. dec_sized sc at r k)
  dec_firm depth sc (DecPhrase.Replication name long at) st h =
      given_then FirmEnv DecFirm (infer_replication sc name long) _
      (given_then FirmType FirmEnv (known sc long (found_at types long.parts sc.env)) _ (type_found sc long h)
      (λ str k. with_datatype_firm name.text str empty_env k firm_nothing))
      (λ made k. dec_sized sc at (made, st) k)
  dec_firm depth sc (DecPhrase.Exceptions binds at) st h =
      given_then FirmEnv DecFirm (exceptions_of sc binds) _ (exceptions_firm sc binds h)
      (λ made k. dec_sized sc at (made, st) k)
  dec_firm depth sc (DecPhrase.Local hidden shown at) st h =
      given_then DecFirm DecFirm (infer_dec depth sc hidden st) _ (dec_firm depth sc hidden st h) (λ d k.
      given_then DecFirm DecFirm (infer_dec depth (under d.0 sc) shown d.1) _
      (dec_firm depth (under d.0 sc) shown d.1 (firm_modified sc.env d.0 h k)) (λ r l. dec_sized sc at r l))
  dec_firm depth sc (DecPhrase.Open longs at) st h =
      given_then FirmEnv DecFirm (infer_open sc longs empty_env) _ (open_firm sc longs empty_env h firm_nothing)
      (λ made k. dec_sized sc at (made, st) k)
  dec_firm depth sc (DecPhrase.Sequence decs at) st h = decs_firm depth sc decs st h
  dec_firm depth sc (DecPhrase.Structures binds at) st h = tt

  decs_firm : (depth : ℕ) (sc : Scope) (decs : DecPhrases) (st : Progress) → FirmEnv sc.env
      → Given (λ r. FirmEnv r.0) (infer_decs depth sc decs st)
  decs_firm depth sc DecPhrases.EndOfDecs st h = firm_nothing
  decs_firm depth sc (DecPhrases.Dec dec rest) st h =
      given_then DecFirm DecFirm (infer_dec depth sc dec st) _ (dec_firm depth sc dec st h) (λ d k.
      given_then DecFirm DecFirm (infer_decs depth (under d.0 sc) rest d.1) _
      (decs_firm depth (under d.0 sc) rest d.1 (firm_modified sc.env d.0 h k)) (λ v l.
      firm_modified d.0 v.0 k l))
