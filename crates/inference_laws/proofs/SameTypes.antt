-- Types, what `type` binds and datatypes are the same in environments with the same types.
use Rattle.std.proofs.Common.{◌≡◌, ℕ, suc, List, [], ◌∷◌, ◌++◌, length, refl, ap, ◌∙◌, Option, Some, None, Bool, true, false, not, get_or, ◌-◌}
use Rattle.std.specs.Prelude.{Ok, Err, eqb}
use Rattle.std.specs.Option.{is_some}
use Rattle.sml_trees.specs.declared.name.At.{At}
use Rattle.sml_trees.specs.declared.name.Name.{Name}
use Rattle.sml_trees.specs.declared.name.LongName.{LongName}
use Rattle.semantic_objects.specs.declared.name.TyName.{TyName}
use Rattle.semantic_objects.specs.declared.entry.ConEntry.{ConEntry}
use Rattle.semantic_objects.specs.declared.entry.TypeStr.{TypeStr}
use Rattle.semantic_objects.specs.declared.entry.ValueEntry.{ValueEntry}
use Rattle.semantic_objects.specs.declared.entry.VidStatus.TheVariants as status
use Rattle.semantic_objects.specs.Tables.{Table, entry, with_entry}
use Rattle.semantic_objects.specs.Trees.{TypeScheme}
use Rattle.semantic_objects.specs.Environments.{Env, types, empty_env, with_type, with_value, modified_by}
use Rattle.unification.specs.Types.{Ty, Substitution}
use Rattle.unification.specs.Closing.{closed_over}
use Rattle.bare_phrases.specs.Phrases.{TyPhrase, TyFields, TyPhrases, TypPhrase, ConPhrase, DatPhrase}
use Rattle.static_semantics.specs.BasicTypes.{is_one_of}
use Rattle.static_semantics.specs.Inferring.{Progress, Scope, under, with_written_alone, Answer, ◌>>=◌, refuses_where, known, name_at, found_at, named, is_named}
use Rattle.static_semantics.specs.TypeInference.{infer_ty, infer_ty_fields, infer_tys, new_rigid, listed, numbers, as_written, type_function, plain_type, infer_types}
use Rattle.static_semantics.specs.DatatypeInference.{own_name, own_ty, own_type, new_types, Con, Dat, infer_optional_ty, infer_cons, cons_of, infer_dats, equality_choice, con_ty, con_schemes, con_entries, with_cons, with_datatype, datatype_str, made_types, datatypes_of}
use Rattle.static_semantics.specs.Holding.{Given, AllItems, AllRows}
use Rattle.static_semantics.proofs.Holding.{given_then, given_where, rows_with}
use Rattle.inference_laws.specs.Alike.{EnvsAlike, is_variable_tree, IsShaped, ValuesAlike, TypesSame, SeenAlike, in_env}
use Rattle.inference_laws.proofs.Alike.{both_same, found_same, alike_found, alike_types, alike_modified, alike_with_type, alike_with_value, alike_nothing, env_itself}

pub given_any : {A : Type 0} (m : Answer A) → Given (λ x. Unit {0}) m
given_any None = tt
given_any (Some (Err d)) = tt
given_any (Some (Ok x)) = tt

-- environments with the same types, whatever their values
abbrev pub AnyValue : ValueEntry → ValueEntry → Type 0
AnyValue v w = Unit {0}

abbrev pub IsSame : TypeStr → TypeStr → Type 0
IsSame x y = x ≡ y

abbrev pub SameTypes : Env → Env → Type 0
SameTypes e f = EnvsAlike AnyValue IsSame e f

pub types_itself : (e : Env) → SameTypes e e
types_itself e = env_itself AnyValue IsSame (λ x. tt) (λ x. refl) e

pub types_found : (e f : Env) (parts : List (List ℕ)) → SameTypes e f → found_at types parts e ≡ found_at types parts f
types_found e f parts h = found_same (found_at types parts e) (found_at types parts f)
    (alike_found AnyValue IsSame IsSame types (alike_types AnyValue IsSame) parts e f h)

known_same : {A : Type 0} (sc : Scope) (f : Env) (long : LongName) (o p : Option A) → o ≡ p
    → known sc long o ≡ known (in_env f sc) long p
known_same sc f long o p e = ap (known sc long) e ∙ on p where
  on : {A : Type 0} (p : Option A) → known sc long p ≡ known (in_env f sc) long p
  on None = refl
  on (Some x) = refl

where_same : {B : Type 0} (c : Bool) (number : ℕ) (sc : Scope) (f : Env) (at : At) (g h : Unit {0} → Answer B)
    → g tt ≡ h tt → (refuses_where c number sc at >>= g) ≡ (refuses_where c number (in_env f sc) at >>= h)
where_same true number sc f at g h e = refl
where_same false number sc f at g h e = e

mutual
  pub ty_same : (sc : Scope) (f : Env) (ty : TyPhrase) → SameTypes sc.env f → infer_ty sc ty ≡ infer_ty (in_env f sc) ty
  ty_same sc f (TyPhrase.Var name at) h = known_same sc f
      (let long : LongName = record { parts = name.text ∷ []; line = name.line; col = name.col } in long)
      (named name.text sc.written) (named name.text sc.written) refl
  ty_same sc f (TyPhrase.Record fields at) h = both_same (infer_ty_fields sc fields [])
      (infer_ty_fields (in_env f sc) fields []) _ _ (ty_fields_same sc f fields [] h) (λ made. refl)
  ty_same sc f (TyPhrase.Named args long at) h = both_same (infer_tys sc args) (infer_tys (in_env f sc) args) _ _
      (tys_same sc f args h) (λ made.
      both_same (known sc long (found_at types long.parts sc.env)) (known (in_env f sc) long
      (found_at types long.parts f))
      _ _ (known_same sc f long (found_at types long.parts sc.env) (found_at types long.parts f)
      (types_found sc.env f long.parts h)) (λ found.
      where_same (not (eqb (length made) found.function.arity)) 35 sc f at _ _ refl))
  ty_same sc f (TyPhrase.Arrow from to at) h = both_same (infer_ty sc from) (infer_ty (in_env f sc) from) _ _
      (ty_same sc f from h) (λ a.
      both_same (infer_ty sc to) (infer_ty (in_env f sc) to) _ _ (ty_same sc f to h) (λ b. refl))

  ty_fields_same : (sc : Scope) (f : Env) (fields : TyFields) (made : Table Ty) → SameTypes sc.env f
      → infer_ty_fields sc fields made ≡ infer_ty_fields (in_env f sc) fields made
  ty_fields_same sc f TyFields.EndOfFields made h = refl
  ty_fields_same sc f (TyFields.Field label ty rest) made h =
      where_same (is_some (entry label.text made)) 40 sc f (name_at label) _ _
      (both_same (infer_ty sc ty) (infer_ty (in_env f sc) ty) _ _ (ty_same sc f ty h) (λ t.
      ty_fields_same sc f rest (with_entry label.text t made) h))

  tys_same : (sc : Scope) (f : Env) (tys : TyPhrases) → SameTypes sc.env f → infer_tys sc tys ≡ infer_tys (in_env f sc)
      tys
  tys_same sc f TyPhrases.EndOfArgs h = refl
  tys_same sc f (TyPhrases.Arg ty rest) h = both_same (infer_ty sc ty) (infer_ty (in_env f sc) ty) _ _
      (ty_same sc f ty h) (λ t.
      both_same (infer_tys sc rest) (infer_tys (in_env f sc) rest) _ _ (tys_same sc f rest h) (λ ts. refl))

pub listed_same : (sc : Scope) (f : Env) (names : List Name) (before : List (List ℕ × ℕ)) (st : Progress)
    → listed sc names before st ≡ listed (in_env f sc) names before st
listed_same sc f [] before st = refl
listed_same sc f (name ∷ names) before st = where_same (is_named name.text before) 40 sc f (name_at name) _ _
    (listed_same sc f names (before ++ (name.text, st.types.next) ∷ []) (new_rigid name.text st))

pub infer_types_same : (sc : Scope) (f : Env) (binds : List TypPhrase) (made : Env) (st : Progress)
    → SameTypes sc.env f → infer_types sc binds made st ≡ infer_types (in_env f sc) binds made st
infer_types_same sc f [] made st h = refl
infer_types_same sc f (bind ∷ binds) made st h =
    both_same (listed sc bind.tyvars [] st) (listed (in_env f sc) bind.tyvars [] st) _ _
    (listed_same sc f bind.tyvars [] st) (λ r.
    where_same (is_some (entry bind.name.text (types made))) 40 sc f (name_at bind.name) _ _
    (both_same (infer_ty (with_written_alone (as_written r.0) sc) bind.ty)
    (infer_ty (with_written_alone (as_written r.0) (in_env f sc)) bind.ty) _ _
    (ty_same (with_written_alone (as_written r.0) sc) f bind.ty h) (λ ty.
    infer_types_same sc f binds (with_type bind.name.text (plain_type (type_function (numbers r.0) ty)) made) r.1 h)))

-- ---- datatypes

new_types_same : (sc : Scope) (f : Env) (binds : List DatPhrase) (number : ℕ) (made : Env)
    → new_types sc binds number made ≡ new_types (in_env f sc) binds number made
new_types_same sc f [] number made = refl
new_types_same sc f (bind ∷ binds) number made =
    where_same (is_some (entry bind.name.text (types made))) 40 sc f (name_at bind.name) _ _
    (new_types_same sc f binds (suc number)
    (with_type bind.name.text (own_type (own_name sc.home number (length bind.tyvars) true)) made))

optional_same : (sc : Scope) (f : Env) (ty : Option TyPhrase) → SameTypes sc.env f
    → infer_optional_ty sc ty ≡ infer_optional_ty (in_env f sc) ty
optional_same sc f None h = refl
optional_same sc f (Some ty) h = both_same (infer_ty sc ty) (infer_ty (in_env f sc) ty) _ _ (ty_same sc f ty h)
    (λ t. refl)

cons_same : (sc : Scope) (f : Env) (refused : List (List ℕ)) (cons : List ConPhrase) (before made : List Con)
    → SameTypes sc.env f → infer_cons sc refused cons before made ≡ infer_cons (in_env f sc) refused cons before made
cons_same sc f refused [] before made h = refl
cons_same sc f refused (con ∷ cons) before made h =
    where_same (is_one_of refused con.name.text) 34 sc f (name_at con.name) _ _
    (where_same (is_named con.name.text (before ++ made)) 40 sc f (name_at con.name) _ _
    (both_same (infer_optional_ty sc con.arg) (infer_optional_ty (in_env f sc) con.arg) _ _
    (optional_same sc f con.arg h) (λ arg.
    cons_same sc f refused cons before (made ++ (con.name.text, arg) ∷ []) h)))

dats_same : (sc : Scope) (f : Env) (refused : List (List ℕ)) (binds : List DatPhrase) (made : List Dat) (st : Progress)
    → SameTypes sc.env f → infer_dats sc refused binds made st ≡ infer_dats (in_env f sc) refused binds made st
dats_same sc f refused [] made st h = refl
dats_same sc f refused (bind ∷ binds) made st h =
    both_same (listed sc bind.tyvars [] st) (listed (in_env f sc) bind.tyvars [] st) _ _
    (listed_same sc f bind.tyvars [] st) (λ r.
    both_same (infer_cons (with_written_alone (as_written r.0) sc) refused bind.cons (cons_of made) [])
    (infer_cons (with_written_alone (as_written r.0) (in_env f sc)) refused bind.cons (cons_of made) []) _ _
    (cons_same (with_written_alone (as_written r.0) sc) f refused bind.cons (cons_of made) [] h) (λ cons.
    dats_same sc f refused binds
    (made ++ (let dat : Dat = record { name = bind.name.text; variables = r.0; cons = cons } in dat) ∷ []) r.1 h))

pub datatypes_same : (sc : Scope) (f : Env) (refused : List (List ℕ)) (binds : List DatPhrase) (st : Progress)
    → SameTypes sc.env f → datatypes_of sc refused binds st ≡ datatypes_of (in_env f sc) refused binds st
datatypes_same sc f refused binds st h =
    both_same (new_types sc binds st.names empty_env) (new_types (in_env f sc) binds st.names empty_env) _ _
    (new_types_same sc f binds st.names empty_env) (λ new.
    both_same (infer_dats (under new sc) refused binds [] st) (infer_dats (under new (in_env f sc)) refused binds []
    st) _ _
    (dats_same (under new sc) (modified_by f new) refused binds [] st
    (alike_modified AnyValue IsSame sc.env f new new h (types_itself new))) (λ r. refl))

-- ---- what is made is like itself

abbrev pub ItselfIn : Substitution → Env → Type 0
ItselfIn s e = SeenAlike s e e

pub value_itself : (s : Substitution) (v : ValueEntry) → is_variable_tree v.scheme.body ≡ false → ValuesAlike s v v
value_itself s v h = record { status = refl; marks = refl; body = refl; shaped = λ e. (h, h) }

pub types_are_itself : (s : Substitution) (sc : Scope) (binds : List TypPhrase) (made : Env) (st : Progress)
    → ItselfIn s made → Given (λ r. ItselfIn s r.0) (infer_types sc binds made st)
types_are_itself s sc [] made st h = h
types_are_itself s sc (bind ∷ binds) made st h =
    given_then (λ r. Unit {0}) (λ r. ItselfIn s r.0) (listed sc bind.tyvars [] st) _
    (given_any (listed sc bind.tyvars [] st)) (λ r k.
    given_where (λ v. ItselfIn s v.0) (is_some (entry bind.name.text (types made))) 40 sc (name_at bind.name) _
    (given_then (λ ty. Unit {0}) (λ v. ItselfIn s v.0) (infer_ty (with_written_alone (as_written r.0) sc) bind.ty) _
    (given_any (infer_ty (with_written_alone (as_written r.0) sc) bind.ty)) (λ ty l.
    let str : TypeStr = plain_type (type_function (numbers r.0) ty) in
    types_are_itself s sc binds (with_type bind.name.text str made) r.1
    (alike_with_type (ValuesAlike s) TypesSame bind.name.text str str made made (record { same = refl; shaped = tt })
    h))))

abbrev pub Shaped : TypeScheme → Type 0
Shaped σ = is_variable_tree σ.body ≡ false

con_shaped : (home : List ℕ) (first : ℕ) (choice : List Bool) (own : List (List ℕ × ℕ)) (of : Ty) (arg : Option Ty)
    → is_variable_tree (closed_over (numbers own) of) ≡ false
    → is_variable_tree (closed_over (numbers own) (con_ty home first choice of arg)) ≡ false
con_shaped home first choice own of None h = h
con_shaped home first choice own of (Some arg) h = refl

schemes_shaped : (home : List ℕ) (first : ℕ) (choice : List Bool) (own : List (List ℕ × ℕ)) (of : Ty) (cons : List Con)
    → is_variable_tree (closed_over (numbers own) of) ≡ false
    → AllRows Shaped (con_schemes home first choice own of cons)
schemes_shaped home first choice own of [] h = tt
schemes_shaped home first choice own of (con ∷ cons) h = rows_with Shaped con.0 _
    (con_schemes home first choice own of cons) (con_shaped home first choice own of con.1 h)
    (schemes_shaped home first choice own of cons h)

entries_shaped : (rows : Table TypeScheme) → AllRows Shaped rows → AllItems IsShaped (con_entries rows)
entries_shaped [] h = tt
entries_shaped (row ∷ rows) h = (h.0, entries_shaped rows h.1)

with_cons_itself : (s : Substitution) (cons : List ConEntry) (env : Env) → AllItems IsShaped cons → ItselfIn s env
    → ItselfIn s (with_cons cons env)
with_cons_itself s [] env h k = k
with_cons_itself s (con ∷ cons) env h k =
    let value : ValueEntry = record { status = status.Constructor; scheme = con.scheme } in
    with_cons_itself s cons (with_value con.name value env) h.1
    (alike_with_value (ValuesAlike s) TypesSame con.name value value env env (value_itself s value h.0) k)

pub datatype_itself : (s : Substitution) (name : List ℕ) (str : TypeStr) (env : Env) → AllItems IsShaped str.cons
    → ItselfIn s env → ItselfIn s (with_datatype name str env)
datatype_itself s name str env h k = with_cons_itself s str.cons (with_type name str env) h
    (alike_with_type (ValuesAlike s) TypesSame name str str env env (record { same = refl; shaped = h }) k)

made_types_itself : (s : Substitution) (home : List ℕ) (first : ℕ) (choice : List Bool) (number : ℕ) (dats : List Dat)
    (env : Env) → ItselfIn s env → ItselfIn s (made_types home first choice number dats env)
made_types_itself s home first choice number [] env k = k
made_types_itself s home first choice number (dat ∷ dats) env k =
    let name : TyName = own_name home number (length dat.variables) (get_or choice (number - first) false) in
    let of : Ty = own_ty name (numbers dat.variables) in
    let str : TypeStr = datatype_str home first choice dat.variables of dat.cons in
    made_types_itself s home first choice (suc number) dats (with_datatype dat.name str env)
    (datatype_itself s dat.name str env
    (entries_shaped (con_schemes home first choice dat.variables of dat.cons)
    (schemes_shaped home first choice dat.variables of dat.cons refl)) k)

pub datatypes_itself : (s : Substitution) (sc : Scope) (refused : List (List ℕ)) (binds : List DatPhrase)
    (st : Progress)
    → Given (λ r. ItselfIn s r.0) (datatypes_of sc refused binds st)
datatypes_itself s sc refused binds st =
    given_then (λ new. Unit {0}) (λ r. ItselfIn s r.0) (new_types sc binds st.names empty_env) _
    (given_any (new_types sc binds st.names empty_env)) (λ new k.
    given_then (λ r. Unit {0}) (λ v. ItselfIn s v.0) (infer_dats (under new sc) refused binds [] st) _
    (given_any (infer_dats (under new sc) refused binds [] st)) (λ r l.
    made_types_itself s sc.home st.names (equality_choice sc.home st.names r.0) st.names r.0 empty_env
    (alike_nothing (ValuesAlike s) TypesSame)))
