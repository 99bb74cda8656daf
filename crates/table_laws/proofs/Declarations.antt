-- The tables of what declarations make rise.
use Rattle.std.proofs.Common.{◌≡◌, ℕ, suc, List, [], ◌∷◌, ◌++◌, get_or, ◌-◌, length, sym, subst, ap, refl, Option, Some, None, Bool, false}
use Rattle.std.specs.Option.{is_some}
use Rattle.sml_trees.specs.declared.name.At.{At}
use Rattle.sml_trees.specs.declared.name.LongName.{LongName}
use Rattle.semantic_objects.specs.declared.name.TyName.{TyName}
use Rattle.semantic_objects.specs.declared.entry.ConEntry.{ConEntry}
use Rattle.semantic_objects.specs.declared.entry.TypeStr.{TypeStr}
use Rattle.semantic_objects.specs.declared.entry.ValueEntry.{ValueEntry}
use Rattle.semantic_objects.specs.declared.entry.VidStatus.TheVariants as status
use Rattle.semantic_objects.specs.Tables.{Table, IsTable, entry}
use Rattle.semantic_objects.specs.Trees.{TypeScheme}
use Rattle.semantic_objects.specs.Environments.{Env, structures, types, values, empty_env, with_type, with_value, modified_by}
use Rattle.semantic_objects.proofs.Promised.{sets_entries}
use Rattle.unification.specs.Types.{Ty, State}
use Rattle.bare_phrases.specs.Phrases.{TypPhrase, DatPhrase, ExPhrase, DecPhrase, DecPhrases}
use Rattle.static_semantics.specs.BasicTypes.{is_one_of, reserved_constructors}
use Rattle.static_semantics.specs.Inferring.{Progress, Scope, under, with_written, with_written_alone, Answer, ◌>>=◌, gives, name_at, known, found_at, Bound, under_bound, is_kept, has_too_large, sized_dec}
use Rattle.static_semantics.specs.TypeInference.{infer_ty, listed, numbers, as_written, type_function, plain_type, infer_types}
use Rattle.static_semantics.specs.DatatypeInference.{own_name, own_ty, new_types, Con, Dat, infer_dats, equality_choice, con_schemes, con_entries, with_cons, with_datatype, datatype_str, made_types, datatypes_of, infer_replication, exception_of, infer_exceptions, exceptions_of}
use Rattle.static_semantics.specs.CoreInference.{own_variables, Group, infer_rec_pats, rec_bound, rec_groups, closed_where, closed_variables, closed_groups, left_over, none_left, closed_val, infer_open, infer_binds, infer_rec_exps, infer_dec, infer_decs}
use Rattle.static_semantics.specs.Holding.{Given}
use Rattle.static_semantics.proofs.Holding.{given_then, given_where, given_known}
use Rattle.inference_laws.proofs.SameTypes.{given_any}
use Rattle.table_laws.specs.Rising.{con_table, RisingType, RisingEnv}
use Rattle.table_laws.specs.Promises.{KeepsTables}
use Rattle.table_laws.proofs.Tables.{rising_nothing, rising_with_type, rising_with_value, rising_modified, type_found, structure_found}

abbrev DecRises : Env × Progress → Type 0
DecRises r = RisingEnv r.0

-- whatever is given on the way
pub always : {A B : Type 0} (Q : B → Type 0) (m : Answer A) (next : A → Answer B) → ((x : A) → Given Q (next x))
    → Given Q (m >>= next)
always Q m next h = given_then (λ x. Unit {0}) Q m next (given_any m) (λ x k. h x)

-- ---- values

variables_rise : (closes : Bool) (kept : ℕ → Bool) (s : State) (rows : Bound) (env : Env) → RisingEnv env
    → RisingEnv (closed_variables closes kept s rows env)
variables_rise closes kept s [] env h = h
variables_rise closes kept s (row ∷ rows) env h =
    let value : ValueEntry = record { status = status.Variable; scheme = closed_where closes kept s row.1 } in
    variables_rise closes kept s rows (with_value row.0 value env) (rising_with_value row.0 value env h)

groups_rise : (kept : ℕ → Bool) (s : State) (groups : List Group) (env : Env) → RisingEnv env
    → RisingEnv (closed_groups kept s groups env)
groups_rise kept s [] env h = h
groups_rise kept s (group ∷ groups) env h = groups_rise kept s groups (closed_variables group.0 kept s group.1 env)
    (variables_rise group.0 kept s group.1 env h)

left_in : {A : Type 0} (R : A → Type 0) (sc : Scope) (at : At) (x : A) (o : Option (List ℕ)) → R x
    → Given R (none_left sc at x o)
left_in R sc at x None h = h
left_in R sc at x (Some text) h = tt

closed_rises : (sc : Scope) (at : At) (kept : ℕ → Bool) (own : List (List ℕ × ℕ)) (groups : List Group)
    (st : Progress) → Given DecRises (closed_val sc at kept own groups st)
closed_rises sc at kept own groups st = left_in DecRises sc at (closed_groups kept st.types groups empty_env, st)
    (left_over kept st.types (closed_groups kept st.types groups empty_env) own)
    (groups_rise kept st.types groups empty_env rising_nothing)

-- ---- types

types_rise : (sc : Scope) (binds : List TypPhrase) (made : Env) (st : Progress) → RisingEnv made
    → Given DecRises (infer_types sc binds made st)
types_rise sc [] made st h = h
types_rise sc (bind ∷ binds) made st h =
    always DecRises (listed sc bind.tyvars [] st) _ (λ r.
    given_where DecRises (is_some (entry bind.name.text (types made))) 40 sc (name_at bind.name) _
    (always DecRises (infer_ty (with_written_alone (as_written r.0) sc) bind.ty) _ (λ ty.
    let str : TypeStr = plain_type (type_function (numbers r.0) ty) in
    types_rise sc binds (with_type bind.name.text str made) r.1
    (rising_with_type bind.name.text str made refl h))))

-- ---- datatypes

schemes_rise : (home : List ℕ) (first : ℕ) (choice : List Bool) (own : List (List ℕ × ℕ)) (of : Ty) (cons : List Con)
    → IsTable (con_schemes home first choice own of cons)
schemes_rise home first choice own of [] = refl
schemes_rise home first choice own of (con ∷ cons) = (sets_entries TypeScheme).kept con.0 _
    (con_schemes home first choice own of cons) (schemes_rise home first choice own of cons)

entries_back : (rows : Table TypeScheme) → con_table (con_entries rows) ≡ rows
entries_back [] = refl
entries_back (row ∷ rows) = ap (λ z. row ∷ z) (entries_back rows)

str_rises : (home : List ℕ) (first : ℕ) (choice : List Bool) (own : List (List ℕ × ℕ)) (of : Ty) (cons : List Con)
    → RisingType (datatype_str home first choice own of cons)
str_rises home first choice own of cons =
    subst IsTable (sym (entries_back (con_schemes home first choice own of cons)))
    (schemes_rise home first choice own of cons)

pub with_cons_rise : (cons : List ConEntry) (env : Env) → RisingEnv env → RisingEnv (with_cons cons env)
with_cons_rise [] env h = h
with_cons_rise (con ∷ cons) env h =
    let value : ValueEntry = record { status = status.Constructor; scheme = con.scheme } in
    with_cons_rise cons (with_value con.name value env) (rising_with_value con.name value env h)

with_datatype_rises : (name : List ℕ) (str : TypeStr) (env : Env) → RisingType str → RisingEnv env
    → RisingEnv (with_datatype name str env)
with_datatype_rises name str env h k =
    with_cons_rise str.cons (with_type name str env) (rising_with_type name str env h k)

made_rise : (home : List ℕ) (first : ℕ) (choice : List Bool) (number : ℕ) (dats : List Dat) (env : Env)
    → RisingEnv env → RisingEnv (made_types home first choice number dats env)
made_rise home first choice number [] env h = h
made_rise home first choice number (dat ∷ dats) env h =
    let name : TyName = own_name home number (length dat.variables) (get_or choice (number - first) false) in
    let of : Ty = own_ty name (numbers dat.variables) in
    made_rise home first choice (suc number) dats
    (with_datatype dat.name (datatype_str home first choice dat.variables of dat.cons) env)
    (with_datatype_rises dat.name (datatype_str home first choice dat.variables of dat.cons) env
    (str_rises home first choice dat.variables of dat.cons) h)

pub datatypes_rise : (sc : Scope) (refused : List (List ℕ)) (binds : List DatPhrase) (st : Progress)
    → Given DecRises (datatypes_of sc refused binds st)
datatypes_rise sc refused binds st =
    always DecRises (new_types sc binds st.names empty_env) _ (λ new.
    always DecRises (infer_dats (under new sc) refused binds [] st) _ (λ r.
    made_rise sc.home st.names (equality_choice sc.home st.names r.0) st.names r.0 empty_env rising_nothing))

pub replication_rises : (sc : Scope) (name : Rattle.sml_trees.specs.declared.name.Name.Name) (long : LongName)
    → RisingEnv sc.env → Given RisingEnv (infer_replication sc name long)
replication_rises sc name long h =
    given_then RisingType RisingEnv (known sc long (found_at types long.parts sc.env)) _
    (given_known RisingType sc long (found_at types long.parts sc.env) (type_found long.parts sc.env h))
    (λ str k. with_datatype_rises name.text str empty_env k rising_nothing)

-- ---- exceptions

exceptions_after : (sc : Scope) (binds : List ExPhrase) (made : Env) → RisingEnv made
    → Given RisingEnv (infer_exceptions sc binds made)
exceptions_after sc [] made h = h
exceptions_after sc (bind ∷ binds) made h =
    given_where RisingEnv (is_one_of reserved_constructors bind.name.text) 34 sc (name_at bind.name) _
    (given_where RisingEnv (is_some (entry bind.name.text (values made))) 40 sc (name_at bind.name) _
    (always RisingEnv (exception_of sc bind.body) _ (λ value.
    exceptions_after sc binds (with_value bind.name.text value made)
    (rising_with_value bind.name.text value made h))))

pub exceptions_rise : (sc : Scope) (binds : List ExPhrase) → Given RisingEnv (exceptions_of sc binds)
exceptions_rise sc binds = exceptions_after sc binds empty_env rising_nothing

-- ---- declarations

open_rises : (sc : Scope) (longs : List LongName) (made : Env) → RisingEnv sc.env → RisingEnv made
    → Given RisingEnv (infer_open sc longs made)
open_rises sc [] made h k = k
open_rises sc (long ∷ longs) made h k =
    given_then RisingEnv RisingEnv (known sc long (found_at structures long.parts sc.env)) _
    (given_known RisingEnv sc long (found_at structures long.parts sc.env) (structure_found long.parts sc.env h))
    (λ env l. open_rises sc longs (modified_by made env) h (rising_modified made env k l))

pub sized_rises : (sc : Scope) (at : At) (r : Env × Progress) → DecRises r → Given DecRises (sized_dec sc at r)
sized_rises sc at r h = given_where DecRises (has_too_large r.1.types.stands r.0) 38 sc at (λ u. gives r) h

mutual
  pub dec_rises : (depth : ℕ) (sc : Scope) (dec : DecPhrase) (st : Progress) → RisingEnv sc.env
      → Given DecRises (infer_dec depth sc dec st)
  dec_rises depth sc (DecPhrase.Val tyvars rules recs at) st h =
      always DecRises (own_variables sc tyvars rules recs st) _ (λ own.
      let inner : Scope = with_written (as_written own.0) sc in
      always DecRises (infer_binds depth inner rules [] [] own.1) _ (λ b.
      always DecRises (infer_rec_pats depth inner recs [] b.0 b.2) _ (λ r.
      always DecRises (infer_rec_exps depth (under_bound (rec_bound r.0) inner) recs r.0 r.1) _ (λ u.
      given_then DecRises DecRises
      (closed_val sc at (is_kept sc u.types.stands) own.0 (b.1 ++ rec_groups sc.env recs r.0) u) _
      (closed_rises sc at (is_kept sc u.types.stands) own.0 (b.1 ++ rec_groups sc.env recs r.0) u)
      (λ v k. sized_rises sc at v k)))))
  dec_rises depth sc (DecPhrase.Types binds at) st h =
      given_then DecRises DecRises (infer_types sc binds empty_env st) _ (types_rise sc binds empty_env st
      rising_nothing) (λ r k. sized_rises sc at r k)
  dec_rises depth sc (DecPhrase.Datatypes binds at) st h =
      given_then DecRises DecRises (datatypes_of sc reserved_constructors binds st) _
      (datatypes_rise sc reserved_constructors binds st) (λ r k. sized_rises sc at r k)
  dec_rises depth sc (DecPhrase.Replication name long at) st h =
      given_then RisingEnv DecRises (infer_replication sc name long) _ (replication_rises sc name long h)
      (λ made k. sized_rises sc at (made, st) k)
  dec_rises depth sc (DecPhrase.Exceptions binds at) st h =
      given_then RisingEnv DecRises (exceptions_of sc binds) _ (exceptions_rise sc binds)
      (λ made k. sized_rises sc at (made, st) k)
  dec_rises depth sc (DecPhrase.Local hidden shown at) st h =
      given_then DecRises DecRises (infer_dec depth sc hidden st) _ (dec_rises depth sc hidden st h) (λ d k.
      given_then DecRises DecRises (infer_dec depth (under d.0 sc) shown d.1) _
      (dec_rises depth (under d.0 sc) shown d.1 (rising_modified sc.env d.0 h k)) (λ r l. sized_rises sc at r l))
  dec_rises depth sc (DecPhrase.Open longs at) st h =
      given_then RisingEnv DecRises (infer_open sc longs empty_env) _ (open_rises sc longs empty_env h rising_nothing)
      (λ made k. sized_rises sc at (made, st) k)
  dec_rises depth sc (DecPhrase.Sequence decs at) st h = decs_rise depth sc decs st h
  dec_rises depth sc (DecPhrase.Structures binds at) st h = tt

  decs_rise : (depth : ℕ) (sc : Scope) (decs : DecPhrases) (st : Progress) → RisingEnv sc.env
      → Given DecRises (infer_decs depth sc decs st)
  decs_rise depth sc DecPhrases.EndOfDecs st h = rising_nothing
  decs_rise depth sc (DecPhrases.Dec dec rest) st h =
      given_then DecRises DecRises (infer_dec depth sc dec st) _ (dec_rises depth sc dec st h) (λ d k.
      given_then DecRises DecRises (infer_decs depth (under d.0 sc) rest d.1) _
      (decs_rise depth (under d.0 sc) rest d.1 (rising_modified sc.env d.0 h k))
      (λ v l. rising_modified d.0 v.0 k l))

pub keeps_tables : KeepsTables
keeps_tables = record {
  dec = λ depth sc dec st h. dec_rises depth sc dec st h;
  datatypes = λ sc refused binds st. datatypes_rise sc refused binds st;
  exceptions = λ sc binds. exceptions_rise sc binds;
}
