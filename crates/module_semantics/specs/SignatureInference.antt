-- What signature expressions and specifications mean, with the first diagnostic. The Definition, rules 62 to 84.
--
-- A signature is inferred open: what it binds are names of the unit, with numbers from the next one on. It is finished
-- by `closed`. Signatures have no type of a limited size.
--
-- The order in which parts are inferred and checks asked. Each check is named by its diagnostic. 40 is asked of a name
-- that the signature specifies already, whatever specified it; structures, types and values are three kinds of names.
-- Signature expressions:
--   `sig spec end`: its specifications in order, each in the scope of all before it
--   a name: 30 at it; new names for the bound ones, in their order
--   `sig where type tyvars long = ty`: the signature; 40 at a type variable that stands in the list before; 30 at the
--     long name, which is looked up in the signature alone; the type, in the scope around the signature, under its list
--     alone; then at the first word of the whole: 35 where the list has another length than the arity of what the long
--     name stands for; 33 where that is a type name alone, flexible or not, which admits equality, and the new type
--     function doesn't; 37 with the long name where it isn't a flexible name alone
-- Specifications:
--   `val`: for each its type under its own type variables, 40 at its name
--   `type` and `eqtype`: for each 40 at a type variable that stands in the list before, then 40 at its name
--   `datatype`: all as in the core, though none of its names are refused; then for each of the types 40 at its name and
--     for each of its constructors 40 at the constructor's name
--   replication: 30 at the name that is copied; 40 at its name, for the type and for any of the constructors
--   `exception`: for each its type, in which no type variable is in scope, 40 at its name
--   `structure`: for each its signature, in the scope before the whole specification, 40 at its name
--   `include`: the signature, 40 at the whole
use Rattle.std.specs.Prelude.{ℕ, List, [], ◌∷◌, ◌++◌, filter, length, map, option_to_list, Option, Some, None, Err, Bool, true, false, ◌&&◌, ◌||◌, not, cond, eqb}
use Rattle.std.specs.Option.{is_some}
use Rattle.std.specs.List.{join_with_byte, list_any}
use Rattle.sml_trees.specs.declared.name.At.{At}
use Rattle.sml_trees.specs.declared.name.Name.{Name}
use Rattle.sml_trees.specs.declared.name.LongName.{LongName}
use Rattle.semantic_objects.specs.declared.name.TyName.{TyName}
use Rattle.semantic_objects.specs.declared.entry.TypeFn.{TypeFn}
use Rattle.semantic_objects.specs.declared.entry.TypeStr.{TypeStr}
use Rattle.semantic_objects.specs.declared.entry.ValueEntry.{ValueEntry}
use Rattle.semantic_objects.specs.declared.entry.VidStatus.TheVariants as status
use Rattle.semantic_objects.specs.Symbols.{same_name}
use Rattle.semantic_objects.specs.Tables.{Table, entry}
use Rattle.semantic_objects.specs.Environments.{Env, Signature, structures, types, values, empty_env, modified_by, with_structure, with_type, with_value}
use Rattle.unification.specs.Types.{Ty}
use Rattle.unification.specs.Closing.{closed_over}
use Rattle.bare_phrases.specs.Phrases.{TyPhrase, ConPhrase, DatPhrase}
use Rattle.realisation.specs.Names.{is_listed}
use Rattle.realisation.specs.Realised.{of_rows, realised, function_admits}
use Rattle.static_semantics.specs.BasicTypes.{exn_ty, arrow_ty, is_equality_variable}
use Rattle.static_semantics.specs.Inferring.{Progress, Scope, under, with_written_alone, Answer, ◌>>=◌, gives, diag_at, refuses_where, name_at, known, found_at}
use Rattle.static_semantics.specs.WrittenVariables.{tyvars_of_ty, by_place, texts_once}
use Rattle.static_semantics.specs.TypeInference.{infer_ty, listed, numbers, as_written, type_function}
use Rattle.static_semantics.specs.DatatypeInference.{own_name, own_type, after_names, infer_optional_ty, datatypes_of, infer_replication, exception_entry}
use Rattle.static_semantics.specs.CoreInference.{implicit}
use Rattle.module_semantics.specs.SigPhrases.{ValPhrase, TypeDescPhrase, SigPhrase, SpecPhrase, SigBinds, SpecPhrases}
use Rattle.module_semantics.specs.SignatureNames.{name_alone, opened, closed, empty_signature, also_bound}

-- ---- names that are specified twice

abbrev pub shares : {A : Type 0} → Table A → Table A → Bool
shares rows table = list_any (λ row. is_some (entry row.0 table)) rows

-- a structure, a type or a value of the one environment has the name of one of the other
abbrev pub have_common : Env → Env → Bool
have_common part env = shares (structures part) (structures env)
    || (shares (types part) (types env) || shares (values part) (values env))

-- what is specified so far, with more: 40 where it has a name twice
abbrev pub specified : Scope → At → Env → Signature → Answer Signature
specified sc at part made =
    refuses_where (have_common part made.env) 40 sc at
    >>= λ u. gives (let sig : Signature = record { bound = made.bound; env = modified_by made.env part } in sig)

-- ---- `val`, `type`, `eqtype`, `exception`

-- the type variables of a type by their first places in the source
abbrev pub variables_of : TyPhrase → Progress → List (List ℕ × ℕ) × Progress
variables_of ty st = implicit [] (texts_once [] (by_place (tyvars_of_ty ty))) [] st

abbrev pub val_entry : List (List ℕ × ℕ) → Ty → ValueEntry
val_entry own ty = record {
  status = status.Variable;
  scheme = record { marks = map (λ row. is_equality_variable row.0) own; body = closed_over (numbers own) ty };
}

abbrev pub infer_vals : Scope → List ValPhrase → Signature → Progress → Answer (Signature × Progress)
infer_vals sc [] made st = gives (made, st)
infer_vals sc (desc ∷ descs) made st =
    infer_ty (with_written_alone (as_written (variables_of desc.ty st).0) sc) desc.ty
    >>= λ ty. specified sc (name_at desc.name)
    (with_value desc.name.text (val_entry (variables_of desc.ty st).0 ty) empty_env) made
    >>= λ sig. infer_vals sc descs sig (variables_of desc.ty st).1

-- types of new names, which admit equality or don't
abbrev pub infer_type_descs : Scope → Bool → List TypeDescPhrase → Signature → Progress → Answer (Signature × Progress)
infer_type_descs sc eq [] made st = gives (made, st)
infer_type_descs sc eq (desc ∷ descs) made st =
    listed sc desc.tyvars [] st
    >>= λ r. specified sc (name_at desc.name)
    (with_type desc.name.text (own_type (own_name sc.home st.names (length desc.tyvars) eq)) empty_env)
    (also_bound (own_name sc.home st.names (length desc.tyvars) eq ∷ []) made)
    >>= λ sig. infer_type_descs sc eq descs sig (after_names 1 r.1)

abbrev pub exception_ty : Option Ty → Ty
exception_ty None = exn_ty
exception_ty (Some arg) = arrow_ty arg exn_ty

abbrev pub infer_exception_specs : Scope → List ConPhrase → Signature → Answer Signature
infer_exception_specs sc [] made = gives made
infer_exception_specs sc (con ∷ cons) made =
    infer_optional_ty (with_written_alone [] sc) con.arg
    >>= λ arg. specified sc (name_at con.name)
    (with_value con.name.text (exception_entry (exception_ty arg)) empty_env) made
    >>= λ sig. infer_exception_specs sc cons sig

-- ---- `datatype`

-- an environment with a type of another one alone, with a value alone
abbrev pub type_alone : List ℕ → Option TypeStr → Env
type_alone name None = empty_env
type_alone name (Some str) = with_type name str empty_env

abbrev pub value_alone : List ℕ → Option ValueEntry → Env
value_alone name None = empty_env
value_alone name (Some value) = with_value name value empty_env

abbrev pub specified_cons : Scope → List ConPhrase → Env → Signature → Answer Signature
specified_cons sc [] new made = gives made
specified_cons sc (con ∷ cons) new made =
    specified sc (name_at con.name) (value_alone con.name.text (entry con.name.text (values new))) made
    >>= λ sig. specified_cons sc cons new sig

abbrev pub specified_types : Scope → List DatPhrase → Env → Signature → Answer Signature
specified_types sc [] new made = gives made
specified_types sc (bind ∷ binds) new made =
    specified sc (name_at bind.name) (type_alone bind.name.text (entry bind.name.text (types new))) made
    >>= λ with. specified_cons sc bind.cons new with
    >>= λ sig. specified_types sc binds new sig

-- the names that the types of a `datatype` have, in written order
abbrev pub name_of_type : Option TypeStr → List TyName
name_of_type None = []
name_of_type (Some str) = option_to_list (name_alone str.function)

abbrev pub names_of_types : List DatPhrase → Env → List TyName
names_of_types [] new = []
names_of_types (bind ∷ binds) new = name_of_type (entry bind.name.text (types new)) ++ names_of_types binds new

abbrev pub infer_datatype_specs : Scope → List DatPhrase → Signature → Progress → Answer (Signature × Progress)
infer_datatype_specs sc binds made st =
    datatypes_of sc [] binds st
    >>= λ r. specified_types sc binds r.0 (also_bound (names_of_types binds r.0) made)
    >>= λ sig. gives (sig, r.1)

-- ---- `where type`

-- the name that is replaced admits equality, and the type function doesn't
abbrev pub lacks_equality : Option TyName → TypeFn → Bool
lacks_equality None by = false
lacks_equality (Some name) by = name.eq && not (function_admits (λ n. false) by)

-- a signature with a type function in place of one of its flexible names
abbrev pub with_function : TyName → TypeFn → Signature → Signature
with_function name by sig = record {
  bound = filter (λ m. not (same_name name m)) sig.bound;
  env = realised (of_rows ((name, by) ∷ [])) sig.env;
}

abbrev pub refuses_long : {A : Type 0} → Scope → At → LongName → Answer A
refuses_long sc at long = Some (Err (diag_at 37 sc at (join_with_byte 46 long.parts ∷ [])))

abbrev pub replaced : Scope → At → LongName → TypeFn → Signature → Option TyName → Answer Signature
replaced sc at long by sig None = refuses_long sc at long
replaced sc at long by sig (Some name) =
    cond (is_listed name sig.bound) (gives (with_function name by sig)) (refuses_long sc at long)

abbrev pub where_type : Scope → At → LongName → TypeFn → TypeFn → Signature → Answer Signature
where_type sc at long old by sig =
    refuses_where (not (eqb by.arity old.arity)) 35 sc at
    >>= λ u. refuses_where (lacks_equality (name_alone old) by) 33 sc at
    >>= λ v. replaced sc at long by sig (name_alone old)

-- ---- signatures and specifications, with the signatures that have names

-- a name as a long one
abbrev pub single : Name → LongName
single name = record { parts = name.text ∷ []; line = name.line; col = name.col }

abbrev mutual
  pub infer_sig : Table Signature → Scope → SigPhrase → Progress → Answer (Signature × Progress)
  infer_sig sigs sc (SigPhrase.Sig spec at) st = infer_spec sigs sc spec empty_signature st
  infer_sig sigs sc (SigPhrase.Named name at) st =
      known sc (single name) (entry name.text sigs) >>= λ sig. gives (opened sc.home sig st)
  infer_sig sigs sc (SigPhrase.Where sig tyvars long ty at) st =
      infer_sig sigs sc sig st
      >>= λ r. listed sc tyvars [] r.1
      >>= λ own. known sc long (found_at types long.parts r.0.env)
      >>= λ str. infer_ty (with_written_alone (as_written own.0) sc) ty
      >>= λ t. where_type sc at long str.function (type_function (numbers own.0) t) r.0
      >>= λ with. gives (with, own.1)

  -- a specification in a scope, after what the signature specifies so far
  pub infer_spec : Table Signature → Scope → SpecPhrase → Signature → Progress → Answer (Signature × Progress)
  infer_spec sigs sc (SpecPhrase.Vals descs at) made st = infer_vals sc descs made st
  infer_spec sigs sc (SpecPhrase.Types descs at) made st = infer_type_descs sc false descs made st
  infer_spec sigs sc (SpecPhrase.Eqtypes descs at) made st = infer_type_descs sc true descs made st
  infer_spec sigs sc (SpecPhrase.Datatypes binds at) made st = infer_datatype_specs sc binds made st
  infer_spec sigs sc (SpecPhrase.Replication name long at) made st =
      infer_replication sc name long
      >>= λ part. specified sc (name_at name) part made
      >>= λ sig. gives (sig, st)
  infer_spec sigs sc (SpecPhrase.Exceptions cons at) made st =
      infer_exception_specs sc cons made >>= λ sig. gives (sig, st)
  infer_spec sigs sc (SpecPhrase.Structures binds at) made st = infer_structure_specs sigs sc binds made st
  infer_spec sigs sc (SpecPhrase.Include sig at) made st =
      infer_sig sigs sc sig st
      >>= λ r. specified sc at r.0.env (also_bound r.0.bound made)
      >>= λ with. gives (with, r.1)
  infer_spec sigs sc (SpecPhrase.Sequence specs at) made st = infer_specs sigs sc specs made st

  -- structures in the scope before all of them
  pub infer_structure_specs : Table Signature → Scope → SigBinds → Signature → Progress → Answer (Signature × Progress)
  infer_structure_specs sigs sc SigBinds.EndOfBinds made st = gives (made, st)
  infer_structure_specs sigs sc (SigBinds.Bind name sig rest) made st =
      infer_sig sigs sc sig st
      >>= λ r. specified sc (name_at name) (with_structure name.text r.0.env empty_env) (also_bound r.0.bound made)
      >>= λ with. infer_structure_specs sigs sc rest with r.1

  -- specifications in order, each in the scope with what the signature specifies so far
  pub infer_specs : Table Signature → Scope → SpecPhrases → Signature → Progress → Answer (Signature × Progress)
  infer_specs sigs sc SpecPhrases.EndOfSpecs made st = gives (made, st)
  infer_specs sigs sc (SpecPhrases.Next spec rest) made st =
      infer_spec sigs (under made.env sc) spec made st >>= λ r. infer_specs sigs sc rest r.0 r.1

-- a signature expression by itself, with bound names
abbrev pub signature_of : Table Signature → Scope → SigPhrase → Progress → Answer (Signature × Progress)
signature_of sigs sc sig st = infer_sig sigs sc sig st >>= λ r. gives (closed r.0, r.1)
