-- What a signature specifies holds no type variable, where none stands in its scope.
use Rattle.std.proofs.Common.{ℕ, List, [], ◌∷◌, length, Option, Some, None, Bool, true, false, not, cond}
use Rattle.std.specs.Prelude.{eqb}
use Rattle.sml_trees.specs.declared.name.At.{At}
use Rattle.sml_trees.specs.declared.name.LongName.{LongName}
use Rattle.semantic_objects.specs.declared.name.TyName.{TyName}
use Rattle.semantic_objects.specs.declared.entry.TypeFn.{TypeFn}
use Rattle.semantic_objects.specs.declared.entry.TypeStr.{TypeStr}
use Rattle.semantic_objects.specs.declared.entry.ValueEntry.{ValueEntry}
use Rattle.semantic_objects.specs.Symbols.{same_name}
use Rattle.semantic_objects.specs.Tables.{Table, entry, with_entry}
use Rattle.semantic_objects.specs.Environments.{Env, Signature, structures, types, values, empty_env, with_structure, with_type, with_value}
use Rattle.unification.specs.Types.{Ty}
use Rattle.unification.specs.Touching.{IsWithin}
use Rattle.bare_phrases.specs.Phrases.{ConPhrase, DatPhrase}
use Rattle.realisation.specs.Names.{is_listed}
use Rattle.realisation.specs.Realised.{of_rows}
use Rattle.static_semantics.specs.BasicTypes.{exn_ty}
use Rattle.static_semantics.specs.Inferring.{Progress, Scope, under, with_written_alone, gives, name_at, known, found_at}
use Rattle.static_semantics.specs.TypeInference.{infer_ty, listed, numbers, as_written, type_function}
use Rattle.static_semantics.specs.DatatypeInference.{own_name, own_type, after_names, infer_optional_ty, datatypes_of, infer_replication, exception_entry}
use Rattle.static_semantics.specs.Holding.{Given, IfSome, AllRows, TypeHas, ValueHas, EnvHas}
use Rattle.static_semantics.proofs.Holding.{given_then, given_where, given_known, rows_found, rows_with, has_structures, has_types, has_values, has_nothing, has_with_type, has_with_value, has_modified, table_structures}
use Rattle.module_semantics.specs.SigPhrases.{ValPhrase, TypeDescPhrase, SigPhrase, SpecPhrase, SigBinds, SpecPhrases}
use Rattle.module_semantics.specs.SignatureNames.{name_alone, rows_between, unit_names, bound_names, opened, empty_signature, also_bound}
use Rattle.module_semantics.specs.SignatureInference.{have_common, specified, variables_of, val_entry, infer_vals, infer_type_descs, exception_ty, infer_exception_specs, type_alone, value_alone, specified_cons, specified_types, names_of_types, infer_datatype_specs, lacks_equality, with_function, refuses_long, replaced, where_type, single, infer_sig, infer_spec, infer_structure_specs, infer_specs, signature_of}
use Rattle.unit_semantics.specs.Promises.{IsClosedScheme, IsClosedFunction, IsClosedEnv}
use Rattle.unit_semantics.proofs.Answers.{always}
use Rattle.unit_semantics.proofs.Closed.{PutsClosed, realised_closed, puts_names, first_closed}
use Rattle.unit_semantics.proofs.TypesClosed.{Among, within_arrow, ty_within, optional_within, closed_none, written_among, own_type_closed, ClosedMade, datatypes_closed, replication_closed}

abbrev pub SigIn : Signature → Type 0
SigIn sig = IsClosedEnv sig.env

abbrev pub OutIn : Signature × Progress → Type 0
OutIn r = SigIn r.0

nothing : IsClosedEnv empty_env
nothing = has_nothing IsClosedScheme IsClosedFunction

specified_closed : (sc : Scope) (at : At) (part : Env) (made : Signature) → IsClosedEnv part → SigIn made
    → Given SigIn (specified sc at part made)
specified_closed sc at part made h k = given_where SigIn (have_common part made.env) 40 sc at _
    (has_modified IsClosedScheme IsClosedFunction made.env part k h)

pub one_structure : (name : List ℕ) (x env : Env) → IsClosedEnv x → IsClosedEnv env
    → IsClosedEnv (with_structure name x env)
one_structure name x env h k = (
  table_structures IsClosedScheme IsClosedFunction (with_entry name x (structures env))
      (rows_with (EnvHas IsClosedScheme IsClosedFunction) name x (structures env) h
      (has_structures IsClosedScheme IsClosedFunction env k)),
  has_types IsClosedScheme IsClosedFunction env k,
  has_values IsClosedScheme IsClosedFunction env k,
)

one_value : (name : List ℕ) (value : ValueEntry) → IsClosedScheme value.scheme
    → IsClosedEnv (with_value name value empty_env)
one_value name value h = has_with_value IsClosedScheme IsClosedFunction name value empty_env h nothing

one_type : (name : List ℕ) (str : TypeStr) → TypeHas IsClosedScheme IsClosedFunction str
    → IsClosedEnv (with_type name str empty_env)
one_type name str h = has_with_type IsClosedScheme IsClosedFunction name str empty_env h nothing

-- ---- bindings of specifications

vals_closed : (sc : Scope) (descs : List ValPhrase) (made : Signature) (st : Progress) → IsClosedEnv sc.env
    → SigIn made → Given OutIn (infer_vals sc descs made st)
vals_closed sc [] made st h k = k
vals_closed sc (desc ∷ descs) made st h k =
    let own : List (List ℕ × ℕ) = (variables_of desc.ty st).0 in
    given_then (IsWithin (Among (numbers own))) OutIn (infer_ty (with_written_alone (as_written own) sc) desc.ty) _
    (ty_within (Among (numbers own)) (with_written_alone (as_written own) sc) desc.ty h
    (written_among own (numbers own) (λ n e. e))) (λ ty l.
    given_then SigIn OutIn
    (specified sc (name_at desc.name) (with_value desc.name.text (val_entry own ty) empty_env) made) _
    (specified_closed sc (name_at desc.name) (with_value desc.name.text (val_entry own ty) empty_env) made
    (one_value desc.name.text (val_entry own ty) (closed_none (numbers own) ty l)) k) (λ sig m.
    vals_closed sc descs sig (variables_of desc.ty st).1 h m))

type_descs_closed : (sc : Scope) (eq : Bool) (descs : List TypeDescPhrase) (made : Signature) (st : Progress)
    → SigIn made → Given OutIn (infer_type_descs sc eq descs made st)
type_descs_closed sc eq [] made st k = k
type_descs_closed sc eq (desc ∷ descs) made st k =
    let name : TyName = own_name sc.home st.names (length desc.tyvars) eq in
    always OutIn (listed sc desc.tyvars [] st) _ (λ r.
    given_then SigIn OutIn
    (specified sc (name_at desc.name) (with_type desc.name.text (own_type name) empty_env)
    (also_bound (name ∷ []) made)) _
    (specified_closed sc (name_at desc.name) (with_type desc.name.text (own_type name) empty_env)
    (also_bound (name ∷ []) made) (one_type desc.name.text (own_type name) (own_type_closed name)) k) (λ sig m.
    type_descs_closed sc eq descs sig (after_names 1 r.1) m))

exn_within : (P : ℕ → Type 0) → IsWithin P exn_ty
exn_within P n e = absurd (cc)

exception_within : (P : ℕ → Type 0) (arg : Option Ty) → IfSome (IsWithin P) arg → IsWithin P (exception_ty arg)
exception_within P None h = exn_within P
exception_within P (Some t) h = within_arrow P t exn_ty h (exn_within P)

exceptions_closed : (sc : Scope) (cons : List ConPhrase) (made : Signature) → IsClosedEnv sc.env → SigIn made
    → Given SigIn (infer_exception_specs sc cons made)
exceptions_closed sc [] made h k = k
exceptions_closed sc (con ∷ cons) made h k =
    given_then (IfSome (IsWithin (Among []))) SigIn (infer_optional_ty (with_written_alone [] sc) con.arg) _
    (optional_within (Among []) (with_written_alone [] sc) con.arg h tt) (λ arg l.
    given_then SigIn SigIn
    (specified sc (name_at con.name)
    (with_value con.name.text (exception_entry (exception_ty arg)) empty_env) made) _
    (specified_closed sc (name_at con.name) (with_value con.name.text (exception_entry (exception_ty arg)) empty_env)
    made (one_value con.name.text (exception_entry (exception_ty arg))
    (closed_none [] (exception_ty arg) (exception_within (Among []) arg l))) k) (λ sig m.
    exceptions_closed sc cons sig h m))

-- ---- `datatype`

type_alone_closed : (name : List ℕ) (o : Option TypeStr) → IfSome (TypeHas IsClosedScheme IsClosedFunction) o
    → IsClosedEnv (type_alone name o)
type_alone_closed name None h = nothing
type_alone_closed name (Some str) h = one_type name str h

value_alone_closed : (name : List ℕ) (o : Option ValueEntry) → IfSome (ValueHas IsClosedScheme) o
    → IsClosedEnv (value_alone name o)
value_alone_closed name None h = nothing
value_alone_closed name (Some value) h = one_value name value h

cons_specified : (sc : Scope) (cons : List ConPhrase) (new : Env) (made : Signature) → IsClosedEnv new → SigIn made
    → Given SigIn (specified_cons sc cons new made)
cons_specified sc [] new made h k = k
cons_specified sc (con ∷ cons) new made h k =
    let found : Option ValueEntry = entry con.name.text (values new) in
    given_then SigIn SigIn (specified sc (name_at con.name) (value_alone con.name.text found) made) _
    (specified_closed sc (name_at con.name) (value_alone con.name.text found) made
    (value_alone_closed con.name.text found (rows_found (ValueHas IsClosedScheme) con.name.text (values new)
    (has_values IsClosedScheme IsClosedFunction new h))) k) (λ sig m. cons_specified sc cons new sig h m)

types_specified : (sc : Scope) (binds : List DatPhrase) (new : Env) (made : Signature) → IsClosedEnv new → SigIn made
    → Given SigIn (specified_types sc binds new made)
types_specified sc [] new made h k = k
types_specified sc (bind ∷ binds) new made h k =
    let found : Option TypeStr = entry bind.name.text (types new) in
    given_then SigIn SigIn (specified sc (name_at bind.name) (type_alone bind.name.text found) made) _
    (specified_closed sc (name_at bind.name) (type_alone bind.name.text found) made
    (type_alone_closed bind.name.text found (rows_found (TypeHas IsClosedScheme IsClosedFunction) bind.name.text
    (types new) (has_types IsClosedScheme IsClosedFunction new h))) k) (λ with l.
    given_then SigIn SigIn (specified_cons sc bind.cons new with) _ (cons_specified sc bind.cons new with h l)
    (λ sig m. types_specified sc binds new sig h m))

datatype_specs_closed : (sc : Scope) (binds : List DatPhrase) (made : Signature) (st : Progress) → IsClosedEnv sc.env
    → SigIn made → Given OutIn (infer_datatype_specs sc binds made st)
datatype_specs_closed sc binds made st h k =
    given_then ClosedMade OutIn (datatypes_of sc [] binds st) _ (datatypes_closed sc [] binds st h) (λ r l.
    given_then SigIn OutIn (specified_types sc binds r.0 (also_bound (names_of_types binds r.0) made)) _
    (types_specified sc binds r.0 (also_bound (names_of_types binds r.0) made) l k) (λ sig m. m))

-- ---- `where type`

puts_one : (name : TyName) (by : TypeFn) → IsClosedFunction by → PutsClosed (of_rows ((name, by) ∷ []))
puts_one name by h = record { by = λ m f e. first_closed (same_name name m) by f None h (λ i. absurd (cc)) e }

given_listed : (c : Bool) (sc : Scope) (at : At) (long : LongName) (sig : Signature) → SigIn sig
    → Given SigIn (cond c (gives sig) (refuses_long sc at long))
given_listed true sc at long sig h = h
given_listed false sc at long sig h = tt

replaced_closed : (sc : Scope) (at : At) (long : LongName) (by : TypeFn) (sig : Signature) (o : Option TyName)
    → IsClosedFunction by → SigIn sig → Given SigIn (replaced sc at long by sig o)
replaced_closed sc at long by sig None h k = tt
replaced_closed sc at long by sig (Some name) h k =
    given_listed (is_listed name sig.bound) sc at long (with_function name by sig)
    (realised_closed (of_rows ((name, by) ∷ [])) (puts_one name by h) sig.env k)

where_closed : (sc : Scope) (at : At) (long : LongName) (old by : TypeFn) (sig : Signature) → IsClosedFunction by
    → SigIn sig → Given SigIn (where_type sc at long old by sig)
where_closed sc at long old by sig h k =
    given_where SigIn (not (eqb by.arity old.arity)) 35 sc at _
    (given_where SigIn (lacks_equality (name_alone old) by) 33 sc at _
    (replaced_closed sc at long by sig (name_alone old) h k))

-- ---- signatures and specifications

abbrev pub SigsIn : Table Signature → Type 0
SigsIn sigs = AllRows SigIn sigs

mutual
  pub sig_closed : (sigs : Table Signature) (sc : Scope) (sig : SigPhrase) (st : Progress) → SigsIn sigs
      → IsClosedEnv sc.env → Given OutIn (infer_sig sigs sc sig st)
  sig_closed sigs sc (SigPhrase.Sig spec at) st s h = spec_closed sigs sc spec empty_signature st s h nothing
  sig_closed sigs sc (SigPhrase.Named name at) st s h =
      given_then SigIn OutIn (known sc (single name) (entry name.text sigs)) _
      (given_known SigIn sc (single name) (entry name.text sigs) (rows_found SigIn name.text sigs s)) (λ sig k.
      realised_closed (of_rows (rows_between sig.bound (unit_names sc.home st.names sig.bound)))
      (puts_names sig.bound (unit_names sc.home st.names sig.bound)) sig.env k)
  sig_closed sigs sc (SigPhrase.Where sig tyvars long ty at) st s h =
      given_then OutIn OutIn (infer_sig sigs sc sig st) _ (sig_closed sigs sc sig st s h) (λ r k.
      always OutIn (listed sc tyvars [] r.1) _ (λ own.
      always OutIn (known sc long (found_at types long.parts r.0.env)) _ (λ str.
      given_then (IsWithin (Among (numbers own.0))) OutIn
      (infer_ty (with_written_alone (as_written own.0) sc) ty) _
      (ty_within (Among (numbers own.0)) (with_written_alone (as_written own.0) sc) ty h
      (written_among own.0 (numbers own.0) (λ n e. e))) (λ t l.
      given_then SigIn OutIn (where_type sc at long str.function (type_function (numbers own.0) t) r.0) _
      (where_closed sc at long str.function (type_function (numbers own.0) t) r.0 (closed_none (numbers own.0) t l) k)
      (λ with m. m)))))

  pub spec_closed : (sigs : Table Signature) (sc : Scope) (spec : SpecPhrase) (made : Signature) (st : Progress)
      → SigsIn sigs → IsClosedEnv sc.env → SigIn made → Given OutIn (infer_spec sigs sc spec made st)
  spec_closed sigs sc (SpecPhrase.Vals descs at) made st s h k = vals_closed sc descs made st h k
  spec_closed sigs sc (SpecPhrase.Types descs at) made st s h k = type_descs_closed sc false descs made st k
  spec_closed sigs sc (SpecPhrase.Eqtypes descs at) made st s h k = type_descs_closed sc true descs made st k
  spec_closed sigs sc (SpecPhrase.Datatypes binds at) made st s h k = datatype_specs_closed sc binds made st h k
  spec_closed sigs sc (SpecPhrase.Replication name long at) made st s h k =
      given_then IsClosedEnv OutIn (infer_replication sc name long) _ (replication_closed sc name long h) (λ part l.
      given_then SigIn OutIn (specified sc (name_at name) part made) _
      (specified_closed sc (name_at name) part made l k) (λ sig m. m))
  spec_closed sigs sc (SpecPhrase.Exceptions cons at) made st s h k =
      given_then SigIn OutIn (infer_exception_specs sc cons made) _ (exceptions_closed sc cons made h k) (λ sig m. m)
  spec_closed sigs sc (SpecPhrase.Structures binds at) made st s h k = binds_closed sigs sc binds made st s h k
  spec_closed sigs sc (SpecPhrase.Include sig at) made st s h k =
      given_then OutIn OutIn (infer_sig sigs sc sig st) _ (sig_closed sigs sc sig st s h) (λ r l.
      given_then SigIn OutIn (specified sc at r.0.env (also_bound r.0.bound made)) _
      (specified_closed sc at r.0.env (also_bound r.0.bound made) l k) (λ with m. m))
  spec_closed sigs sc (SpecPhrase.Sequence specs at) made st s h k = specs_closed sigs sc specs made st s h k

  binds_closed : (sigs : Table Signature) (sc : Scope) (binds : SigBinds) (made : Signature) (st : Progress)
      → SigsIn sigs → IsClosedEnv sc.env → SigIn made → Given OutIn (infer_structure_specs sigs sc binds made st)
  binds_closed sigs sc SigBinds.EndOfBinds made st s h k = k
  binds_closed sigs sc (SigBinds.Bind name sig rest) made st s h k =
      given_then OutIn OutIn (infer_sig sigs sc sig st) _ (sig_closed sigs sc sig st s h) (λ r l.
      given_then SigIn OutIn
      (specified sc (name_at name) (with_structure name.text r.0.env empty_env) (also_bound r.0.bound made)) _
      (specified_closed sc (name_at name) (with_structure name.text r.0.env empty_env) (also_bound r.0.bound made)
      (one_structure name.text r.0.env empty_env l nothing) k) (λ with m.
      binds_closed sigs sc rest with r.1 s h m))

  specs_closed : (sigs : Table Signature) (sc : Scope) (specs : SpecPhrases) (made : Signature) (st : Progress)
      → SigsIn sigs → IsClosedEnv sc.env → SigIn made → Given OutIn (infer_specs sigs sc specs made st)
  specs_closed sigs sc SpecPhrases.EndOfSpecs made st s h k = k
  specs_closed sigs sc (SpecPhrases.Next spec rest) made st s h k =
      given_then OutIn OutIn (infer_spec sigs (under made.env sc) spec made st) _
      (spec_closed sigs (under made.env sc) spec made st s
      (has_modified IsClosedScheme IsClosedFunction sc.env made.env h k) k) (λ r l.
      specs_closed sigs sc rest r.0 r.1 s h l)

-- a signature by itself
pub signature_closed : (sigs : Table Signature) (sc : Scope) (sig : SigPhrase) (st : Progress) → SigsIn sigs
    → IsClosedEnv sc.env → Given OutIn (signature_of sigs sc sig st)
signature_closed sigs sc sig st s h =
    given_then OutIn OutIn (infer_sig sigs sc sig st) _ (sig_closed sigs sc sig st s h) (λ r k.
    realised_closed (of_rows (rows_between r.0.bound (bound_names 0 r.0.bound)))
    (puts_names r.0.bound (bound_names 0 r.0.bound)) r.0.env k)

-- .. and opened again
pub opened_closed : (home : List ℕ) (sig : Signature) (st : Progress) → SigIn sig → OutIn (opened home sig st)
opened_closed home sig st k = realised_closed (of_rows (rows_between sig.bound (unit_names home st.names sig.bound)))
    (puts_names sig.bound (unit_names home st.names sig.bound)) sig.env k
