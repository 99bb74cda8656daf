-- The tables of what signatures, structures and units define rise.
use Rattle.std.proofs.Common.{◌≡◌, ℕ, List, [], ◌∷◌, ◌++◌, map, length, refl, sym, subst, ap, ◌∙◌, Option, Some, None, Bool, true, false, not, cond, eqb}
use Rattle.sml_trees.specs.declared.name.At.{At}
use Rattle.sml_trees.specs.declared.name.Name.{Name}
use Rattle.sml_trees.specs.declared.name.LongName.{LongName}
use Rattle.semantic_objects.specs.declared.name.TyName.{TyName}
use Rattle.semantic_objects.specs.declared.entry.ConEntry.{ConEntry}
use Rattle.semantic_objects.specs.declared.entry.TypeFn.{TypeFn}
use Rattle.semantic_objects.specs.declared.entry.TypeStr.{TypeStr}
use Rattle.semantic_objects.specs.declared.entry.ValueEntry.{ValueEntry}
use Rattle.std.specs.FinMap.Entries.{is_sorted, below_all}
use Rattle.semantic_objects.specs.Tables.{Table, by_bytes, IsTable, entry, with_entry}
use Rattle.semantic_objects.specs.Environments.{Env, Structures, Signature, Functor, Top, table_of, structures, types, values, empty_env, with_structure, with_type, with_value}
use Rattle.bare_phrases.specs.Phrases.{ConPhrase, DatPhrase}
use Rattle.realisation.specs.Names.{is_listed}
use Rattle.realisation.specs.Environments.{Change, by_types, changed_con, changed_type, changed_value, each_row, changed, changed_structures}
use Rattle.realisation.specs.Realised.{Realisation, of_rows, realised_tree, realised}
use Rattle.static_semantics.specs.Inferring.{Progress, Scope, under, with_written_alone, gives, name_at, known, found_at, has_too_large}
use Rattle.static_semantics.specs.DatatypeInference.{own_name, own_type, after_names, infer_optional_ty, exception_entry, datatypes_of, infer_replication}
use Rattle.static_semantics.specs.TypeInference.{infer_ty, listed, numbers, as_written, new_label, type_function}
use Rattle.static_semantics.specs.Holding.{Given, IfSome, AllRows}
use Rattle.static_semantics.proofs.Holding.{given_then, given_where, given_known, rows_found}
use Rattle.module_semantics.specs.SigPhrases.{ValPhrase, TypeDescPhrase, SigPhrase, SpecPhrase, SigBinds, SpecPhrases}
use Rattle.module_semantics.specs.SignatureNames.{name_alone, rows_between, unit_names, bound_names, opened, empty_signature, also_bound}
use Rattle.module_semantics.specs.SignatureInference.{have_common, specified, variables_of, val_entry, exception_ty, infer_vals, infer_type_descs, infer_exception_specs, type_alone, value_alone, specified_cons, specified_types, names_of_types, lacks_equality, with_function, refuses_long, replaced, where_type, single, infer_sig, infer_spec, infer_structure_specs, infer_specs, signature_of}
use Rattle.module_semantics.specs.Matching.{matching, matched}
use Rattle.unit_semantics.specs.UnitPhrases.{ModulePhrase, ModuleDec, ModuleDecs, ModuleBinds, FunPhrase, FunsigPhrase, TopPhrase, read_unit}
use Rattle.unit_semantics.specs.StructureInference.{module_at, core_scope, top_under, known_env, param_of, infer_module, infer_module_dec, infer_module_decs, infer_module_binds}
use Rattle.unit_semantics.specs.UnitInference.{top_with, with_given, has_variable, without_variables, names_since, top_with_param, infer_body, infer_result, infer_structures, infer_signatures, infer_functors, infer_funsigs, infer_top, infer_tops}
use Rattle.unit_laws.proofs.Realised.{to_known, put_is_changed}
use Rattle.table_laws.specs.Rising.{TableWith, con_table, RisingType, RisingEnv, RisingStructures, RisingSignature, RisingFunctor, RisingTop}
use Rattle.table_laws.specs.Promises.{UnitsKeepTables}
use Rattle.table_laws.proofs.Tables.{table_with, table_with_all, rising_nothing, rising_with_structure, rising_with_type, rising_with_value, rising_modified, structure_found, rising_types}
use Rattle.table_laws.proofs.Declarations.{always, datatypes_rise, replication_rises, dec_rises}

-- ---- tables whose entries are changed

below_same : {A : Type 0} (f : A → A) (name : List ℕ) (rows : Table A)
    → below_all by_bytes name (each_row f rows) ≡ below_all by_bytes name rows
below_same f name [] = refl
below_same f name (row ∷ rows) = rw (below_same f name rows)

-- rows with the same names rise as they do
rises_same : {A : Type 0} (f : A → A) (rows : Table A)
    → is_sorted by_bytes (each_row f rows) ≡ is_sorted by_bytes rows
rises_same f [] = refl
rises_same f (row ∷ rows) = rw (below_same f row.0 rows, rises_same f rows)

table_changed : {A : Type 0} (f : A → A) (rows : Table A) → IsTable rows → IsTable (each_row f rows)
table_changed f rows h = rises_same f rows ∙ h

con_table_changed : (c : Change) (cons : List ConEntry)
    → con_table (map (changed_con c) cons) ≡ each_row c.scheme (con_table cons)
con_table_changed c [] = refl
con_table_changed c (con ∷ cons) = ap (λ z. (con.name, c.scheme con.scheme) ∷ z) (con_table_changed c cons)

type_changed : (c : Change) (str : TypeStr) → RisingType str → RisingType (changed_type c str)
type_changed c str h =
    subst IsTable (sym (con_table_changed c str.cons)) (table_changed c.scheme (con_table str.cons) h)

types_changed : (c : Change) (rows : Table TypeStr) → AllRows RisingType rows
    → AllRows RisingType (each_row (changed_type c) rows)
types_changed c [] h = tt
types_changed c (row ∷ rows) h = (type_changed c row.1 h.0, types_changed c rows h.1)

structures_same : (c : Change) (ss : Structures)
    → table_of (changed_structures c ss) ≡ each_row (changed c) (table_of ss)
structures_same c Structures.Nil = refl
structures_same c (Structures.Cons name env rest) = ap (λ z. (name, changed c env) ∷ z) (structures_same c rest)

mutual
  env_changed : (c : Change) (env : Env) → RisingEnv env → RisingEnv (changed c env)
  env_changed c (Env.MakeEnv ss ts vs) h = (
    subst IsTable (sym (structures_same c ss)) (table_changed (changed c) (table_of ss) h.0),
    structures_changed c ss h.1,
    (table_changed (changed_type c) ts h.2.0, types_changed c ts h.2.1),
    table_changed (changed_value c) vs h.3,
  )

  structures_changed : (c : Change) (ss : Structures) → RisingStructures ss
      → RisingStructures (changed_structures c ss)
  structures_changed c Structures.Nil h = tt
  structures_changed c (Structures.Cons name env rest) h = (env_changed c env h.0, structures_changed c rest h.1)

env_realised : (φ : Realisation) (env : Env) → RisingEnv env → RisingEnv (realised φ env)
env_realised φ env h = env_changed (by_types (realised_tree φ)) env h

env_known : (env : Env) (st : Progress) → RisingEnv env → RisingEnv (known_env env st)
env_known env st h =
    subst RisingEnv (sym (put_is_changed st.types.stands env)) (env_changed (to_known st.types.stands) env h)

-- ---- specifications

abbrev S : Signature → Type 0
S = RisingSignature

abbrev Out : Signature × Progress → Type 0
Out r = S r.0

pub one_value : (name : List ℕ) (value : ValueEntry) → RisingEnv (with_value name value empty_env)
one_value name value = rising_with_value name value empty_env rising_nothing

pub one_type : (name : List ℕ) (str : TypeStr) → RisingType str → RisingEnv (with_type name str empty_env)
one_type name str h = rising_with_type name str empty_env h rising_nothing

pub one_structure : (name : List ℕ) (env : Env) → RisingEnv env → RisingEnv (with_structure name env empty_env)
one_structure name env h = rising_with_structure name env empty_env h rising_nothing

pub specified_rises : (sc : Scope) (at : At) (part : Env) (made : Signature) → RisingEnv part → S made
    → Given S (specified sc at part made)
specified_rises sc at part made h k =
    given_where S (have_common part made.env) 40 sc at _ (rising_modified made.env part k h)

vals_rise : (sc : Scope) (descs : List ValPhrase) (made : Signature) (st : Progress) → S made
    → Given Out (infer_vals sc descs made st)
vals_rise sc [] made st k = k
vals_rise sc (desc ∷ descs) made st k =
    let own : List (List ℕ × ℕ) = (variables_of desc.ty st).0 in
    always Out (infer_ty (with_written_alone (as_written own) sc) desc.ty) _ (λ ty.
    given_then S Out
    (specified sc (name_at desc.name) (with_value desc.name.text (val_entry own ty) empty_env) made) _
    (specified_rises sc (name_at desc.name) (with_value desc.name.text (val_entry own ty) empty_env) made
    (one_value desc.name.text (val_entry own ty)) k) (λ sig m. vals_rise sc descs sig (variables_of desc.ty st).1 m))

type_descs_rise : (sc : Scope) (eq : Bool) (descs : List TypeDescPhrase) (made : Signature) (st : Progress) → S made
    → Given Out (infer_type_descs sc eq descs made st)
type_descs_rise sc eq [] made st k = k
type_descs_rise sc eq (desc ∷ descs) made st k =
    let name : TyName = own_name sc.home st.names (length desc.tyvars) eq in
    always Out (listed sc desc.tyvars [] st) _ (λ r.
    given_then S Out
    (specified sc (name_at desc.name) (with_type desc.name.text (own_type name) empty_env)
    (also_bound (name ∷ []) made)) _
    (specified_rises sc (name_at desc.name) (with_type desc.name.text (own_type name) empty_env)
    (also_bound (name ∷ []) made) (one_type desc.name.text (own_type name) refl) k)
    (λ sig m. type_descs_rise sc eq descs sig (after_names 1 r.1) m))

pub exception_specs_rise : (sc : Scope) (cons : List ConPhrase) (made : Signature) → S made
    → Given S (infer_exception_specs sc cons made)
exception_specs_rise sc [] made k = k
exception_specs_rise sc (con ∷ cons) made k =
    always S (infer_optional_ty (with_written_alone [] sc) con.arg) _ (λ arg.
    given_then S S
    (specified sc (name_at con.name)
    (with_value con.name.text (exception_entry (exception_ty arg)) empty_env) made) _
    (specified_rises sc (name_at con.name) (with_value con.name.text (exception_entry (exception_ty arg)) empty_env)
    made (one_value con.name.text (exception_entry (exception_ty arg))) k)
    (λ sig m. exception_specs_rise sc cons sig m))

pub type_alone_rises : (name : List ℕ) (o : Option TypeStr) → IfSome RisingType o → RisingEnv (type_alone name o)
type_alone_rises name None h = rising_nothing
type_alone_rises name (Some str) h = one_type name str h

pub value_alone_rises : (name : List ℕ) (o : Option ValueEntry) → RisingEnv (value_alone name o)
value_alone_rises name None = rising_nothing
value_alone_rises name (Some value) = one_value name value

pub cons_specified : (sc : Scope) (cons : List ConPhrase) (new : Env) (made : Signature) → S made
    → Given S (specified_cons sc cons new made)
cons_specified sc [] new made k = k
cons_specified sc (con ∷ cons) new made k =
    let found : Option ValueEntry = entry con.name.text (values new) in
    given_then S S (specified sc (name_at con.name) (value_alone con.name.text found) made) _
    (specified_rises sc (name_at con.name) (value_alone con.name.text found) made
    (value_alone_rises con.name.text found) k) (λ sig m. cons_specified sc cons new sig m)

pub types_specified : (sc : Scope) (binds : List DatPhrase) (new : Env) (made : Signature) → RisingEnv new → S made
    → Given S (specified_types sc binds new made)
types_specified sc [] new made h k = k
types_specified sc (bind ∷ binds) new made h k =
    let found : Option TypeStr = entry bind.name.text (types new) in
    given_then S S (specified sc (name_at bind.name) (type_alone bind.name.text found) made) _
    (specified_rises sc (name_at bind.name) (type_alone bind.name.text found) made
    (type_alone_rises bind.name.text found
    (rows_found RisingType bind.name.text (types new) (rising_types new h).1)) k) (λ with l.
    given_then S S (specified_cons sc bind.cons new with) _ (cons_specified sc bind.cons new with l)
    (λ sig m. types_specified sc binds new sig h m))

-- ---- signatures

given_listed : (c : Bool) (sc : Scope) (at : At) (long : LongName) (sig : Signature) → S sig
    → Given S (cond c (gives sig) (refuses_long sc at long))
given_listed true sc at long sig h = h
given_listed false sc at long sig h = tt

replaced_rises : (sc : Scope) (at : At) (long : LongName) (by : TypeFn) (sig : Signature) (o : Option TyName) → S sig
    → Given S (replaced sc at long by sig o)
replaced_rises sc at long by sig None k = tt
replaced_rises sc at long by sig (Some name) k = given_listed (is_listed name sig.bound) sc at long
    (with_function name by sig) (env_realised (of_rows ((name, by) ∷ [])) sig.env k)

where_rises : (sc : Scope) (at : At) (long : LongName) (old by : TypeFn) (sig : Signature) → S sig
    → Given S (where_type sc at long old by sig)
where_rises sc at long old by sig k =
    given_where S (not (eqb by.arity old.arity)) 35 sc at _
    (given_where S (lacks_equality (name_alone old) by) 33 sc at _
    (replaced_rises sc at long by sig (name_alone old) k))

-- signatures that have names
abbrev Sigs : Table Signature → Type 0
Sigs = AllRows S

mutual
  pub sig_rises : (sigs : Table Signature) (sc : Scope) (sig : SigPhrase) (st : Progress) → Sigs sigs → RisingEnv sc.env
      → Given Out (infer_sig sigs sc sig st)
  sig_rises sigs sc (SigPhrase.Sig spec at) st s h = spec_rises sigs sc spec empty_signature st s h rising_nothing
  sig_rises sigs sc (SigPhrase.Named name at) st s h =
      given_then S Out (known sc (single name) (entry name.text sigs)) _
      (given_known S sc (single name) (entry name.text sigs) (rows_found S name.text sigs s))
      (λ sig k. env_realised (of_rows (rows_between sig.bound (unit_names sc.home st.names sig.bound))) sig.env k)
  sig_rises sigs sc (SigPhrase.Where sig tyvars long ty at) st s h =
      given_then Out Out (infer_sig sigs sc sig st) _ (sig_rises sigs sc sig st s h) (λ r k.
      always Out (listed sc tyvars [] r.1) _ (λ own.
      always Out (known sc long (found_at types long.parts r.0.env)) _ (λ str.
      always Out (infer_ty (with_written_alone (as_written own.0) sc) ty) _ (λ t.
      given_then S Out (where_type sc at long str.function (type_function (numbers own.0) t) r.0) _
      (where_rises sc at long str.function (type_function (numbers own.0) t) r.0 k) (λ with m. m)))))

  pub spec_rises : (sigs : Table Signature) (sc : Scope) (spec : SpecPhrase) (made : Signature) (st : Progress)
      → Sigs sigs → RisingEnv sc.env → S made → Given Out (infer_spec sigs sc spec made st)
  spec_rises sigs sc (SpecPhrase.Vals descs at) made st s h k = vals_rise sc descs made st k
  spec_rises sigs sc (SpecPhrase.Types descs at) made st s h k = type_descs_rise sc false descs made st k
  spec_rises sigs sc (SpecPhrase.Eqtypes descs at) made st s h k = type_descs_rise sc true descs made st k
  spec_rises sigs sc (SpecPhrase.Datatypes binds at) made st s h k =
      given_then (λ r. RisingEnv r.0) Out (datatypes_of sc [] binds st) _ (datatypes_rise sc [] binds st) (λ r l.
      given_then S Out (specified_types sc binds r.0 (also_bound (names_of_types binds r.0) made)) _
      (types_specified sc binds r.0 (also_bound (names_of_types binds r.0) made) l k) (λ sig m. m))
  spec_rises sigs sc (SpecPhrase.Replication name long at) made st s h k =
      given_then RisingEnv Out (infer_replication sc name long) _ (replication_rises sc name long h) (λ part l.
      given_then S Out (specified sc (name_at name) part made) _ (specified_rises sc (name_at name) part made l k)
      (λ sig m. m))
  spec_rises sigs sc (SpecPhrase.Exceptions cons at) made st s h k =
      given_then S Out (infer_exception_specs sc cons made) _ (exception_specs_rise sc cons made k) (λ sig m. m)
  spec_rises sigs sc (SpecPhrase.Structures binds at) made st s h k = specs_of sigs sc binds made st s h k
  spec_rises sigs sc (SpecPhrase.Include sig at) made st s h k =
      given_then Out Out (infer_sig sigs sc sig st) _ (sig_rises sigs sc sig st s h) (λ r l.
      given_then S Out (specified sc at r.0.env (also_bound r.0.bound made)) _
      (specified_rises sc at r.0.env (also_bound r.0.bound made) l k) (λ with m. m))
  spec_rises sigs sc (SpecPhrase.Sequence specs at) made st s h k = specs_rise sigs sc specs made st s h k

  pub specs_of : (sigs : Table Signature) (sc : Scope) (binds : SigBinds) (made : Signature) (st : Progress)
      → Sigs sigs → RisingEnv sc.env → S made → Given Out (infer_structure_specs sigs sc binds made st)
  specs_of sigs sc SigBinds.EndOfBinds made st s h k = k
  specs_of sigs sc (SigBinds.Bind name sig rest) made st s h k =
      given_then Out Out (infer_sig sigs sc sig st) _ (sig_rises sigs sc sig st s h) (λ r l.
      given_then S Out
      (specified sc (name_at name) (with_structure name.text r.0.env empty_env) (also_bound r.0.bound made)) _
      (specified_rises sc (name_at name) (with_structure name.text r.0.env empty_env) (also_bound r.0.bound made)
      (one_structure name.text r.0.env l) k) (λ with m. specs_of sigs sc rest with r.1 s h m))

  pub specs_rise : (sigs : Table Signature) (sc : Scope) (specs : SpecPhrases) (made : Signature) (st : Progress)
      → Sigs sigs → RisingEnv sc.env → S made → Given Out (infer_specs sigs sc specs made st)
  specs_rise sigs sc SpecPhrases.EndOfSpecs made st s h k = k
  specs_rise sigs sc (SpecPhrases.Next spec rest) made st s h k =
      given_then Out Out (infer_spec sigs (under made.env sc) spec made st) _
      (spec_rises sigs (under made.env sc) spec made st s (rising_modified sc.env made.env h k) k)
      (λ r l. specs_rise sigs sc rest r.0 r.1 s h l)

pub signature_rises : (sigs : Table Signature) (sc : Scope) (sig : SigPhrase) (st : Progress) → Sigs sigs
    → RisingEnv sc.env → Given Out (signature_of sigs sc sig st)
signature_rises sigs sc sig st s h =
    given_then Out Out (infer_sig sigs sc sig st) _ (sig_rises sigs sc sig st s h) (λ r k.
    env_realised (of_rows (rows_between r.0.bound (bound_names 0 r.0.bound))) r.0.env k)

pub opened_rises : (home : List ℕ) (sig : Signature) (st : Progress) → S sig → S (opened home sig st).0
opened_rises home sig st h =
    env_realised (of_rows (rows_between sig.bound (unit_names home st.names sig.bound))) sig.env h

-- ---- structures

abbrev Mod : Env × Progress → Type 0
Mod r = RisingEnv r.0

under_rises : (top : Top) (d : Env) → RisingTop top → RisingEnv d → RisingTop (top_under d top)
under_rises top d h k = record {
  env = rising_modified top.env d h.env k;
  signatures = h.signatures;
  functors = h.functors;
  funsigs = h.funsigs;
}

mutual
  pub module_rises : (depth : ℕ) (home : List ℕ) (top : Top) (str : ModulePhrase) (st : Progress) → RisingTop top
      → Given Mod (infer_module depth home top str st)
  module_rises depth home top (ModulePhrase.Struct dec at) st h = dec_of depth home top dec st h
  module_rises depth home top (ModulePhrase.Named long at) st h =
      given_then RisingEnv Mod (known (core_scope home top) long (found_at structures long.parts top.env)) _
      (given_known RisingEnv (core_scope home top) long (found_at structures long.parts top.env)
      (structure_found long.parts top.env h.env)) (λ env k. k)
  module_rises depth home top (ModulePhrase.Transparent str sig at) st h =
      always Mod (infer_module depth home top str st) _ (λ e.
      given_then Out Mod (signature_of top.signatures (core_scope home top) sig e.1) _
      (signature_rises top.signatures (core_scope home top) sig e.1 h.signatures.1 h.env) (λ r l.
      given_then RisingEnv Mod (matched (core_scope home top) (module_at str) r.1.types (known_env e.0 r.1) r.0) _
      (always RisingEnv (matching (core_scope home top) (module_at str) r.1.types (known_env e.0 r.1) r.0) _
      (λ rows. env_realised (of_rows rows) r.0.env l)) (λ made m. m)))
  module_rises depth home top (ModulePhrase.Opaque str sig at) st h =
      always Mod (infer_module depth home top str st) _ (λ e.
      given_then Out Mod (signature_of top.signatures (core_scope home top) sig e.1) _
      (signature_rises top.signatures (core_scope home top) sig e.1 h.signatures.1 h.env) (λ r l.
      always Mod (matched (core_scope home top) (module_at str) r.1.types (known_env e.0 r.1) r.0) _ (λ made.
      env_realised (of_rows (rows_between r.0.bound (unit_names home r.1.names r.0.bound))) r.0.env l)))
  module_rises depth home top (ModulePhrase.Functor name argument at) st h =
      given_then RisingFunctor Mod (known (core_scope home top) (single name) (entry name.text top.functors)) _
      (given_known RisingFunctor (core_scope home top) (single name) (entry name.text top.functors)
      (rows_found RisingFunctor name.text top.functors h.functors.1)) (λ fun f.
      always Mod (infer_module depth home top argument st) _ (λ e.
      always Mod
      (matching (core_scope home top) (module_at argument) e.1.types (known_env e.0 e.1) (param_of fun)) _ (λ rows.
      env_realised (of_rows (rows ++ rows_between fun.further (unit_names home e.1.names fun.further))) fun.result
      f.1)))
  module_rises depth home top (ModulePhrase.Within dec body at) st h =
      given_then Mod Mod (infer_module_dec depth home top dec st) _ (dec_of depth home top dec st h) (λ d k.
      module_rises depth home (top_under d.0 top) body d.1 (under_rises top d.0 h k))

  pub dec_of : (depth : ℕ) (home : List ℕ) (top : Top) (dec : ModuleDec) (st : Progress) → RisingTop top
      → Given Mod (infer_module_dec depth home top dec st)
  dec_of depth home top (ModuleDec.Core dec) st h = dec_rises depth (core_scope home top) dec st h.env
  dec_of depth home top (ModuleDec.Local hidden shown at) st h =
      given_then Mod Mod (infer_module_dec depth home top hidden st) _ (dec_of depth home top hidden st h) (λ d k.
      given_then Mod Mod (infer_module_dec depth home (top_under d.0 top) shown d.1) _
      (dec_of depth home (top_under d.0 top) shown d.1 (under_rises top d.0 h k)) (λ r l.
      given_where Mod (has_too_large r.1.types.stands r.0) 38 (core_scope home top) at _ l))
  dec_of depth home top (ModuleDec.Sequence decs at) st h = decs_of depth home top decs st h
  dec_of depth home top (ModuleDec.Structures binds at) st h =
      given_then Mod Mod (infer_module_binds depth home top binds empty_env st) _
      (binds_of depth home top binds empty_env st h rising_nothing) (λ r l.
      given_where Mod (has_too_large r.1.types.stands r.0) 38 (core_scope home top) at _ l)

  pub decs_of : (depth : ℕ) (home : List ℕ) (top : Top) (decs : ModuleDecs) (st : Progress) → RisingTop top
      → Given Mod (infer_module_decs depth home top decs st)
  decs_of depth home top ModuleDecs.EndOfDecs st h = rising_nothing
  decs_of depth home top (ModuleDecs.Dec dec rest) st h =
      given_then Mod Mod (infer_module_dec depth home top dec st) _ (dec_of depth home top dec st h) (λ d k.
      given_then Mod Mod (infer_module_decs depth home (top_under d.0 top) rest d.1) _
      (decs_of depth home (top_under d.0 top) rest d.1 (under_rises top d.0 h k))
      (λ r l. rising_modified d.0 r.0 k l))

  pub binds_of : (depth : ℕ) (home : List ℕ) (top : Top) (binds : ModuleBinds) (made : Env) (st : Progress)
      → RisingTop top → RisingEnv made → Given Mod (infer_module_binds depth home top binds made st)
  binds_of depth home top ModuleBinds.EndOfBinds made st h k = k
  binds_of depth home top (ModuleBinds.Bind name str rest) made st h k =
      always Mod (new_label (core_scope home top) name (structures made)) _ (λ u.
      given_then Mod Mod (infer_module depth home top str st) _ (module_rises depth home top str st h) (λ r l.
      binds_of depth home top rest (with_structure name.text r.0 made) r.1 h
      (rising_with_structure name.text r.0 made l k)))

-- ---- units

left_rises : (sc : Scope) (name : Name) (r : Env × Progress) → Mod r → Given Mod (without_variables sc name r)
left_rises sc name r h =
    given_where Mod (has_variable (known_env r.0 r.1)) 42 sc (name_at name) _ (env_known r.0 r.1 h)

structures_rise : (depth : ℕ) (home : List ℕ) (top : Top) (binds : ModuleBinds) (made : Env) (st : Progress)
    → RisingTop top → RisingEnv made → Given Mod (infer_structures depth home top binds made st)
structures_rise depth home top ModuleBinds.EndOfBinds made st h k = k
structures_rise depth home top (ModuleBinds.Bind name str rest) made st h k =
    always Mod (new_label (core_scope home top) name (structures made)) _ (λ u.
    given_then Mod Mod (infer_module depth home top str st) _ (module_rises depth home top str st h) (λ r l.
    given_then Mod Mod (without_variables (core_scope home top) name r) _
    (left_rises (core_scope home top) name r l) (λ e m.
    structures_rise depth home top rest (with_structure name.text e.0 made) e.1 h
    (rising_with_structure name.text e.0 made m k))))

abbrev Rows_ : {A : Type 0} → (A → Type 0) → Table A × Progress → Type 0
Rows_ R r = TableWith R r.0

signatures_rise : (home : List ℕ) (top : Top) (binds : SigBinds) (made : Table Signature) (st : Progress)
    → RisingTop top → TableWith S made → Given (Rows_ S) (infer_signatures home top binds made st)
signatures_rise home top SigBinds.EndOfBinds made st h k = k
signatures_rise home top (SigBinds.Bind name sig rest) made st h k =
    always (Rows_ S) (new_label (core_scope home top) name made) _ (λ u.
    given_then Out (Rows_ S) (signature_of top.signatures (core_scope home top) sig st) _
    (signature_rises top.signatures (core_scope home top) sig st h.signatures.1 h.env) (λ r l.
    signatures_rise home top rest (with_entry name.text r.0 made) r.1 h
    (table_with S name.text r.0 made l k)))

pub param_rises : (top : Top) (name : Name) (param : Env) → RisingTop top → RisingEnv param
    → RisingTop (top_with_param name param top)
param_rises top name param h k =
    under_rises top (with_structure name.text param empty_env) h (one_structure name.text param k)

functors_rise : (depth : ℕ) (home : List ℕ) (top : Top) (binds : List FunPhrase) (made : Table Functor)
    (st : Progress) → RisingTop top → TableWith RisingFunctor made
    → Given (Rows_ RisingFunctor) (infer_functors depth home top binds made st)
functors_rise depth home top [] made st h k = k
functors_rise depth home top (bind ∷ binds) made st h k =
    let F : Functor → Type 0 = RisingFunctor in
    always (Rows_ F) (new_label (core_scope home top) bind.name made) _ (λ u.
    given_then Out (Rows_ F) (signature_of top.signatures (core_scope home top) bind.param_sig st) _
    (signature_rises top.signatures (core_scope home top) bind.param_sig st h.signatures.1 h.env) (λ s l.
    let inside : Signature × Progress = opened home s.0 s.1 in
    given_then (λ r. F r.0) (Rows_ F) (infer_body depth home top bind s.0 inside) _
    (given_then Mod (λ r. F r.0) (infer_module depth home (top_with_param bind.param inside.0.env top) bind.body
    inside.1) _
    (module_rises depth home (top_with_param bind.param inside.0.env top) bind.body inside.1
    (param_rises top bind.param inside.0.env h (opened_rises home s.0 s.1 l))) (λ r m.
    given_then Mod (λ r. F r.0) (without_variables (core_scope home top) bind.name r) _
    (left_rises (core_scope home top) bind.name r m) (λ e n.
    let names : List TyName = names_since home inside.1.names e.0 in (
      l,
      env_realised (of_rows (rows_between (inside.0.bound ++ names)
          (s.0.bound ++ bound_names (length s.0.bound) names))) e.0 n,
    )))) (λ r m.
    functors_rise depth home top binds (with_entry bind.name.text r.0 made) r.1 h
    (table_with F bind.name.text r.0 made m k))))

funsigs_rise : (home : List ℕ) (top : Top) (binds : List FunsigPhrase) (made : Table Functor) (st : Progress)
    → RisingTop top → TableWith RisingFunctor made
    → Given (Rows_ RisingFunctor) (infer_funsigs home top binds made st)
funsigs_rise home top [] made st h k = k
funsigs_rise home top (bind ∷ binds) made st h k =
    let F : Functor → Type 0 = RisingFunctor in
    always (Rows_ F) (new_label (core_scope home top) bind.name made) _ (λ u.
    given_then Out (Rows_ F) (signature_of top.signatures (core_scope home top) bind.param_sig st) _
    (signature_rises top.signatures (core_scope home top) bind.param_sig st h.signatures.1 h.env) (λ s l.
    let inside : Signature × Progress = opened home s.0 s.1 in
    let inner : Top = top_with_param bind.param inside.0.env top in
    given_then (λ r. F r.0) (Rows_ F) (infer_result home top bind s.0 inside) _
    (given_then Out (λ r. F r.0) (signature_of top.signatures (core_scope home inner) bind.result_sig inside.1) _
    (signature_rises top.signatures (core_scope home inner) bind.result_sig inside.1 h.signatures.1
    (param_rises top bind.param inside.0.env h (opened_rises home s.0 s.1 l)).env) (λ r m. (
      l,
      env_realised (of_rows (rows_between (inside.0.bound ++ r.0.bound)
          (s.0.bound ++ bound_names (length s.0.bound) r.0.bound))) r.0.env m,
    ))) (λ r m.
    funsigs_rise home top binds (with_entry bind.name.text r.0 made) r.1 h
    (table_with F bind.name.text r.0 made m k))))

abbrev TopIn : Top × Progress → Type 0
TopIn r = RisingTop r.0

nothing_in : {A : Type 0} (R : A → Type 0) → TableWith R []
nothing_in R = (refl, tt)

pub top_rises : (depth : ℕ) (home : List ℕ) (top : Top) (dec : TopPhrase) (st : Progress) → RisingTop top
    → Given TopIn (infer_top depth home top dec st)
top_rises depth home top (TopPhrase.Structures binds at) st h =
    given_then Mod TopIn (infer_structures depth home top binds empty_env st) _
    (structures_rise depth home top binds empty_env st h rising_nothing) (λ r k. record {
      env = k;
      signatures = nothing_in S;
      functors = nothing_in RisingFunctor;
      funsigs = nothing_in RisingFunctor;
    })
top_rises depth home top (TopPhrase.Signatures binds at) st h =
    given_then (Rows_ S) TopIn (infer_signatures home top binds [] st) _
    (signatures_rise home top binds [] st h (nothing_in S)) (λ r k. record {
      env = rising_nothing;
      signatures = k;
      functors = nothing_in RisingFunctor;
      funsigs = nothing_in RisingFunctor;
    })
top_rises depth home top (TopPhrase.Functors binds at) st h =
    given_then (Rows_ RisingFunctor) TopIn (infer_functors depth home top binds [] st) _
    (functors_rise depth home top binds [] st h (nothing_in RisingFunctor)) (λ r k. record {
      env = rising_nothing;
      signatures = nothing_in S;
      functors = k;
      funsigs = nothing_in RisingFunctor;
    })
top_rises depth home top (TopPhrase.Funsigs binds at) st h =
    given_then (Rows_ RisingFunctor) TopIn (infer_funsigs home top binds [] st) _
    (funsigs_rise home top binds [] st h (nothing_in RisingFunctor)) (λ r k. record {
      env = rising_nothing;
      signatures = nothing_in S;
      functors = nothing_in RisingFunctor;
      funsigs = k;
    })

pub both_rise : (first second : Top) → RisingTop first → RisingTop second → RisingTop (top_with first second)
both_rise first second h k = record {
  env = rising_modified first.env second.env h.env k.env;
  signatures = table_with_all S second.signatures first.signatures k.signatures h.signatures;
  functors = table_with_all RisingFunctor second.functors first.functors k.functors h.functors;
  funsigs = table_with_all RisingFunctor second.funsigs first.funsigs k.funsigs h.funsigs;
}

tops_rise : (depth : ℕ) (home : List ℕ) (top : Top) (decs : List TopPhrase) (st : Progress) → RisingTop top
    → Given TopIn (infer_tops depth home top decs st)
tops_rise depth home top [] st h = record {
  env = rising_nothing;
  signatures = nothing_in S;
  functors = nothing_in RisingFunctor;
  funsigs = nothing_in RisingFunctor;
}
tops_rise depth home top (dec ∷ decs) st h =
    given_then TopIn TopIn (infer_top depth home top dec st) _ (top_rises depth home top dec st h) (λ r k.
    given_then TopIn TopIn (infer_tops depth home (top_with top r.0) decs r.1) _
    (tops_rise depth home (top_with top r.0) decs r.1 (both_rise top r.0 h k)) (λ q l. both_rise r.0 q.0 k l))

pub units_keep_tables : UnitsKeepTables
units_keep_tables = record {
  all = λ depth home basis given sealing tops st h k.
      tops_rise depth home (with_given basis given) (read_unit sealing tops) st (record {
        env = rising_modified basis given.env h k.env;
        signatures = k.signatures;
        functors = k.functors;
        funsigs = k.funsigs;
      });
}
