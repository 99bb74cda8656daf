-- Good names of what signatures, structures and units define.
use Rattle.std.proofs.Common.{ℕ, List, [], ◌∷◌, ◌++◌, map, length, sym, subst, Option, Some, None, Bool, true, false, not, cond, eqb}
use Rattle.std.specs.Prelude.{Ok, Err}
use Rattle.sml_trees.specs.declared.name.At.{At}
use Rattle.sml_trees.specs.declared.name.Name.{Name}
use Rattle.sml_trees.specs.declared.name.LongName.{LongName}
use Rattle.semantic_objects.specs.declared.name.TyName.{TyName}
use Rattle.semantic_objects.specs.declared.entry.ConEntry.{ConEntry}
use Rattle.semantic_objects.specs.declared.entry.TypeFn.{TypeFn}
use Rattle.semantic_objects.specs.declared.entry.TypeStr.{TypeStr}
use Rattle.semantic_objects.specs.declared.entry.ValueEntry.{ValueEntry}
use Rattle.semantic_objects.specs.declared.entry.VidStatus.TheVariants as status
use Rattle.semantic_objects.specs.Tables.{Table, entry, with_entry}
use Rattle.semantic_objects.specs.Environments.{Env, Structures, Signature, Functor, Top, structures_of, structures, types, values, empty_env, with_structure, with_type, with_value}
use Rattle.bare_phrases.specs.Phrases.{ConPhrase, DatPhrase}
use Rattle.realisation.specs.Names.{is_listed}
use Rattle.realisation.specs.Environments.{Change, by_types, changed_con, changed_type, changed_value, each_row, changed, changed_structures}
use Rattle.realisation.specs.Realised.{Realisation, of_rows, realised_tree, realised}
use Rattle.static_semantics.specs.Inferring.{Progress, Scope, under, with_written_alone, Answer, ◌>>=◌, gives, name_at, known, found_at, has_too_large}
use Rattle.static_semantics.specs.DatatypeInference.{own_name, own_type, after_names, infer_optional_ty, exception_entry, datatypes_of, with_cons, infer_replication}
use Rattle.static_semantics.specs.TypeInference.{infer_ty, listed, numbers, as_written, new_label, type_function}
use Rattle.static_semantics.specs.Holding.{Given, IfSome, AllItems}
use Rattle.static_semantics.proofs.Holding.{given_then, given_where, given_known}
use Rattle.inference_laws.specs.Nodes.{IsGood}
use Rattle.inference_laws.specs.Spelling.{ConSpelt, DatSpelt}
use Rattle.inference_laws.specs.Naming.{RowsWith, StructuresWith, NamedType, NamedValue, NamedEnv}
use Rattle.inference_laws.proofs.EnvsWith.{rows_with, rows_with_all, rows_found, env_structures, env_types, env_values, env_nothing, env_with_type, env_with_value, env_modified, env_found}
use Rattle.inference_laws.proofs.Naming.{datatypes_named, dec_named}
use Rattle.module_semantics.specs.SigPhrases.{ValPhrase, TypeDescPhrase, SigPhrase, SpecPhrase, SigBinds, SpecPhrases}
use Rattle.module_semantics.specs.SignatureNames.{name_alone, rows_between, unit_names, bound_names, opened, empty_signature, also_bound}
use Rattle.module_semantics.specs.SignatureInference.{have_common, specified, variables_of, val_entry, exception_ty, infer_vals, infer_type_descs, infer_exception_specs, type_alone, value_alone, specified_cons, specified_types, names_of_types, lacks_equality, with_function, refuses_long, replaced, where_type, single, infer_sig, infer_spec, infer_structure_specs, infer_specs, signature_of}
use Rattle.module_semantics.specs.Matching.{matching, matched}
use Rattle.unit_semantics.specs.UnitPhrases.{ModulePhrase, ModuleDec, ModuleDecs, ModuleBinds, FunPhrase, FunsigPhrase, TopPhrase, read_module, read_binds, read_top, read_unit}
use Rattle.unit_semantics.specs.StructureInference.{module_at, core_scope, top_under, known_env, param_of, infer_module, infer_module_dec, infer_module_decs, infer_module_binds}
use Rattle.unit_semantics.specs.UnitInference.{top_with, with_given, has_variable, without_variables, names_since, top_with_param, infer_body, infer_result, infer_structures, infer_signatures, infer_functors, infer_funsigs, infer_top, infer_tops}
use Rattle.unit_laws.specs.Naming.{ValNamed, TypeNamed, SigNamed, SpecNamed, SigBindsNamed, SpecsNamed, ModuleNamed, ModuleDecNamed, ModuleDecsNamed, ModuleBindsNamed, FunNamed, FunsigNamed, TopNamed, NamedFunctor, NamedTop}
use Rattle.unit_laws.proofs.Realised.{to_known, put_is_changed}

-- whatever is given
always : {A B : Type 0} (Q : B → Type 0) (m : Answer A) (next : A → Answer B) → ((x : A) → Given Q (next x))
    → Given Q (m >>= next)
always Q None next h = tt
always Q (Some (Err d)) next h = tt
always Q (Some (Ok x)) next h = h x

module _ (good : List ℕ → Bool) where
  abbrev N : List ℕ → Type 0
  N = IsGood good

  abbrev T : TypeStr → Type 0
  T = NamedType good

  abbrev E : Env → Type 0
  E = NamedEnv good

  nothing : E empty_env
  nothing = env_nothing N T NamedValue

  parts : (rows : Table Env) → RowsWith N E rows → StructuresWith N T NamedValue (structures_of rows)
  parts [] h = tt
  parts (row ∷ rows) h = (h.0, h.1, parts rows h.2)

  one_structure : (name : List ℕ) (x env : Env) → N name → E x → E env → E (with_structure name x env)
  one_structure name x env h k l = (
    parts (with_entry name x (structures env))
        (rows_with N E name x (structures env) h k (env_structures N T NamedValue env l)),
    env_types N T NamedValue env l,
    env_values N T NamedValue env l,
  )

  one_value : (name : List ℕ) (value : ValueEntry) → N name → E (with_value name value empty_env)
  one_value name value h = env_with_value N T NamedValue name value empty_env h tt nothing

  one_type : (name : List ℕ) (str : TypeStr) → N name → T str → E (with_type name str empty_env)
  one_type name str h k = env_with_type N T NamedValue name str empty_env h k nothing

  -- ---- environments that are changed

  cons_changed : (c : Change) (cons : List ConEntry) → AllItems (λ (con : ConEntry). N con.name) cons
      → AllItems (λ (con : ConEntry). N con.name) (map (changed_con c) cons)
  cons_changed c [] h = tt
  cons_changed c (con ∷ cons) h = (h.0, cons_changed c cons h.1)

  types_changed : (c : Change) (rows : Table TypeStr) → RowsWith N T rows → RowsWith N T (each_row (changed_type c)
      rows)
  types_changed c [] h = tt
  types_changed c (row ∷ rows) h = (h.0, cons_changed c row.1.cons h.1, types_changed c rows h.2)

  values_changed : (c : Change) (rows : Table ValueEntry) → RowsWith N NamedValue rows
      → RowsWith N NamedValue (each_row (changed_value c) rows)
  values_changed c [] h = tt
  values_changed c (row ∷ rows) h = (h.0, tt, values_changed c rows h.2)

  mutual
    env_changed : (c : Change) (env : Env) → E env → E (changed c env)
    env_changed c (Env.MakeEnv ss ts vs) h =
        (structures_changed c ss h.0, types_changed c ts h.1, values_changed c vs h.2)

    structures_changed : (c : Change) (ss : Structures) → StructuresWith N T NamedValue ss
        → StructuresWith N T NamedValue (changed_structures c ss)
    structures_changed c Structures.Nil h = tt
    structures_changed c (Structures.Cons name env rest) h =
        (h.0, env_changed c env h.1, structures_changed c rest h.2)

  env_realised : (φ : Realisation) (env : Env) → E env → E (realised φ env)
  env_realised φ env h = env_changed (by_types (realised_tree φ)) env h

  env_known : (env : Env) (st : Progress) → E env → E (known_env env st)
  env_known env st h = subst E (sym (put_is_changed st.types.stands env)) (env_changed (to_known st.types.stands) env h)

  -- ---- specifications

  abbrev S : Signature → Type 0
  S sig = E sig.env

  abbrev Out : Signature × Progress → Type 0
  Out r = S r.0

  specified_named : (sc : Scope) (at : At) (part : Env) (made : Signature) → E part → S made
      → Given S (specified sc at part made)
  specified_named sc at part made h k =
      given_where S (have_common part made.env) 40 sc at _ (env_modified N T NamedValue made.env part k h)

  vals_named : (sc : Scope) (descs : List ValPhrase) (made : Signature) (st : Progress)
      → AllItems (ValNamed good) descs → S made → Given Out (infer_vals sc descs made st)
  vals_named sc [] made st p k = k
  vals_named sc (desc ∷ descs) made st p k =
      let own : List (List ℕ × ℕ) = (variables_of desc.ty st).0 in
      always Out (infer_ty (with_written_alone (as_written own) sc) desc.ty) _ (λ ty.
      given_then S Out
      (specified sc (name_at desc.name) (with_value desc.name.text (val_entry own ty) empty_env) made) _
      (specified_named sc (name_at desc.name) (with_value desc.name.text (val_entry own ty) empty_env) made
      (one_value desc.name.text (val_entry own ty) p.0) k) (λ sig m.
      vals_named sc descs sig (variables_of desc.ty st).1 p.1 m))

  type_descs_named : (sc : Scope) (eq : Bool) (descs : List TypeDescPhrase) (made : Signature) (st : Progress)
      → AllItems (TypeNamed good) descs → S made → Given Out (infer_type_descs sc eq descs made st)
  type_descs_named sc eq [] made st p k = k
  type_descs_named sc eq (desc ∷ descs) made st p k =
      let name : TyName = own_name sc.home st.names (length desc.tyvars) eq in
      always Out (listed sc desc.tyvars [] st) _ (λ r.
      given_then S Out
      (specified sc (name_at desc.name) (with_type desc.name.text (own_type name) empty_env)
      (also_bound (name ∷ []) made)) _
      (specified_named sc (name_at desc.name) (with_type desc.name.text (own_type name) empty_env)
      (also_bound (name ∷ []) made) (one_type desc.name.text (own_type name) p.0 tt) k) (λ sig m.
      type_descs_named sc eq descs sig (after_names 1 r.1) p.1 m))

  exceptions_named : (sc : Scope) (cons : List ConPhrase) (made : Signature) → AllItems (ConSpelt good) cons → S made
      → Given S (infer_exception_specs sc cons made)
  exceptions_named sc [] made p k = k
  exceptions_named sc (con ∷ cons) made p k =
      always S (infer_optional_ty (with_written_alone [] sc) con.arg) _ (λ arg.
      given_then S S
      (specified sc (name_at con.name)
      (with_value con.name.text (exception_entry (exception_ty arg)) empty_env) made) _
      (specified_named sc (name_at con.name) (with_value con.name.text (exception_entry (exception_ty arg)) empty_env)
      made (one_value con.name.text (exception_entry (exception_ty arg)) p.0.0) k) (λ sig m.
      exceptions_named sc cons sig p.1 m))

  type_alone_named : (name : List ℕ) (o : Option TypeStr) → N name → IfSome T o → E (type_alone name o)
  type_alone_named name None n h = nothing
  type_alone_named name (Some str) n h = one_type name str n h

  value_alone_named : (name : List ℕ) (o : Option ValueEntry) → N name → E (value_alone name o)
  value_alone_named name None n = nothing
  value_alone_named name (Some value) n = one_value name value n

  cons_specified : (sc : Scope) (cons : List ConPhrase) (new : Env) (made : Signature) → AllItems (ConSpelt good) cons
      → S made → Given S (specified_cons sc cons new made)
  cons_specified sc [] new made p k = k
  cons_specified sc (con ∷ cons) new made p k =
      let found : Option ValueEntry = entry con.name.text (values new) in
      given_then S S (specified sc (name_at con.name) (value_alone con.name.text found) made) _
      (specified_named sc (name_at con.name) (value_alone con.name.text found) made
      (value_alone_named con.name.text found p.0.0) k) (λ sig m. cons_specified sc cons new sig p.1 m)

  types_specified : (sc : Scope) (binds : List DatPhrase) (new : Env) (made : Signature)
      → AllItems (DatSpelt good) binds → E new → S made → Given S (specified_types sc binds new made)
  types_specified sc [] new made p h k = k
  types_specified sc (bind ∷ binds) new made p h k =
      let found : Option TypeStr = entry bind.name.text (types new) in
      given_then S S (specified sc (name_at bind.name) (type_alone bind.name.text found) made) _
      (specified_named sc (name_at bind.name) (type_alone bind.name.text found) made
      (type_alone_named bind.name.text found p.0.0
      (rows_found N T bind.name.text (types new) (env_types N T NamedValue new h))) k) (λ with l.
      given_then S S (specified_cons sc bind.cons new with) _ (cons_specified sc bind.cons new with p.0.1 l)
      (λ sig m. types_specified sc binds new sig p.1 h m))

  with_cons_named : (cons : List ConEntry) (env : Env) → AllItems (λ (con : ConEntry). N con.name) cons → E env
      → E (with_cons cons env)
  with_cons_named [] env h k = k
  with_cons_named (con ∷ cons) env h k =
      let value : ValueEntry = record { status = status.Constructor; scheme = con.scheme } in
      with_cons_named cons (with_value con.name value env) h.1
      (env_with_value N T NamedValue con.name value env h.0 tt k)

  replication_named : (sc : Scope) (name : Name) (long : LongName) → N name.text → E sc.env
      → Given E (infer_replication sc name long)
  replication_named sc name long n h =
      given_then T E (known sc long (found_at types long.parts sc.env)) _
      (given_known T sc long (found_at types long.parts sc.env)
      (env_found N T NamedValue T types (env_types N T NamedValue) long.parts sc.env h))
      (λ str k. with_cons_named str.cons (with_type name.text str empty_env) k (one_type name.text str n k))

  given_listed : (c : Bool) (sc : Scope) (at : At) (long : LongName) (sig : Signature) → S sig
      → Given S (cond c (gives sig) (refuses_long sc at long))
  given_listed true sc at long sig h = h
  given_listed false sc at long sig h = tt

  replaced_named : (sc : Scope) (at : At) (long : LongName) (by : TypeFn) (sig : Signature) (o : Option TyName) → S sig
      → Given S (replaced sc at long by sig o)
  replaced_named sc at long by sig None k = tt
  replaced_named sc at long by sig (Some name) k = given_listed (is_listed name sig.bound) sc at long
      (with_function name by sig) (env_realised (of_rows ((name, by) ∷ [])) sig.env k)

  where_named : (sc : Scope) (at : At) (long : LongName) (old by : TypeFn) (sig : Signature) → S sig
      → Given S (where_type sc at long old by sig)
  where_named sc at long old by sig k =
      given_where S (not (eqb by.arity old.arity)) 35 sc at _
      (given_where S (lacks_equality (name_alone old) by) 33 sc at _
      (replaced_named sc at long by sig (name_alone old) k))

  mutual
    sig_named : (sigs : Table Signature) (sc : Scope) (sig : SigPhrase) (st : Progress) → SigNamed good sig
        → RowsWith N S sigs → E sc.env → Given Out (infer_sig sigs sc sig st)
    sig_named sigs sc (SigPhrase.Sig spec at) st p s h = spec_named sigs sc spec empty_signature st p s h nothing
    sig_named sigs sc (SigPhrase.Named name at) st p s h =
        given_then S Out (known sc (single name) (entry name.text sigs)) _
        (given_known S sc (single name) (entry name.text sigs) (rows_found N S name.text sigs s))
        (λ sig k. env_realised (of_rows (rows_between sig.bound (unit_names sc.home st.names sig.bound))) sig.env k)
    sig_named sigs sc (SigPhrase.Where sig tyvars long ty at) st p s h =
        given_then Out Out (infer_sig sigs sc sig st) _ (sig_named sigs sc sig st p s h) (λ r k.
        always Out (listed sc tyvars [] r.1) _ (λ own.
        always Out (known sc long (found_at types long.parts r.0.env)) _ (λ str.
        always Out (infer_ty (with_written_alone (as_written own.0) sc) ty) _ (λ t.
        given_then S Out (where_type sc at long str.function (type_function (numbers own.0) t) r.0) _
        (where_named sc at long str.function (type_function (numbers own.0) t) r.0 k) (λ with m. m)))))

    spec_named : (sigs : Table Signature) (sc : Scope) (spec : SpecPhrase) (made : Signature) (st : Progress)
        → SpecNamed good spec → RowsWith N S sigs → E sc.env → S made → Given Out (infer_spec sigs sc spec made st)
    spec_named sigs sc (SpecPhrase.Vals descs at) made st p s h k = vals_named sc descs made st p k
    spec_named sigs sc (SpecPhrase.Types descs at) made st p s h k = type_descs_named sc false descs made st p k
    spec_named sigs sc (SpecPhrase.Eqtypes descs at) made st p s h k = type_descs_named sc true descs made st p k
    spec_named sigs sc (SpecPhrase.Datatypes binds at) made st p s h k =
        given_then (λ r. E r.0) Out (datatypes_of sc [] binds st) _ (datatypes_named good sc [] binds st p) (λ r l.
        given_then S Out (specified_types sc binds r.0 (also_bound (names_of_types binds r.0) made)) _
        (types_specified sc binds r.0 (also_bound (names_of_types binds r.0) made) p l k) (λ sig m. m))
    spec_named sigs sc (SpecPhrase.Replication name long at) made st p s h k =
        given_then E Out (infer_replication sc name long) _ (replication_named sc name long p h) (λ part l.
        given_then S Out (specified sc (name_at name) part made) _ (specified_named sc (name_at name) part made l k)
        (λ sig m. m))
    spec_named sigs sc (SpecPhrase.Exceptions cons at) made st p s h k =
        given_then S Out (infer_exception_specs sc cons made) _ (exceptions_named sc cons made p k) (λ sig m. m)
    spec_named sigs sc (SpecPhrase.Structures binds at) made st p s h k = binds_named sigs sc binds made st p s h k
    spec_named sigs sc (SpecPhrase.Include sig at) made st p s h k =
        given_then Out Out (infer_sig sigs sc sig st) _ (sig_named sigs sc sig st p s h) (λ r l.
        given_then S Out (specified sc at r.0.env (also_bound r.0.bound made)) _
        (specified_named sc at r.0.env (also_bound r.0.bound made) l k) (λ with m. m))
    spec_named sigs sc (SpecPhrase.Sequence specs at) made st p s h k = specs_named sigs sc specs made st p s h k

    binds_named : (sigs : Table Signature) (sc : Scope) (binds : SigBinds) (made : Signature) (st : Progress)
        → SigBindsNamed good binds → RowsWith N S sigs → E sc.env → S made
        → Given Out (infer_structure_specs sigs sc binds made st)
    binds_named sigs sc SigBinds.EndOfBinds made st p s h k = k
    binds_named sigs sc (SigBinds.Bind name sig rest) made st p s h k =
        given_then Out Out (infer_sig sigs sc sig st) _ (sig_named sigs sc sig st p.1 s h) (λ r l.
        given_then S Out
        (specified sc (name_at name) (with_structure name.text r.0.env empty_env) (also_bound r.0.bound made)) _
        (specified_named sc (name_at name) (with_structure name.text r.0.env empty_env) (also_bound r.0.bound made)
        (one_structure name.text r.0.env empty_env p.0 l nothing) k) (λ with m.
        binds_named sigs sc rest with r.1 p.2 s h m))

    specs_named : (sigs : Table Signature) (sc : Scope) (specs : SpecPhrases) (made : Signature) (st : Progress)
        → SpecsNamed good specs → RowsWith N S sigs → E sc.env → S made
        → Given Out (infer_specs sigs sc specs made st)
    specs_named sigs sc SpecPhrases.EndOfSpecs made st p s h k = k
    specs_named sigs sc (SpecPhrases.Next spec rest) made st p s h k =
        given_then Out Out (infer_spec sigs (under made.env sc) spec made st) _
        (spec_named sigs (under made.env sc) spec made st p.0 s
        (env_modified N T NamedValue sc.env made.env h k) k) (λ r l. specs_named sigs sc rest r.0 r.1 p.1 s h l)

  signature_named : (sigs : Table Signature) (sc : Scope) (sig : SigPhrase) (st : Progress) → SigNamed good sig
      → RowsWith N S sigs → E sc.env → Given Out (signature_of sigs sc sig st)
  signature_named sigs sc sig st p s h =
      given_then Out Out (infer_sig sigs sc sig st) _ (sig_named sigs sc sig st p s h) (λ r k.
      env_realised (of_rows (rows_between r.0.bound (bound_names 0 r.0.bound))) r.0.env k)

  env_opened : (home : List ℕ) (sig : Signature) (st : Progress) → S sig → S (opened home sig st).0
  env_opened home sig st h =
      env_realised (of_rows (rows_between sig.bound (unit_names home st.names sig.bound))) sig.env h

  -- ---- structures

  abbrev Mod : Env × Progress → Type 0
  Mod r = E r.0

  top_under_named : (top : Top) (d : Env) → NamedTop good top → E d → NamedTop good (top_under d top)
  top_under_named top d h k = record {
    env = env_modified N T NamedValue top.env d h.env k;
    signatures = h.signatures;
    functors = h.functors;
    funsigs = h.funsigs;
  }

  mutual
    module_named : (depth : ℕ) (home : List ℕ) (top : Top) (str : ModulePhrase) (st : Progress)
        → ModuleNamed good str → NamedTop good top → Given Mod (infer_module depth home top str st)
    module_named depth home top (ModulePhrase.Struct dec at) st p h = dec_of depth home top dec st p h
    module_named depth home top (ModulePhrase.Named long at) st p h =
        given_then E Mod (known (core_scope home top) long (found_at structures long.parts top.env)) _
        (given_known E (core_scope home top) long (found_at structures long.parts top.env)
        (env_found N T NamedValue E structures (env_structures N T NamedValue) long.parts top.env h.env)) (λ env k. k)
    module_named depth home top (ModulePhrase.Transparent str sig at) st p h =
        given_then Mod Mod (infer_module depth home top str st) _ (module_named depth home top str st p.0 h) (λ e k.
        given_then Out Mod (signature_of top.signatures (core_scope home top) sig e.1) _
        (signature_named top.signatures (core_scope home top) sig e.1 p.1 h.signatures h.env) (λ r l.
        given_then E Mod (matched (core_scope home top) (module_at str) r.1.types (known_env e.0 r.1) r.0) _
        (always E (matching (core_scope home top) (module_at str) r.1.types (known_env e.0 r.1) r.0) _
        (λ rows. env_realised (of_rows rows) r.0.env l)) (λ made m. m)))
    module_named depth home top (ModulePhrase.Opaque str sig at) st p h =
        given_then Mod Mod (infer_module depth home top str st) _ (module_named depth home top str st p.0 h) (λ e k.
        given_then Out Mod (signature_of top.signatures (core_scope home top) sig e.1) _
        (signature_named top.signatures (core_scope home top) sig e.1 p.1 h.signatures h.env) (λ r l.
        always Mod (matched (core_scope home top) (module_at str) r.1.types (known_env e.0 r.1) r.0) _ (λ made.
        env_realised (of_rows (rows_between r.0.bound (unit_names home r.1.names r.0.bound))) r.0.env l)))
    module_named depth home top (ModulePhrase.Functor name argument at) st p h =
        given_then (NamedFunctor good) Mod (known (core_scope home top) (single name) (entry name.text top.functors)) _
        (given_known (NamedFunctor good) (core_scope home top) (single name) (entry name.text top.functors)
        (rows_found N (NamedFunctor good) name.text top.functors h.functors)) (λ fun f.
        always Mod (infer_module depth home top argument st) _ (λ e.
        always Mod
        (matching (core_scope home top) (module_at argument) e.1.types (known_env e.0 e.1) (param_of fun)) _ (λ rows.
        env_realised (of_rows (rows ++ rows_between fun.further (unit_names home e.1.names fun.further))) fun.result
        f.1)))
    module_named depth home top (ModulePhrase.Within dec body at) st p h =
        given_then Mod Mod (infer_module_dec depth home top dec st) _ (dec_of depth home top dec st p.0 h) (λ d k.
        module_named depth home (top_under d.0 top) body d.1 p.1 (top_under_named top d.0 h k))

    dec_of : (depth : ℕ) (home : List ℕ) (top : Top) (dec : ModuleDec) (st : Progress) → ModuleDecNamed good dec
        → NamedTop good top → Given Mod (infer_module_dec depth home top dec st)
    dec_of depth home top (ModuleDec.Core dec) st p h = dec_named good depth (core_scope home top) dec st p h.env
    dec_of depth home top (ModuleDec.Local hidden shown at) st p h =
        given_then Mod Mod (infer_module_dec depth home top hidden st) _ (dec_of depth home top hidden st p.0 h) (λ d k.
        given_then Mod Mod (infer_module_dec depth home (top_under d.0 top) shown d.1) _
        (dec_of depth home (top_under d.0 top) shown d.1 p.1 (top_under_named top d.0 h k)) (λ r l.
        given_where Mod (has_too_large r.1.types.stands r.0) 38 (core_scope home top) at _ l))
    dec_of depth home top (ModuleDec.Sequence decs at) st p h = decs_of depth home top decs st p h
    dec_of depth home top (ModuleDec.Structures binds at) st p h =
        given_then Mod Mod (infer_module_binds depth home top binds empty_env st) _
        (binds_of depth home top binds empty_env st p h nothing) (λ r l.
        given_where Mod (has_too_large r.1.types.stands r.0) 38 (core_scope home top) at _ l)

    decs_of : (depth : ℕ) (home : List ℕ) (top : Top) (decs : ModuleDecs) (st : Progress)
        → ModuleDecsNamed good decs → NamedTop good top → Given Mod (infer_module_decs depth home top decs st)
    decs_of depth home top ModuleDecs.EndOfDecs st p h = nothing
    decs_of depth home top (ModuleDecs.Dec dec rest) st p h =
        given_then Mod Mod (infer_module_dec depth home top dec st) _ (dec_of depth home top dec st p.0 h) (λ d k.
        given_then Mod Mod (infer_module_decs depth home (top_under d.0 top) rest d.1) _
        (decs_of depth home (top_under d.0 top) rest d.1 p.1 (top_under_named top d.0 h k))
        (λ r l. env_modified N T NamedValue d.0 r.0 k l))

    binds_of : (depth : ℕ) (home : List ℕ) (top : Top) (binds : ModuleBinds) (made : Env) (st : Progress)
        → ModuleBindsNamed good binds → NamedTop good top → E made
        → Given Mod (infer_module_binds depth home top binds made st)
    binds_of depth home top ModuleBinds.EndOfBinds made st p h k = k
    binds_of depth home top (ModuleBinds.Bind name str rest) made st p h k =
        always Mod (new_label (core_scope home top) name (structures made)) _ (λ u.
        given_then Mod Mod (infer_module depth home top str st) _ (module_named depth home top str st p.1 h) (λ r l.
        binds_of depth home top rest (with_structure name.text r.0 made) r.1 p.2 h
        (one_structure name.text r.0 made p.0 l k)))

  -- ---- units

  known_named : (sc : Scope) (name : Name) (r : Env × Progress) → Mod r → Given Mod (without_variables sc name r)
  known_named sc name r h =
      given_where Mod (has_variable (known_env r.0 r.1)) 42 sc (name_at name) _ (env_known r.0 r.1 h)

  structures_named : (depth : ℕ) (home : List ℕ) (top : Top) (binds : ModuleBinds) (made : Env) (st : Progress)
      → ModuleBindsNamed good binds → NamedTop good top → E made
      → Given Mod (infer_structures depth home top binds made st)
  structures_named depth home top ModuleBinds.EndOfBinds made st p h k = k
  structures_named depth home top (ModuleBinds.Bind name str rest) made st p h k =
      always Mod (new_label (core_scope home top) name (structures made)) _ (λ u.
      given_then Mod Mod (infer_module depth home top str st) _ (module_named depth home top str st p.1 h) (λ r l.
      given_then Mod Mod (without_variables (core_scope home top) name r) _
      (known_named (core_scope home top) name r l) (λ e m.
      structures_named depth home top rest (with_structure name.text e.0 made) e.1 p.2 h
      (one_structure name.text e.0 made p.0 m k))))

  abbrev Rows_ : {A : Type 0} → (A → Type 0) → Table A × Progress → Type 0
  Rows_ R r = RowsWith N R r.0

  signatures_named : (home : List ℕ) (top : Top) (binds : SigBinds) (made : Table Signature) (st : Progress)
      → SigBindsNamed good binds → NamedTop good top → RowsWith N S made
      → Given (Rows_ S) (infer_signatures home top binds made st)
  signatures_named home top SigBinds.EndOfBinds made st p h k = k
  signatures_named home top (SigBinds.Bind name sig rest) made st p h k =
      always (Rows_ S) (new_label (core_scope home top) name made) _ (λ u.
      given_then Out (Rows_ S) (signature_of top.signatures (core_scope home top) sig st) _
      (signature_named top.signatures (core_scope home top) sig st p.1 h.signatures h.env) (λ r l.
      signatures_named home top rest (with_entry name.text r.0 made) r.1 p.2 h
      (rows_with N S name.text r.0 made p.0 l k)))

  with_param : (top : Top) (name : Name) (param : Env) → NamedTop good top → N name.text → E param
      → NamedTop good (top_with_param name param top)
  with_param top name param h n k =
      top_under_named top (with_structure name.text param empty_env) h (one_structure name.text param empty_env n k
      nothing)

  functors_named : (depth : ℕ) (home : List ℕ) (top : Top) (binds : List FunPhrase) (made : Table Functor)
      (st : Progress) → AllItems (FunNamed good) binds → NamedTop good top → RowsWith N (NamedFunctor good) made
      → Given (Rows_ (NamedFunctor good)) (infer_functors depth home top binds made st)
  functors_named depth home top [] made st p h k = k
  functors_named depth home top (bind ∷ binds) made st p h k =
      let F : Functor → Type 0 = NamedFunctor good in
      always (Rows_ F) (new_label (core_scope home top) bind.name made) _ (λ u.
      given_then Out (Rows_ F) (signature_of top.signatures (core_scope home top) bind.param_sig st) _
      (signature_named top.signatures (core_scope home top) bind.param_sig st p.0.param_sig h.signatures h.env) (λ s l.
      let inside : Signature × Progress = opened home s.0 s.1 in
      given_then (λ r. F r.0) (Rows_ F) (infer_body depth home top bind s.0 inside) _
      (given_then Mod (λ r. F r.0) (infer_module depth home (top_with_param bind.param inside.0.env top) bind.body
      inside.1) _
      (module_named depth home (top_with_param bind.param inside.0.env top) bind.body inside.1 p.0.body
      (with_param top bind.param inside.0.env h p.0.param (env_opened home s.0 s.1 l))) (λ r m.
      given_then Mod (λ r. F r.0) (without_variables (core_scope home top) bind.name r) _
      (known_named (core_scope home top) bind.name r m) (λ e n.
      let names : List TyName = names_since home inside.1.names e.0 in (
        l,
        env_realised (of_rows (rows_between (inside.0.bound ++ names)
            (s.0.bound ++ bound_names (length s.0.bound) names))) e.0 n,
      )))) (λ r m.
      functors_named depth home top binds (with_entry bind.name.text r.0 made) r.1 p.1 h
      (rows_with N F bind.name.text r.0 made p.0.name m k))))

  funsigs_named : (home : List ℕ) (top : Top) (binds : List FunsigPhrase) (made : Table Functor) (st : Progress)
      → AllItems (FunsigNamed good) binds → NamedTop good top → RowsWith N (NamedFunctor good) made
      → Given (Rows_ (NamedFunctor good)) (infer_funsigs home top binds made st)
  funsigs_named home top [] made st p h k = k
  funsigs_named home top (bind ∷ binds) made st p h k =
      let F : Functor → Type 0 = NamedFunctor good in
      always (Rows_ F) (new_label (core_scope home top) bind.name made) _ (λ u.
      given_then Out (Rows_ F) (signature_of top.signatures (core_scope home top) bind.param_sig st) _
      (signature_named top.signatures (core_scope home top) bind.param_sig st p.0.param_sig h.signatures h.env) (λ s l.
      let inside : Signature × Progress = opened home s.0 s.1 in
      let inner : Top = top_with_param bind.param inside.0.env top in
      given_then (λ r. F r.0) (Rows_ F) (infer_result home top bind s.0 inside) _
      (given_then Out (λ r. F r.0) (signature_of top.signatures (core_scope home inner) bind.result_sig inside.1) _
      (signature_named top.signatures (core_scope home inner) bind.result_sig inside.1 p.0.result_sig h.signatures
      (with_param top bind.param inside.0.env h p.0.param (env_opened home s.0 s.1 l)).env) (λ r m. (
        l,
        env_realised (of_rows (rows_between (inside.0.bound ++ r.0.bound)
            (s.0.bound ++ bound_names (length s.0.bound) r.0.bound))) r.0.env m,
      ))) (λ r m.
      funsigs_named home top binds (with_entry bind.name.text r.0 made) r.1 p.1 h
      (rows_with N F bind.name.text r.0 made p.0.name m k))))

  abbrev TopIn : Top × Progress → Type 0
  TopIn r = NamedTop good r.0

  top_named : (depth : ℕ) (home : List ℕ) (top : Top) (dec : TopPhrase) (st : Progress) → TopNamed good dec
      → NamedTop good top → Given TopIn (infer_top depth home top dec st)
  top_named depth home top (TopPhrase.Structures binds at) st p h =
      given_then Mod TopIn (infer_structures depth home top binds empty_env st) _
      (structures_named depth home top binds empty_env st p h nothing)
      (λ r k. record { env = k; signatures = tt; functors = tt; funsigs = tt })
  top_named depth home top (TopPhrase.Signatures binds at) st p h =
      given_then (Rows_ S) TopIn (infer_signatures home top binds [] st) _ (signatures_named home top binds [] st p h
      tt)
      (λ r k. record { env = nothing; signatures = k; functors = tt; funsigs = tt })
  top_named depth home top (TopPhrase.Functors binds at) st p h =
      given_then (Rows_ (NamedFunctor good)) TopIn (infer_functors depth home top binds [] st) _
      (functors_named depth home top binds [] st p h tt)
      (λ r k. record { env = nothing; signatures = tt; functors = k; funsigs = tt })
  top_named depth home top (TopPhrase.Funsigs binds at) st p h =
      given_then (Rows_ (NamedFunctor good)) TopIn (infer_funsigs home top binds [] st) _
      (funsigs_named home top binds [] st p h tt)
      (λ r k. record { env = nothing; signatures = tt; functors = tt; funsigs = k })

  both_named : (first second : Top) → NamedTop good first → NamedTop good second → NamedTop good (top_with first second)
  both_named first second h k = record {
    env = env_modified N T NamedValue first.env second.env h.env k.env;
    signatures = rows_with_all N S second.signatures first.signatures k.signatures h.signatures;
    functors = rows_with_all N (NamedFunctor good) second.functors first.functors k.functors h.functors;
    funsigs = rows_with_all N (NamedFunctor good) second.funsigs first.funsigs k.funsigs h.funsigs;
  }

  pub tops_named : (depth : ℕ) (home : List ℕ) (top : Top) (decs : List TopPhrase) (st : Progress)
      → AllItems (TopNamed good) decs → NamedTop good top → Given TopIn (infer_tops depth home top decs st)
  tops_named depth home top [] st p h = record { env = nothing; signatures = tt; functors = tt; funsigs = tt }
  tops_named depth home top (dec ∷ decs) st p h =
      given_then TopIn TopIn (infer_top depth home top dec st) _ (top_named depth home top dec st p.0 h) (λ r k.
      given_then TopIn TopIn (infer_tops depth home (top_with top r.0) decs r.1) _
      (tops_named depth home (top_with top r.0) decs r.1 p.1 (both_named top r.0 h k))
      (λ q l. both_named r.0 q.0 k l))

-- ---- the option that seals changes no name

module_read : (good : List ℕ → Bool) (sealing : Bool) (str : ModulePhrase) → ModuleNamed good str
    → ModuleNamed good (read_module sealing str)
module_read good sealing (ModulePhrase.Struct dec at) h = h
module_read good sealing (ModulePhrase.Named long at) h = h
module_read good false (ModulePhrase.Transparent str sig at) h = h
module_read good true (ModulePhrase.Transparent str sig at) h = h
module_read good sealing (ModulePhrase.Opaque str sig at) h = h
module_read good sealing (ModulePhrase.Functor name argument at) h = h
module_read good sealing (ModulePhrase.Within dec body at) h = h

binds_read : (good : List ℕ → Bool) (sealing : Bool) (binds : ModuleBinds) → ModuleBindsNamed good binds
    → ModuleBindsNamed good (read_binds sealing binds)
binds_read good sealing ModuleBinds.EndOfBinds h = tt
binds_read good sealing (ModuleBinds.Bind name str rest) h =
    (h.0, module_read good sealing str h.1, binds_read good sealing rest h.2)

top_read : (good : List ℕ → Bool) (sealing : Bool) (top : TopPhrase) → TopNamed good top
    → TopNamed good (read_top sealing top)
top_read good sealing (TopPhrase.Structures binds at) h = binds_read good sealing binds h
top_read good sealing (TopPhrase.Signatures binds at) h = h
top_read good sealing (TopPhrase.Functors binds at) h = h
top_read good sealing (TopPhrase.Funsigs binds at) h = h

unit_read : (good : List ℕ → Bool) (sealing : Bool) (tops : List TopPhrase) → AllItems (TopNamed good) tops
    → AllItems (TopNamed good) (read_unit sealing tops)
unit_read good sealing [] h = tt
unit_read good sealing (top ∷ tops) h = (top_read good sealing top h.0, unit_read good sealing tops h.1)

pub units_keep_names : Rattle.unit_laws.specs.Promises.UnitsKeepNames
units_keep_names = record {
  all = λ good depth home basis given sealing tops st p h k.
      tops_named good depth home (with_given basis given) (read_unit sealing tops) st (unit_read good sealing tops p)
      (record {
        env = env_modified (IsGood good) (NamedType good) NamedValue basis given.env h k.env;
        signatures = k.signatures;
        functors = k.functors;
        funsigs = k.funsigs;
      });
}
