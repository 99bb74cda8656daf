-- What signatures are made of.
use Rattle.std.proofs.Common.{◌≡◌, ℕ, suc, ◌+◌, ◌<◌, List, [], ◌∷◌, ◌++◌, map, length, refl, ap, ◌∙◌, arith, Option, Some, None, Bool, true, false, ◌||◌, not, cond, eqb}
use Rattle.std.proofs.lemmas.List.{length-map}
use Rattle.sml_trees.specs.declared.name.At.{At}
use Rattle.sml_trees.specs.declared.name.Name.{Name}
use Rattle.sml_trees.specs.declared.name.LongName.{LongName}
use Rattle.semantic_objects.specs.declared.name.TyName.{TyName}
use Rattle.semantic_objects.specs.declared.symbol.Symbol.TheVariants as symbol
use Rattle.semantic_objects.specs.declared.entry.TypeFn.{TypeFn}
use Rattle.semantic_objects.specs.declared.entry.TypeStr.{TypeStr}
use Rattle.semantic_objects.specs.declared.entry.ValueEntry.{ValueEntry}
use Rattle.semantic_objects.specs.Tables.{Table, entry, with_entry}
use Rattle.semantic_objects.specs.Environments.{Env, Signature, structures, types, values, empty_env, with_structure, with_type, with_value}
use Rattle.unification.specs.Types.{Ty}
use Rattle.bare_phrases.specs.Phrases.{TyPhrase, ConPhrase, DatPhrase}
use Rattle.realisation.specs.Names.{is_listed}
use Rattle.realisation.specs.Realised.{of_rows}
use Rattle.static_semantics.specs.BasicTypes.{exn_ty, is_equality_variable}
use Rattle.static_semantics.specs.Inferring.{Progress, Scope, under, with_written_alone, Answer, ◌>>=◌, gives, name_at, known, found_at, is_named}
use Rattle.static_semantics.specs.WrittenVariables.{tyvars_of_ty, by_place, texts_once}
use Rattle.static_semantics.specs.TypeInference.{infer_ty, new_rigid, listed, numbers, as_written, type_function}
use Rattle.static_semantics.specs.DatatypeInference.{own_name, own_type, after_names, infer_optional_ty, datatypes_of, infer_replication, exception_entry}
use Rattle.static_semantics.specs.CoreInference.{implicit}
use Rattle.static_semantics.specs.Holding.{Given, IfSome, AllItems, AllRows, TypeHas, ValueHas}
use Rattle.static_semantics.proofs.Holding.{given_then, given_where, given_known, rows_with, rows_found, table_structures, has_structures, has_types, has_values, has_nothing, has_with_type, has_with_value, has_modified}
use Rattle.static_semantics.proofs.TypesGrow.{given_more}
use Rattle.inference_laws.specs.Nodes.{Nodes, TyOf, StateOf, SchemeOf, FunctionOf, EnvOf, Admits, ScopeOf, IsOf, DecOf, Makes, MayStand, IsReadyFor, below_number}
use Rattle.inference_laws.specs.Spelling.{TySpelt, OptionalSpelt, ConSpelt, DatSpelt}
use Rattle.inference_laws.proofs.Nodes.{tree_closed, closed_binds, ty_arrow}
use Rattle.inference_laws.proofs.Making.{plain, after, before, ready_after, ready_same, all_step, all_first, less}
use Rattle.inference_laws.proofs.TypesMade.{ty_of, IsListed, listed_of, state_same, list_scope, function_closed}
use Rattle.inference_laws.proofs.DatatypesMade.{under_of, datatypes_made, replication_of, variable_of, exn_of}
use Rattle.module_semantics.specs.SigPhrases.{ValPhrase, TypeDescPhrase, SigPhrase, SpecPhrase, SigBinds, SpecPhrases}
use Rattle.module_semantics.specs.SignatureNames.{name_alone, rows_between, unit_names, bound_names, opened, closed, empty_signature, also_bound}
use Rattle.module_semantics.specs.SignatureInference.{have_common, specified, variables_of, val_entry, infer_vals, infer_type_descs, exception_ty, infer_exception_specs, type_alone, value_alone, specified_cons, specified_types, names_of_types, infer_datatype_specs, lacks_equality, with_function, refuses_long, replaced, where_type, single, infer_sig, infer_spec, infer_structure_specs, infer_specs, signature_of}
use Rattle.unit_laws.specs.Spelling.{ValSpelt, SigSpelt, SpecSpelt, SigBindsSpelt, SpecsSpelt}
use Rattle.unit_laws.specs.Parts.{allowing, SignatureOf}
use Rattle.unit_laws.proofs.Realised.{env_realised}
use Rattle.unit_laws.proofs.Naming.{own_type_of, passes_same, rows_realise, has_between, between_of, from_allowed, to_allowed, unit_numbered, unit_length, bound_numbered}

-- ---- environments

pub nothing_of : (q : Nodes) → EnvOf q empty_env
nothing_of q = has_nothing (SchemeOf q) (FunctionOf q)

pub one_structure : (q : Nodes) (name : List ℕ) (x env : Env) → EnvOf q x → EnvOf q env
    → EnvOf q (with_structure name x env)
one_structure q name x env h k = (
  table_structures (SchemeOf q) (FunctionOf q) (with_entry name x (structures env))
      (rows_with (EnvOf q) name x (structures env) h (has_structures (SchemeOf q) (FunctionOf q) env k)),
  has_types (SchemeOf q) (FunctionOf q) env k,
  has_values (SchemeOf q) (FunctionOf q) env k,
)

one_value : (q : Nodes) (name : List ℕ) (value : ValueEntry) → SchemeOf q value.scheme
    → EnvOf q (with_value name value empty_env)
one_value q name value h = has_with_value (SchemeOf q) (FunctionOf q) name value empty_env h (nothing_of q)

one_type : (q : Nodes) (name : List ℕ) (str : TypeStr) → TypeHas (SchemeOf q) (FunctionOf q) str
    → EnvOf q (with_type name str empty_env)
one_type q name str h = has_with_type (SchemeOf q) (FunctionOf q) name str empty_env h (nothing_of q)

-- the empty record may stand
pub empty_stands : (good : List ℕ → Bool) (q : Nodes) → Admits good q → q (symbol.Record []) 0 ≡ true
empty_stands good q h = h.records [] tt tt

-- ---- bindings of specifications

abbrev SigOf : Nodes → Signature → Type 0
SigOf q sig = EnvOf q sig.env

abbrev pub OutOf : Signature × Progress → Nodes → Type 0
OutOf r q = StateOf q r.1.types × EnvOf q r.0.env

-- .. where no name is made
abbrev PlainOf : Nodes → Progress → Signature × Progress → Type 0
PlainOf q st r = (r.1.names ≡ st.names) × StateOf q r.1.types × EnvOf q r.0.env

specified_of : (q : Nodes) (sc : Scope) (at : At) (part : Env) (made : Signature) → EnvOf q part → SigOf q made
    → Given (SigOf q) (specified sc at part made)
specified_of q sc at part made h k = given_where (SigOf q) (have_common part made.env) 40 sc at _
    (has_modified (SchemeOf q) (FunctionOf q) made.env part k h)

-- written variables put nothing in and make no name
record IsStill (st : Progress) (r : List (List ℕ × ℕ) × Progress) : Type 0 where
  stands : r.1.types.stands ≡ st.types.stands
  names : r.1.names ≡ st.names

either_still : (st : Progress) (c : Bool) (a b : List (List ℕ × ℕ) × Progress) → IsStill st a → IsStill st b
    → IsStill st (cond c a b)
either_still st true a b h k = h
either_still st false a b h k = k

still : (texts : List (List ℕ)) (before : List (List ℕ × ℕ)) (st : Progress) → IsStill st (implicit [] texts before st)
still [] before st = record { stands = refl; names = refl }
still (text ∷ texts) before st =
    let next : IsStill (new_rigid text st)
    (implicit [] texts (before ++ (text, st.types.next) ∷ []) (new_rigid text st)) =
    still texts (before ++ (text, st.types.next) ∷ []) (new_rigid text st) in
    either_still st (is_named text before || is_named {A = Ty} text []) (implicit [] texts before st)
    (implicit [] texts (before ++ (text, st.types.next) ∷ []) (new_rigid text st))
    (still texts before st) (record { stands = next.stands; names = next.names })

val_of : (q : Nodes) (own : List (List ℕ × ℕ)) (ty : Ty) → TyOf q ty → SchemeOf q (val_entry own ty).scheme
val_of q own ty h = record {
  closed = λ i k. (let l : i < length (numbers own) = closed_binds (numbers own) ty i k in
      let m : length (numbers own) ≡ length own = length-map own (λ row. row.1) in
      let n : length (map (λ row. is_equality_variable row.0) own) ≡ length own =
      length-map own (λ row. is_equality_variable row.0) in omega (arith, l, m, n));
  body = tree_closed q (numbers own) ty h;
}

vals_of : (good : List ℕ → Bool) (q : Nodes) (sc : Scope) (descs : List ValPhrase) (made : Signature) (st : Progress)
    → AllItems (ValSpelt good) descs → IsOf good sc st q → SigOf q made → Given (PlainOf q st) (infer_vals sc descs
    made st)
vals_of good q sc [] made st p h k = (refl, h.state, k)
vals_of good q sc (desc ∷ descs) made st p h k =
    let own : List (List ℕ × ℕ) = (variables_of desc.ty st).0 in
    let next : Progress = (variables_of desc.ty st).1 in
    let s : IsStill st (variables_of desc.ty st) = still (texts_once [] (by_place (tyvars_of_ty desc.ty))) [] st in
    given_then (TyOf q) (PlainOf q st) (infer_ty (with_written_alone (as_written own) sc) desc.ty) _
    (ty_of good q (with_written_alone (as_written own) sc) desc.ty p.0 (list_scope good q sc own h.scope)) (λ ty l.
    given_then (SigOf q) (PlainOf q st)
    (specified sc (name_at desc.name) (with_value desc.name.text (val_entry own ty) empty_env) made) _
    (specified_of q sc (name_at desc.name) (with_value desc.name.text (val_entry own ty) empty_env) made
    (one_value q desc.name.text (val_entry own ty) (val_of q own ty l)) k) (λ sig m.
    given_more (PlainOf q next) (PlainOf q st) (infer_vals sc descs sig next) (λ r i. (i.0 ∙ s.names, i.1, i.2))
    (vals_of good q sc descs sig next p.1
    (record { scope = h.scope; state = state_same q next.types st.types.stands s.stands h.state }) m)))

optional_of : (good : List ℕ → Bool) (q : Nodes) (sc : Scope) (ty : Option TyPhrase) → OptionalSpelt good ty
    → ScopeOf good sc q → Given (IfSome (TyOf q)) (infer_optional_ty sc ty)
optional_of good q sc None p h = tt
optional_of good q sc (Some ty) p h = given_then (TyOf q) (IfSome (TyOf q)) (infer_ty sc ty) _ (ty_of good q sc ty p h)
    (λ t k. k)

exception_of : (good : List ℕ → Bool) (q : Nodes) (arg : Option Ty) → Admits good q → IfSome (TyOf q) arg
    → TyOf q (exception_ty arg)
exception_of good q None h k = exn_of good q h
exception_of good q (Some t) h k = ty_arrow good q t exn_ty h k (exn_of good q h)

exceptions_of : (good : List ℕ → Bool) (q : Nodes) (sc : Scope) (cons : List ConPhrase) (made : Signature)
    → AllItems (ConSpelt good) cons → ScopeOf good sc q → SigOf q made
    → Given (SigOf q) (infer_exception_specs sc cons made)
exceptions_of good q sc [] made p h k = k
exceptions_of good q sc (con ∷ cons) made p h k =
    given_then (IfSome (TyOf q)) (SigOf q) (infer_optional_ty (with_written_alone [] sc) con.arg) _
    (optional_of good q (with_written_alone [] sc) con.arg p.0.1 (list_scope good q sc [] h)) (λ arg l.
    given_then (SigOf q) (SigOf q)
    (specified sc (name_at con.name)
    (with_value con.name.text (exception_entry (exception_ty arg)) empty_env) made) _
    (specified_of q sc (name_at con.name) (with_value con.name.text (exception_entry (exception_ty arg)) empty_env)
    made (one_value q con.name.text (exception_entry (exception_ty arg))
    (variable_of q (exception_ty arg) (exception_of good q arg h.admits l))) k) (λ sig m.
    exceptions_of good q sc cons sig p.1 h m))

-- ---- types of new names

abbrev FromSig : Signature → Progress → Nodes → Type 0
FromSig made st q = StateOf q st.types × EnvOf q made.env

one_name : (home : List ℕ) (made sig : Signature) (st u : Progress) (name : TyName) → name ≡ own_name home st.names
    name.arity name.eq
    → u.types.stands ≡ st.types.stands → u.names ≡ st.names
    → ((q : Nodes) → SigOf q made → MayStand q name → SigOf q sig)
    → Makes home (FromSig made st) st (after_names 1 u) (OutOf (sig, after_names 1 u))
one_name home made sig st u name e s n f = record {
  names = name ∷ [];
  numbered = (
    ap (λ (x : TyName). x.owner) e,
    ap (λ (x : TyName). x.number) e,
    (let k : suc st.names ≡ u.names + 1 = omega (arith, n) in k),
  );
  holds = λ q p m. (state_same q u.types st.types.stands s p.0, f q p.1 m.0);
}

type_descs_made : (sc : Scope) (eq : Bool) (descs : List TypeDescPhrase) (made : Signature) (st : Progress)
    → IsReadyFor sc.home (FromSig made st) st.names
    → Given (λ r. Makes sc.home (FromSig made st) st r.1 (OutOf r)) (infer_type_descs sc eq descs made st)
type_descs_made sc eq [] made st h = plain refl (λ q i. i)
type_descs_made sc eq (desc ∷ descs) made st h =
    let Whole : Signature × Progress → Type 0 = λ r. Makes sc.home (FromSig made st) st r.1 (OutOf r) in
    let name : TyName = own_name sc.home st.names (length desc.tyvars) eq in
    given_then (IsListed 0 (length desc.tyvars) st) Whole (listed sc desc.tyvars [] st) _
    (listed_of sc desc.tyvars [] st) (λ r l.
    given_then (λ sig. (q : Nodes) → SigOf q made → MayStand q name → SigOf q sig) Whole
    (specified sc (name_at desc.name) (with_type desc.name.text (own_type name) empty_env)
    (also_bound (name ∷ []) made)) _
    (given_where (λ sig. (q : Nodes) → SigOf q made → MayStand q name → SigOf q sig)
    (have_common (with_type desc.name.text (own_type name) empty_env) made.env) 40 sc (name_at desc.name) _
    (λ q i j. has_modified (SchemeOf q) (FunctionOf q) made.env (with_type desc.name.text (own_type name) empty_env) i
    (one_type q desc.name.text (own_type name) (own_type_of q name j)))) (λ sig m.
    let first : Makes sc.home (FromSig made st) st (after_names 1 r.1) (OutOf (sig, after_names 1 r.1)) =
    one_name sc.home made sig st r.1 name refl l.stands l.names m in
    given_more (λ v. Makes sc.home (FromSig sig (after_names 1 r.1)) (after_names 1 r.1) v.1 (OutOf v)) Whole
    (infer_type_descs sc eq descs sig (after_names 1 r.1))
    (λ v k. less (after first k (λ q i j. j)) (λ q i j. j.1))
    (type_descs_made sc eq descs sig (after_names 1 r.1) (ready_after h first (λ q i j. j)))))

-- ---- `datatype`

type_alone_of : (q : Nodes) (name : List ℕ) (o : Option TypeStr) → IfSome (TypeHas (SchemeOf q) (FunctionOf q)) o
    → EnvOf q (type_alone name o)
type_alone_of q name None h = nothing_of q
type_alone_of q name (Some str) h = one_type q name str h

value_alone_of : (q : Nodes) (name : List ℕ) (o : Option ValueEntry) → IfSome (ValueHas (SchemeOf q)) o
    → EnvOf q (value_alone name o)
value_alone_of q name None h = nothing_of q
value_alone_of q name (Some value) h = one_value q name value h

cons_specified : (q : Nodes) (sc : Scope) (cons : List ConPhrase) (new : Env) (made : Signature) → EnvOf q new
    → SigOf q made → Given (SigOf q) (specified_cons sc cons new made)
cons_specified q sc [] new made h k = k
cons_specified q sc (con ∷ cons) new made h k =
    let found : Option ValueEntry = entry con.name.text (values new) in
    given_then (SigOf q) (SigOf q) (specified sc (name_at con.name) (value_alone con.name.text found) made) _
    (specified_of q sc (name_at con.name) (value_alone con.name.text found) made
    (value_alone_of q con.name.text found (rows_found (ValueHas (SchemeOf q)) con.name.text (values new)
    (has_values (SchemeOf q) (FunctionOf q) new h))) k) (λ sig m. cons_specified q sc cons new sig h m)

types_specified : (q : Nodes) (sc : Scope) (binds : List DatPhrase) (new : Env) (made : Signature) → EnvOf q new
    → SigOf q made → Given (SigOf q) (specified_types sc binds new made)
types_specified q sc [] new made h k = k
types_specified q sc (bind ∷ binds) new made h k =
    let found : Option TypeStr = entry bind.name.text (types new) in
    given_then (SigOf q) (SigOf q) (specified sc (name_at bind.name) (type_alone bind.name.text found) made) _
    (specified_of q sc (name_at bind.name) (type_alone bind.name.text found) made
    (type_alone_of q bind.name.text found (rows_found (TypeHas (SchemeOf q) (FunctionOf q)) bind.name.text
    (types new) (has_types (SchemeOf q) (FunctionOf q) new h))) k) (λ with l.
    given_then (SigOf q) (SigOf q) (specified_cons sc bind.cons new with) _ (cons_specified q sc bind.cons new with h l)
    (λ sig m. types_specified q sc binds new sig h m))

-- what is around a specification, with what the signature specifies so far
abbrev FromSpec : (List ℕ → Bool) → Scope → Signature → Progress → Nodes → Type 0
FromSpec good sc made st q = IsOf good sc st q × EnvOf q made.env

datatype_specs_made : (good : List ℕ → Bool) (sc : Scope) (binds : List DatPhrase) (made : Signature) (st : Progress)
    → AllItems (DatSpelt good) binds → IsReadyFor sc.home (FromSpec good sc made st) st.names
    → Given (λ r. Makes sc.home (FromSpec good sc made st) st r.1 (OutOf r)) (infer_datatype_specs sc binds made st)
datatype_specs_made good sc binds made st p h =
    let From : Nodes → Type 0 = FromSpec good sc made st in
    given_then (λ r. Makes sc.home (IsOf good sc st) st r.1 (DecOf r)) (λ r. Makes sc.home From st r.1 (OutOf r))
    (datatypes_of sc [] binds st) _
    (datatypes_made good sc [] binds st p (ready_same sc.home From (IsOf good sc st) st.names st.names refl h
    (λ q i. i.0))) (λ r k.
    let whole : Makes sc.home From st r.1 (DecOf r) = before refl k (λ q i. i.0) in
    given_then (λ sig. Makes sc.home From st r.1 (λ q. DecOf r q × SigOf q sig))
    (λ r. Makes sc.home From st r.1 (OutOf r))
    (specified_types sc binds r.0 (also_bound (names_of_types binds r.0) made)) _
    (all_step sc.home From (DecOf r) st r.1 (λ sig. r.1) (λ sig q. SigOf q sig)
    (specified_types sc binds r.0 (also_bound (names_of_types binds r.0) made)) h whole (λ q i j.
    given_more (SigOf q) (λ sig. (r.1.names ≡ r.1.names) × SigOf q sig)
    (specified_types sc binds r.0 (also_bound (names_of_types binds r.0) made)) (λ sig l. (refl, l))
    (types_specified q sc binds r.0 (also_bound (names_of_types binds r.0) made) j.1 i.1))) (λ sig l.
    less l (λ q i j. (j.0.0, j.1))))

-- ---- `where type`

given_listed : (q : Nodes) (c : Bool) (sc : Scope) (at : At) (long : LongName) (sig : Signature) → SigOf q sig
    → Given (SigOf q) (cond c (gives sig) (refuses_long sc at long))
given_listed q true sc at long sig h = h
given_listed q false sc at long sig h = tt

replaced_of : (q : Nodes) (sc : Scope) (at : At) (long : LongName) (by : TypeFn) (sig : Signature) (o : Option TyName)
    → q (symbol.Record []) 0 ≡ true → FunctionOf q by → SigOf q sig → Given (SigOf q) (replaced sc at long by sig o)
replaced_of q sc at long by sig None e h k = tt
replaced_of q sc at long by sig (Some name) e h k =
    given_listed q (is_listed name sig.bound) sc at long (with_function name by sig)
    (env_realised q q (of_rows ((name, by) ∷ [])) (rows_realise q q ((name, by) ∷ []) (passes_same q) e (h.body, tt)
    (λ m parts n i. i)) sig.env k)

where_of : (q : Nodes) (sc : Scope) (at : At) (long : LongName) (old by : TypeFn) (sig : Signature)
    → q (symbol.Record []) 0 ≡ true → FunctionOf q by → SigOf q sig → Given (SigOf q) (where_type sc at long old by sig)
where_of q sc at long old by sig e h k =
    given_where (SigOf q) (not (eqb by.arity old.arity)) 35 sc at _
    (given_where (SigOf q) (lacks_equality (name_alone old) by) 33 sc at _
    (replaced_of q sc at long by sig (name_alone old) e h k))

-- ---- signatures that are opened and closed

pub opened_made : (good : List ℕ → Bool) (home : List ℕ) (sig : Signature) (st : Progress)
    → Makes home (λ q. Admits good q × StateOf q st.types × SignatureOf q sig) st (opened home sig st).1
    (OutOf (opened home sig st))
opened_made good home sig st = record {
  names = unit_names home st.names sig.bound;
  numbered = unit_numbered home st.names sig.bound;
  holds = λ q p n. (
    p.1,
    env_realised (allowing sig.bound q) q
        (of_rows (rows_between sig.bound (unit_names home st.names sig.bound)))
        (from_allowed q sig.bound (rows_between sig.bound (unit_names home st.names sig.bound))
        (empty_stands good q p.0) (between_of q sig.bound (unit_names home st.names sig.bound) n)
        (has_between sig.bound (unit_names home st.names sig.bound) (unit_length home st.names sig.bound))) sig.env
        p.2.env,
  );
}

pub closed_of : (q : Nodes) (sig : Signature) → q (symbol.Record []) 0 ≡ true → EnvOf q sig.env
    → SignatureOf q (closed sig)
closed_of q sig e h = record {
  bound = bound_numbered 0 sig.bound;
  env = env_realised q (allowing (bound_names 0 sig.bound) q)
      (of_rows (rows_between sig.bound (bound_names 0 sig.bound)))
      (to_allowed q sig.bound (bound_names 0 sig.bound) e) sig.env h;
}

-- ---- signatures and specifications

-- what is around a signature expression: the scope, the state, and the signatures that have names
abbrev pub FromSigs : (List ℕ → Bool) → Table Signature → Scope → Progress → Nodes → Type 0
FromSigs good sigs sc st q = IsOf good sc st q × AllRows (SignatureOf q) sigs

abbrev FromSpecs : (List ℕ → Bool) → Table Signature → Scope → Signature → Progress → Nodes → Type 0
FromSpecs good sigs sc made st q = FromSigs good sigs sc st q × EnvOf q made.env

under_specs : (good : List ℕ → Bool) (q : Nodes) (sigs : Table Signature) (sc : Scope) (made : Signature) (st :
    Progress)
    → FromSpecs good sigs sc made st q → FromSpecs good sigs (under made.env sc) made st q
under_specs good q sigs sc made st h =
    ((record { scope = under_of good q made.env sc h.1 h.0.0.scope; state = h.0.0.state }, h.0.1), h.1)

-- after a signature was inferred
later : (good : List ℕ → Bool) (q : Nodes) (sigs : Table Signature) (sc : Scope) (st u : Progress)
    → FromSigs good sigs sc st q → StateOf q u.types → FromSigs good sigs sc u q
later good q sigs sc st u h k = (record { scope = h.0.scope; state = k }, h.1)

-- .. and a specification
after_part : (good : List ℕ → Bool) (q : Nodes) (sigs : Table Signature) (sc : Scope) (made with : Signature)
    (st u : Progress) → FromSpecs good sigs sc made st q → OutOf (with, u) q → FromSpecs good sigs sc with u q
after_part good q sigs sc made with st u i j = (later good q sigs sc st u i.0 j.0, j.1)

abbrev SigMade : (List ℕ → Bool) → Table Signature → Scope → Progress → Signature × Progress → Type 0
SigMade good sigs sc st r = Makes sc.home (FromSigs good sigs sc st) st r.1 (OutOf r)

abbrev SpecMade : (List ℕ → Bool) → Table Signature → Scope → Signature → Progress → Signature × Progress → Type 0
SpecMade good sigs sc made st r = Makes sc.home (FromSpecs good sigs sc made st) st r.1 (OutOf r)

-- a part of a signature that makes no names
part_made : (good : List ℕ → Bool) (sigs : Table Signature) (sc : Scope) (made : Signature) (st : Progress)
    (m : Answer Signature) → IsReadyFor sc.home (FromSpecs good sigs sc made st) st.names
    → ((q : Nodes) → FromSpecs good sigs sc made st q → Given (SigOf q) m)
    → Given (SpecMade good sigs sc made st) (m >>= λ sig. gives (sig, st))
part_made good sigs sc made st m h f =
    given_then (λ sig. Makes sc.home (FromSpecs good sigs sc made st) st st (OutOf (sig, st)))
    (SpecMade good sigs sc made st) m _
    (all_first sc.home (FromSpecs good sigs sc made st) st (λ sig. st) (λ sig q. OutOf (sig, st) q) m h
    (λ q i. given_more (SigOf q) (λ sig. (st.names ≡ st.names) × OutOf (sig, st) q) m
    (λ sig l. (refl, (i.0.0.state, l))) (f q i))) (λ sig l. l)

-- .. after a signature that is a part of it
included : (good : List ℕ → Bool) (sigs : Table Signature) (sc : Scope) (made : Signature) (st : Progress)
    (r : Signature × Progress) (at : At) (part : Env) → IsReadyFor sc.home (FromSpecs good sigs sc made st) st.names
    → SigMade good sigs sc st r → ((q : Nodes) → EnvOf q r.0.env → EnvOf q part)
    → Given (λ sig. Makes sc.home (FromSpecs good sigs sc made st) st r.1 (OutOf (sig, r.1)))
    (specified sc at part (also_bound r.0.bound made))
included good sigs sc made st r at part h k f =
    let From : Nodes → Type 0 = FromSpecs good sigs sc made st in
    let whole : Makes sc.home From st r.1 (OutOf r) = before refl k (λ q i. i.0) in
    given_more (λ sig. Makes sc.home From st r.1 (λ q. OutOf r q × SigOf q sig))
    (λ sig. Makes sc.home From st r.1 (OutOf (sig, r.1))) (specified sc at part (also_bound r.0.bound made))
    (λ sig l. less l (λ q i j. (j.0.0, j.1)))
    (all_step sc.home From (OutOf r) st r.1 (λ sig. r.1) (λ sig q. SigOf q sig)
    (specified sc at part (also_bound r.0.bound made)) h whole (λ q i j.
    given_more (SigOf q) (λ sig. (r.1.names ≡ r.1.names) × SigOf q sig)
    (specified sc at part (also_bound r.0.bound made)) (λ sig l. (refl, l))
    (specified_of q sc at part (also_bound r.0.bound made) (f q j.1) i.1)))

where_steps : (good : List ℕ → Bool) (q : Nodes) (sigs : Table Signature) (sc : Scope) (tyvars : List Name)
    (long : LongName) (ty : TyPhrase) (at : At) (st : Progress) (r : Signature × Progress) → TySpelt good ty
    → FromSigs good sigs sc st q → OutOf r q
    → Given (λ v. (v.1.names ≡ r.1.names) × OutOf v q)
    (listed sc tyvars [] r.1
    >>= λ own. known sc long (found_at types long.parts r.0.env)
    >>= λ str. infer_ty (with_written_alone (as_written own.0) sc) ty
    >>= λ t. where_type sc at long str.function (type_function (numbers own.0) t) r.0
    >>= λ with. gives (with, own.1))
where_steps good q sigs sc tyvars long ty at st r p h k =
    let Whole : Signature × Progress → Type 0 = λ v. (v.1.names ≡ r.1.names) × OutOf v q in
    given_then (IsListed 0 (length tyvars) r.1) Whole (listed sc tyvars [] r.1) _ (listed_of sc tyvars [] r.1) (λ own l.
    given_then (λ str. Unit {0}) Whole (known sc long (found_at types long.parts r.0.env)) _
    (anything sc long (found_at types long.parts r.0.env)) (λ str _.
    given_then (TyOf q) Whole (infer_ty (with_written_alone (as_written own.0) sc) ty) _
    (ty_of good q (with_written_alone (as_written own.0) sc) ty p (list_scope good q sc own.0 h.0.scope)) (λ t m.
    given_then (SigOf q) Whole (where_type sc at long str.function (type_function (numbers own.0) t) r.0) _
    (where_of q sc at long str.function (type_function (numbers own.0) t) r.0
    (empty_stands good q h.0.scope.admits) (function_closed q (numbers own.0) t m) k.1)
    (λ with n. (l.names, (state_same q own.1.types r.1.types.stands l.stands k.0, n))))))
  where
    anything : {A : Type 0} (sc : Scope) (long : LongName) (o : Option A) → Given (λ x. Unit {0}) (known sc long o)
    anything sc long None = tt
    anything sc long (Some x) = tt

descs_made : (good : List ℕ → Bool) (sigs : Table Signature) (sc : Scope) (eq : Bool) (descs : List TypeDescPhrase)
    (made : Signature) (st : Progress) → IsReadyFor sc.home (FromSpecs good sigs sc made st) st.names
    → Given (SpecMade good sigs sc made st) (infer_type_descs sc eq descs made st)
descs_made good sigs sc eq descs made st h =
    given_more (λ r. Makes sc.home (FromSig made st) st r.1 (OutOf r)) (SpecMade good sigs sc made st)
    (infer_type_descs sc eq descs made st) (λ r k. before refl k (λ q i. (i.0.0.state, i.1)))
    (type_descs_made sc eq descs made st (λ m l. ((h m l).0.0.state, (h m l).1)))

mutual
  pub sig_made : (good : List ℕ → Bool) (sigs : Table Signature) (sc : Scope) (sig : SigPhrase) (st : Progress)
      → SigSpelt good sig → IsReadyFor sc.home (FromSigs good sigs sc st) st.names
      → Given (SigMade good sigs sc st) (infer_sig sigs sc sig st)
  sig_made good sigs sc (SigPhrase.Sig spec at) st p h =
      given_more (SpecMade good sigs sc empty_signature st) (SigMade good sigs sc st)
      (infer_spec sigs sc spec empty_signature st) (λ r k. before refl k (λ q i. (i, nothing_of q)))
      (spec_made good sigs sc spec empty_signature st p (λ m l. (h m l, nothing_of (below_number sc.home m))))
  sig_made good sigs sc (SigPhrase.Named name at) st p h =
      given_then (λ sig. Makes sc.home (FromSigs good sigs sc st) st st (λ q. SignatureOf q sig))
      (SigMade good sigs sc st) (known sc (single name) (entry name.text sigs)) _
      (all_first sc.home (FromSigs good sigs sc st) st (λ sig. st) (λ sig q. SignatureOf q sig)
      (known sc (single name) (entry name.text sigs)) h (λ q i.
      given_more (SignatureOf q) (λ sig. (st.names ≡ st.names) × SignatureOf q sig)
      (known sc (single name) (entry name.text sigs)) (λ sig l. (refl, l))
      (given_known (SignatureOf q) sc (single name) (entry name.text sigs)
      (rows_found (SignatureOf q) name.text sigs i.1)))) (λ sig k.
      less (after k (opened_made good sc.home sig st) (λ q i j. (i.0.scope.admits, i.0.state, j))) (λ q i j. j.1))
  sig_made good sigs sc (SigPhrase.Where sig tyvars long ty at) st p h =
      given_then (SigMade good sigs sc st) (SigMade good sigs sc st) (infer_sig sigs sc sig st) _
      (sig_made good sigs sc sig st p.0 h) (λ r k.
      given_more (λ v. Makes sc.home (FromSigs good sigs sc st) st v.1 (λ q. OutOf r q × OutOf v q))
      (SigMade good sigs sc st) _ (λ v l. less l (λ q i j. j.1))
      (all_step sc.home (FromSigs good sigs sc st) (OutOf r) st r.1 (λ v. v.1) (λ v q. OutOf v q) _ h k (λ q i j.
      where_steps good q sigs sc tyvars long ty at st r p.1 i j)))

  pub spec_made : (good : List ℕ → Bool) (sigs : Table Signature) (sc : Scope) (spec : SpecPhrase) (made : Signature)
      (st : Progress) → SpecSpelt good spec → IsReadyFor sc.home (FromSpecs good sigs sc made st) st.names
      → Given (SpecMade good sigs sc made st) (infer_spec sigs sc spec made st)
  spec_made good sigs sc (SpecPhrase.Vals descs at) made st p h =
      all_first sc.home (FromSpecs good sigs sc made st) st (λ r. r.1) (λ r q. OutOf r q) (infer_vals sc descs made
      st) h
      (λ q i. given_more (PlainOf q st) (λ r. (r.1.names ≡ st.names) × OutOf r q) (infer_vals sc descs made st)
      (λ r j. (j.0, (j.1, j.2))) (vals_of good q sc descs made st p i.0.0 i.1))
  spec_made good sigs sc (SpecPhrase.Types descs at) made st p h = descs_made good sigs sc false descs made st h
  spec_made good sigs sc (SpecPhrase.Eqtypes descs at) made st p h = descs_made good sigs sc true descs made st h
  spec_made good sigs sc (SpecPhrase.Datatypes binds at) made st p h =
      given_more (λ r. Makes sc.home (FromSpec good sc made st) st r.1 (OutOf r)) (SpecMade good sigs sc made st)
      (infer_datatype_specs sc binds made st) (λ r k. before refl k (λ q i. (i.0.0, i.1)))
      (datatype_specs_made good sc binds made st p (λ m l. ((h m l).0.0, (h m l).1)))
  spec_made good sigs sc (SpecPhrase.Replication name long at) made st p h =
      given_then (λ part. (q : Nodes) → FromSpecs good sigs sc made st q → EnvOf q part) (SpecMade good sigs sc made st)
      (infer_replication sc name long) _
      (Rattle.inference_laws.proofs.Making.given_all (FromSpecs good sigs sc made st) EnvOf
      (infer_replication sc name long) (λ q i. replication_of good q sc name long i.0.0.scope)) (λ part k.
      part_made good sigs sc made st (specified sc (name_at name) part made) h
      (λ q i. specified_of q sc (name_at name) part made (k q i) i.1))
  spec_made good sigs sc (SpecPhrase.Exceptions cons at) made st p h =
      part_made good sigs sc made st (infer_exception_specs sc cons made) h
      (λ q i. exceptions_of good q sc cons made p i.0.0.scope i.1)
  spec_made good sigs sc (SpecPhrase.Structures binds at) made st p h = binds_made good sigs sc binds made st p h
  spec_made good sigs sc (SpecPhrase.Include sig at) made st p h =
      given_then (SigMade good sigs sc st) (SpecMade good sigs sc made st) (infer_sig sigs sc sig st) _
      (sig_made good sigs sc sig st p (λ m l. (h m l).0)) (λ r k.
      given_then (λ with. Makes sc.home (FromSpecs good sigs sc made st) st r.1 (OutOf (with, r.1)))
      (SpecMade good sigs sc made st) (specified sc at r.0.env (also_bound r.0.bound made)) _
      (included good sigs sc made st r at r.0.env h k (λ q i. i)) (λ with l. l))
  spec_made good sigs sc (SpecPhrase.Sequence specs at) made st p h = specs_made good sigs sc specs made st p h

  binds_made : (good : List ℕ → Bool) (sigs : Table Signature) (sc : Scope) (binds : SigBinds) (made : Signature)
      (st : Progress) → SigBindsSpelt good binds → IsReadyFor sc.home (FromSpecs good sigs sc made st) st.names
      → Given (SpecMade good sigs sc made st) (infer_structure_specs sigs sc binds made st)
  binds_made good sigs sc SigBinds.EndOfBinds made st p h = plain refl (λ q i. (i.0.0.state, i.1))
  binds_made good sigs sc (SigBinds.Bind name sig rest) made st p h =
      given_then (SigMade good sigs sc st) (SpecMade good sigs sc made st) (infer_sig sigs sc sig st) _
      (sig_made good sigs sc sig st p.0 (λ m l. (h m l).0)) (λ r k.
      given_then (λ with. Makes sc.home (FromSpecs good sigs sc made st) st r.1 (OutOf (with, r.1)))
      (SpecMade good sigs sc made st)
      (specified sc (name_at name) (with_structure name.text r.0.env empty_env) (also_bound r.0.bound made)) _
      (included good sigs sc made st r (name_at name) (with_structure name.text r.0.env empty_env) h k
      (λ q i. one_structure q name.text r.0.env empty_env i (nothing_of q))) (λ with l.
      given_more (SpecMade good sigs sc with r.1) (SpecMade good sigs sc made st)
      (infer_structure_specs sigs sc rest with r.1)
      (λ v n. less (after l n (λ q i j. after_part good q sigs sc made with st r.1 i j)) (λ q i j. j.1))
      (binds_made good sigs sc rest with r.1 p.1
      (ready_after h l (λ q i j. after_part good q sigs sc made with st r.1 i j)))))

  specs_made : (good : List ℕ → Bool) (sigs : Table Signature) (sc : Scope) (specs : SpecPhrases) (made : Signature)
      (st : Progress) → SpecsSpelt good specs → IsReadyFor sc.home (FromSpecs good sigs sc made st) st.names
      → Given (SpecMade good sigs sc made st) (infer_specs sigs sc specs made st)
  specs_made good sigs sc SpecPhrases.EndOfSpecs made st p h = plain refl (λ q i. (i.0.0.state, i.1))
  specs_made good sigs sc (SpecPhrases.Next spec rest) made st p h =
      given_then (SpecMade good sigs (under made.env sc) made st) (SpecMade good sigs sc made st)
      (infer_spec sigs (under made.env sc) spec made st) _
      (spec_made good sigs (under made.env sc) spec made st p.0 (λ m l. under_specs good (below_number sc.home m) sigs
      sc made st (h m l)))
      (λ r k.
      let l : Makes sc.home (FromSpecs good sigs sc made st) st r.1 (OutOf r) =
      before refl k (λ q i. under_specs good q sigs sc made st i) in
      given_more (SpecMade good sigs sc r.0 r.1) (SpecMade good sigs sc made st) (infer_specs sigs sc rest r.0 r.1)
      (λ v n. less (after l n (λ q i j. after_part good q sigs sc made r.0 st r.1 i j)) (λ q i j. j.1))
      (specs_made good sigs sc rest r.0 r.1 p.1
      (ready_after h l (λ q i j. after_part good q sigs sc made r.0 st r.1 i j))))

-- ---- a signature by itself

abbrev pub ClosedOf : Signature × Progress → Nodes → Type 0
ClosedOf r q = StateOf q r.1.types × SignatureOf q r.0

pub signature_made : (good : List ℕ → Bool) (sigs : Table Signature) (sc : Scope) (sig : SigPhrase) (st : Progress)
    → SigSpelt good sig → IsReadyFor sc.home (FromSigs good sigs sc st) st.names
    → Given (λ r. Makes sc.home (FromSigs good sigs sc st) st r.1 (ClosedOf r)) (signature_of sigs sc sig st)
signature_made good sigs sc sig st p h =
    given_then (SigMade good sigs sc st) (λ r. Makes sc.home (FromSigs good sigs sc st) st r.1 (ClosedOf r))
    (infer_sig sigs sc sig st) _ (sig_made good sigs sc sig st p h) (λ r k.
    less k (λ q i j. (j.0, closed_of q r.0 (empty_stands good q i.0.scope.admits) j.1)))
