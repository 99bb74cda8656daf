-- Each name that a signature binds stands in it, while it is open and where it is finished.
use Rattle.std.proofs.Common.{◌≡◌, ℕ, suc, ◌+◌, ◌≤◌, List, [], ◌∷◌, ◌++◌, length, refl, sym, ap, ◌∙◌, subst, arith, Option, Some, None, Bool, true, false, ◌||◌, not, cond, eqb}
use Rattle.std.specs.Prelude.{option_to_list}
use Rattle.sml_trees.specs.declared.name.At.{At}
use Rattle.sml_trees.specs.declared.name.LongName.{LongName}
use Rattle.semantic_objects.specs.declared.name.TyName.{TyName}
use Rattle.semantic_objects.specs.declared.entry.TypeFn.{TypeFn}
use Rattle.semantic_objects.specs.declared.entry.TypeStr.{TypeStr}
use Rattle.semantic_objects.specs.Symbols.{same_name}
use Rattle.semantic_objects.specs.Tables.{Table, entry}
use Rattle.semantic_objects.specs.Environments.{Env, Signature, types, values, empty_env, modified_by, with_structure, with_type, with_value}
use Rattle.semantic_objects.proofs.Promised.{sets_entries, keeps_structures}
use Rattle.unification.specs.Types.{Ty}
use Rattle.bare_phrases.specs.Phrases.{ConPhrase, DatPhrase}
use Rattle.realisation.specs.Names.{is_listed}
use Rattle.static_semantics.specs.Inferring.{Progress, Scope, under, with_written_alone, ◌>>=◌, gives, refuses_where, name_at, known, found_at, is_named}
use Rattle.static_semantics.specs.TypeInference.{infer_ty, listed, numbers, as_written, new_rigid, type_function}
use Rattle.static_semantics.specs.DatatypeInference.{own_name, own_type, after_names, infer_optional_ty, exception_entry, datatypes_of, infer_replication}
use Rattle.static_semantics.specs.CoreInference.{implicit}
use Rattle.static_semantics.specs.WrittenVariables.{tyvars_of_ty, by_place, texts_once}
use Rattle.static_semantics.specs.Holding.{Given, AllItems, AllRows}
use Rattle.static_semantics.proofs.Holding.{given_then, given_where, given_known, rows_found}
use Rattle.static_semantics.proofs.TypesGrow.{given_more}
use Rattle.inference_laws.proofs.Making.{given_both}
use Rattle.module_semantics.specs.SigPhrases.{ValPhrase, TypeDescPhrase, SigPhrase, SpecPhrase, SigBinds, SpecPhrases}
use Rattle.module_semantics.specs.SignatureNames.{name_alone, unit_names, bound_names, opened, closed, empty_signature, also_bound}
use Rattle.module_semantics.specs.SignatureInference.{have_common, specified, variables_of, val_entry, exception_ty, infer_vals, infer_type_descs, infer_exception_specs, type_alone, value_alone, specified_cons, specified_types, name_of_type, names_of_types, lacks_equality, with_function, refuses_long, replaced, where_type, single, infer_sig, infer_spec, infer_structure_specs, infer_specs, signature_of}
use Rattle.unit_laws.specs.Parts.{AreBoundFrom}
use Rattle.unit_laws.proofs.Naming.{unit_length, bound_numbered, bound_length}
use Rattle.table_laws.specs.Rising.{RisingType, RisingEnv, RisingSignature}
use Rattle.table_laws.proofs.Tables.{rising_nothing, rising_types, rising_modified}
use Rattle.table_laws.proofs.Declarations.{always, datatypes_rise}
use Rattle.table_laws.proofs.Units.{one_type, one_structure, type_alone_rises, sig_rises, spec_rises}
use Rattle.signature_laws.specs.Standing.{IsFound, IsOfName, StandsAt, Stands, SignatureStands}
use Rattle.signature_laws.specs.Promises.{SignaturesStand}
use Rattle.signature_laws.proofs.Alone.{own_alone}
use Rattle.signature_laws.proofs.Standing.{stands_before, all_before, all_more, all_after, all_renamed, all_others, Ascend, ascend_then, ascend_filter, SameArities}
use Rattle.signature_laws.proofs.Datatypes.{ListRises, list_rises, datatypes_ascend}

-- ---- open signatures

-- the bound names stand in it, and have rising numbers from one on up to below another
abbrev pub IsOpen : ℕ → ℕ → Signature → Type 0
IsOpen from to sig = Ascend from sig.bound to × AllItems (Stands sig.env) sig.bound

abbrev pub Opened : ℕ → Signature × Progress → Type 0
Opened from r = IsOpen from r.1.names r.0

-- .. and its tables rise
abbrev pub Whole : ℕ → Signature × Progress → Type 0
Whole from r = Opened from r × RisingEnv r.0.env

abbrev Rises : Signature × Progress → Type 0
Rises r = RisingSignature r.0

-- what specifying more gives
abbrev pub IsSpecified : Env → Signature → Signature → Type 0
IsSpecified part made sig =
    (sig.bound ≡ made.bound) × (sig.env ≡ modified_by made.env part) × (have_common part made.env ≡ false)

specified_by : (c : Bool) (sc : Scope) (at : At) (part : Env) (made : Signature) → have_common part made.env ≡ c
    → Given (IsSpecified part made)
    (refuses_where c 40 sc at >>= λ u.
    gives (let sig : Signature = record { bound = made.bound; env = modified_by made.env part } in sig))
specified_by true sc at part made e = tt
specified_by false sc at part made e = (refl, refl, e)

pub specified_is : (sc : Scope) (at : At) (part : Env) (made : Signature)
    → Given (IsSpecified part made) (specified sc at part made)
specified_is sc at part made = specified_by (have_common part made.env) sc at part made refl

-- with no name more, and with names that stand in what is added
still_open : (from to : ℕ) (part : Env) (made sig : Signature) → IsSpecified part made sig → IsOpen from to made
    → IsOpen from to sig
still_open from to part made sig s h = (
  subst (λ names. Ascend from names to) (sym s.0) h.0,
  subst (λ env. AllItems (Stands env) sig.bound) (sym s.1)
      (subst (λ names. AllItems (Stands (modified_by made.env part)) names) (sym s.0)
      (all_before made.bound made.env part s.2 h.1)),
)

more_open : (from mid to : ℕ) (names : List TyName) (part : Env) (made sig : Signature)
    → IsSpecified part (also_bound names made) sig → IsOpen from mid made → Ascend mid names to
    → AllItems (Stands part) names → RisingEnv part → IsOpen from to sig
more_open from mid to names part made sig s h a k r = (
  subst (λ all. Ascend from all to) (sym s.0) (ascend_then from made.bound mid names to h.0 a),
  subst (λ env. AllItems (Stands env) sig.bound) (sym s.1)
      (subst (λ all. AllItems (Stands (modified_by made.env part)) all) (sym s.0)
      (all_after (Stands (modified_by made.env part)) made.bound names (all_before made.bound made.env part s.2 h.1)
      (all_more names made.env part r k))),
)

-- ---- `val`, `type`, `exception`

either_names : (c : Bool) (a b : List (List ℕ × ℕ) × Progress) (n : ℕ) → a.1.names ≡ n → b.1.names ≡ n
    → (cond c a b).1.names ≡ n
either_names true a b n h k = h
either_names false a b n h k = k

no_names : (outer : List (List ℕ × Ty)) (all : List (List ℕ)) (before : List (List ℕ × ℕ)) (st : Progress)
    → (implicit outer all before st).1.names ≡ st.names
no_names outer [] before st = refl
no_names outer (text ∷ all) before st = either_names (is_named text before || is_named text outer)
    (implicit outer all before st) (implicit outer all (before ++ (text, st.types.next) ∷ []) (new_rigid text st))
    st.names (no_names outer all before st)
    (no_names outer all (before ++ (text, st.types.next) ∷ []) (new_rigid text st))

vals_open : (from : ℕ) (sc : Scope) (descs : List ValPhrase) (made : Signature) (st : Progress)
    → IsOpen from st.names made → Given (Opened from) (infer_vals sc descs made st)
vals_open from sc [] made st h = h
vals_open from sc (desc ∷ descs) made st h =
    let own : List (List ℕ × ℕ) × Progress = variables_of desc.ty st in
    always (Opened from) (infer_ty (with_written_alone (as_written own.0) sc) desc.ty) _ (λ ty.
    let part : Env = with_value desc.name.text (val_entry own.0 ty) empty_env in
    given_then (IsSpecified part made) (Opened from) (specified sc (name_at desc.name) part made) _
    (specified_is sc (name_at desc.name) part made) (λ sig s.
    vals_open from sc descs sig own.1
    (subst (λ n. IsOpen from n sig) (sym (no_names [] (texts_once [] (by_place (tyvars_of_ty desc.ty))) [] st))
    (still_open from st.names part made sig s h))))

-- a type under a name stands for its name
type_stands : (name : List ℕ) (str : TypeStr) (of : TyName) → name_alone str.function ≡ Some of
    → Stands (with_type name str empty_env) of
type_stands name str of h = (
  name ∷ [],
  subst (IsFound (IsOfName of)) (sym ((sets_entries TypeStr).here name str [])) h,
)

type_descs_open : (from : ℕ) (sc : Scope) (eq : Bool) (descs : List TypeDescPhrase) (made : Signature) (st : Progress)
    → IsOpen from st.names made → Given (Opened from) (infer_type_descs sc eq descs made st)
type_descs_open from sc eq [] made st h = h
type_descs_open from sc eq (desc ∷ descs) made st h =
    let name : TyName = own_name sc.home st.names (length desc.tyvars) eq in
    let part : Env = with_type desc.name.text (own_type name) empty_env in
    given_then (ListRises st) (Opened from) (listed sc desc.tyvars [] st) _
    (list_rises sc desc.tyvars [] st tt tt) (λ r l.
    given_then (IsSpecified part (also_bound (name ∷ []) made)) (Opened from)
    (specified sc (name_at desc.name) part (also_bound (name ∷ []) made)) _
    (specified_is sc (name_at desc.name) part (also_bound (name ∷ []) made)) (λ sig s.
    type_descs_open from sc eq descs sig (after_names 1 r.1)
    (subst (λ n. IsOpen from (n + 1) sig) (sym l.1)
    (more_open from st.names (st.names + 1) (name ∷ []) part made sig s h
    ((let k : st.names ≤ st.names = omega arith in k), (let k : suc st.names ≤ st.names + 1 = omega arith in k))
    (type_stands desc.name.text (own_type name) name (own_alone name), tt)
    (one_type desc.name.text (own_type name) refl)))))

exceptions_open : (from to : ℕ) (sc : Scope) (cons : List ConPhrase) (made : Signature) → IsOpen from to made
    → Given (IsOpen from to) (infer_exception_specs sc cons made)
exceptions_open from to sc [] made h = h
exceptions_open from to sc (con ∷ cons) made h =
    always (IsOpen from to) (infer_optional_ty (with_written_alone [] sc) con.arg) _ (λ arg.
    let part : Env = with_value con.name.text (exception_entry (exception_ty arg)) empty_env in
    given_then (IsSpecified part made) (IsOpen from to) (specified sc (name_at con.name) part made) _
    (specified_is sc (name_at con.name) part made) (λ sig s.
    exceptions_open from to sc cons sig (still_open from to part made sig s h)))

-- ---- `datatype`

-- all that stood stands, and no bound name is added
abbrev Keeps : Signature → Signature → Type 0
Keeps made sig = (sig.bound ≡ made.bound) × ((name : TyName) → Stands made.env name → Stands sig.env name)

keeps_by : (part : Env) (made sig : Signature) → IsSpecified part made sig → Keeps made sig
keeps_by part made sig s =
    (s.0, λ name h. subst (λ env. Stands env name) (sym s.1) (stands_before name made.env part s.2 h))

keeps_on : (first second third : Signature) → Keeps first second → Keeps second third → Keeps first third
keeps_on first second third h k = (k.0 ∙ h.0, λ name l. k.1 name (h.1 name l))

cons_keep : (sc : Scope) (cons : List ConPhrase) (new : Env) (made : Signature)
    → Given (Keeps made) (specified_cons sc cons new made)
cons_keep sc [] new made = (refl, λ name h. h)
cons_keep sc (con ∷ cons) new made =
    let part : Env = value_alone con.name.text (entry con.name.text (values new)) in
    given_then (IsSpecified part made) (Keeps made) (specified sc (name_at con.name) part made) _
    (specified_is sc (name_at con.name) part made) (λ sig s.
    given_more (Keeps sig) (Keeps made) (specified_cons sc cons new sig)
    (λ last k. keeps_on made sig last (keeps_by part made sig s) k) (cons_keep sc cons new sig))

-- .. and these stand besides
abbrev KeepsWith : List TyName → Signature → Signature → Type 0
KeepsWith names made sig = Keeps made sig × AllItems (Stands sig.env) names

alone_stands : (text : List ℕ) (str : TypeStr) (o : Option TyName) → name_alone str.function ≡ o
    → AllItems (Stands (with_type text str empty_env)) (option_to_list o)
alone_stands text str None e = tt
alone_stands text str (Some name) e = (type_stands text str name e, tt)

found_stands : (text : List ℕ) (o : Option TypeStr) → AllItems (Stands (type_alone text o)) (name_of_type o)
found_stands text None = tt
found_stands text (Some str) = alone_stands text str (name_alone str.function) refl

all_kept : (names : List TyName) (made sig : Signature) → Keeps made sig → AllItems (Stands made.env) names
    → AllItems (Stands sig.env) names
all_kept [] made sig k h = tt
all_kept (name ∷ names) made sig k h = (k.1 name h.0, all_kept names made sig k h.1)

types_keep : (sc : Scope) (binds : List DatPhrase) (new : Env) (made : Signature) → RisingEnv new
    → Given (KeepsWith (names_of_types binds new) made) (specified_types sc binds new made)
types_keep sc [] new made r = ((refl, λ name h. h), tt)
types_keep sc (bind ∷ binds) new made r =
    let found : Option TypeStr = entry bind.name.text (types new) in
    let part : Env = type_alone bind.name.text found in
    let Q : Signature → Type 0 = KeepsWith (names_of_types (bind ∷ binds) new) made in
    given_then (IsSpecified part made) Q (specified sc (name_at bind.name) part made) _
    (specified_is sc (name_at bind.name) part made) (λ with s.
    given_then (Keeps with) Q (specified_cons sc bind.cons new with) _ (cons_keep sc bind.cons new with) (λ sig k.
    given_more (KeepsWith (names_of_types binds new) sig) Q (specified_types sc binds new sig) (λ last l. (
      keeps_on made sig last (keeps_on made with sig (keeps_by part made with s) k) l.0,
      all_after (Stands last.env) (name_of_type found) (names_of_types binds new)
          (all_kept (name_of_type found) with last (keeps_on with sig last k l.0)
          (subst (λ env. AllItems (Stands env) (name_of_type found)) (sym s.1)
          (all_more (name_of_type found) made.env part
          (type_alone_rises bind.name.text found
          (rows_found RisingType bind.name.text (types new)
          (rising_types new r).1))
          (found_stands bind.name.text found))))
          l.1,
    )) (types_keep sc binds new sig r)))

-- with the names of the types bound from the start
types_open : (from mid to : ℕ) (sc : Scope) (binds : List DatPhrase) (new : Env) (made : Signature)
    → IsOpen from mid made → Ascend mid (names_of_types binds new) to → RisingEnv new
    → Given (IsOpen from to) (specified_types sc binds new (also_bound (names_of_types binds new) made))
types_open from mid to sc binds new made h a r =
    let names : List TyName = names_of_types binds new in
    given_more (KeepsWith names (also_bound names made)) (IsOpen from to)
    (specified_types sc binds new (also_bound names made)) (λ sig k. (
      subst (λ all. Ascend from all to) (sym k.0.0) (ascend_then from made.bound mid names to h.0 a),
      subst (λ all. AllItems (Stands sig.env) all) (sym k.0.0)
          (all_after (Stands sig.env) made.bound names (all_kept made.bound (also_bound names made) sig k.0 h.1) k.1),
    )) (types_keep sc binds new (also_bound names made) r)

-- ---- `where type`

given_listed : (from to : ℕ) (c : Bool) (sc : Scope) (at : At) (long : LongName) (sig : Signature) → IsOpen from to sig
    → Given (IsOpen from to) (cond c (gives sig) (refuses_long sc at long))
given_listed from to true sc at long sig h = h
given_listed from to false sc at long sig h = tt

replaced_open : (from to : ℕ) (sc : Scope) (at : At) (long : LongName) (by : TypeFn) (sig : Signature)
    (o : Option TyName) → IsOpen from to sig → Given (IsOpen from to) (replaced sc at long by sig o)
replaced_open from to sc at long by sig None h = tt
replaced_open from to sc at long by sig (Some name) h = given_listed from to (is_listed name sig.bound) sc at long
    (with_function name by sig) (
      ascend_filter (λ m. not (same_name name m)) from sig.bound to h.0,
      all_others name by sig.bound sig.env h.1,
    )

where_open : (from to : ℕ) (sc : Scope) (at : At) (long : LongName) (old by : TypeFn) (sig : Signature)
    → IsOpen from to sig → Given (IsOpen from to) (where_type sc at long old by sig)
where_open from to sc at long old by sig h =
    given_where (IsOpen from to) (not (eqb by.arity old.arity)) 35 sc at _
    (given_where (IsOpen from to) (lacks_equality (name_alone old) by) 33 sc at _
    (replaced_open from to sc at long by sig (name_alone old) h))

-- ---- finished signatures that are opened, and open ones that are finished

units_ascend : (home : List ℕ) (number : ℕ) (names : List TyName)
    → Ascend number (unit_names home number names) (number + length names)
units_ascend home number [] = (let k : number ≤ number + 0 = omega arith in k)
units_ascend home number (name ∷ names) = (
  (let k : number ≤ number = omega arith in k),
  subst (Ascend (suc number) (unit_names home (suc number) names))
      (let k : suc number + length names ≡ number + length (name ∷ names) = omega arith in k)
      (units_ascend home (suc number) names),
)

units_same : (home : List ℕ) (number : ℕ) (names : List TyName) → SameArities names (unit_names home number names)
units_same home number [] = tt
units_same home number (name ∷ names) = (refl, units_same home (suc number) names)

bounds_same : (number : ℕ) (names : List TyName) → SameArities names (bound_names number names)
bounds_same number [] = tt
bounds_same number (name ∷ names) = (refl, bounds_same (suc number) names)

bound_ascends : (number : ℕ) (names : List TyName) → AreBoundFrom number names
    → Ascend number names (number + length names)
bound_ascends number [] h = (let k : number ≤ number + 0 = omega arith in k)
bound_ascends number (name ∷ names) h = (
  (let k : name.number ≡ number = h.1 in omega (arith, k)),
  subst (Ascend (suc name.number) names)
      (let k : name.number ≡ number = h.1 in
      let l : suc name.number + length names ≡ number + length (name ∷ names) = omega (arith, k) in l)
      (bound_ascends (suc name.number) names (subst (λ z. AreBoundFrom (suc z) names) (sym h.1) h.2)),
)

opened_is : (home : List ℕ) (sig : Signature) (st : Progress) → SignatureStands sig
    → Opened st.names (opened home sig st)
opened_is home sig st h = (
  units_ascend home st.names sig.bound,
  all_renamed 0 sig.bound (unit_names home st.names sig.bound) (0 + length sig.bound) sig.env
      (bound_ascends 0 sig.bound h.bound) (unit_length home st.names sig.bound)
      (units_same home st.names sig.bound) h.stand,
)

closed_is : (from to : ℕ) (sig : Signature) → IsOpen from to sig
    → SignatureStands (closed sig)
closed_is from to sig h = record {
  bound = bound_numbered 0 sig.bound;
  stand = all_renamed from sig.bound (bound_names 0 sig.bound) to sig.env h.0 (bound_length 0 sig.bound)
      (bounds_same 0 sig.bound) h.1;
}

-- ---- in a structure

in_structure : (part : List ℕ) (path : List (List ℕ)) (name : TyName) (env : Env) → StandsAt name path env
    → StandsAt name (part ∷ path) (with_structure part env empty_env)
in_structure part [] name env h = absurd h
in_structure part (n ∷ rest) name env h =
    subst (IsFound (StandsAt name (n ∷ rest))) (sym (ap (entry part) (keeps_structures.table ((part, env) ∷ []))
    ∙ (sets_entries Env).here part env [])) h

all_inside : (part : List ℕ) (names : List TyName) (env : Env) → AllItems (Stands env) names
    → AllItems (Stands (with_structure part env empty_env)) names
all_inside part [] env h = tt
all_inside part (name ∷ names) env h =
    ((part ∷ h.0.0, in_structure part h.0.0 name env h.0.1), all_inside part names env h.1)

-- ---- signatures and specifications

-- signatures that have names
abbrev pub Known : Table Signature → Type 0
Known sigs = AllRows SignatureStands sigs × AllRows RisingSignature sigs

mutual
  pub sig_open : (sigs : Table Signature) (sc : Scope) (sig : SigPhrase) (st : Progress) → Known sigs
      → RisingEnv sc.env → Given (Opened st.names) (infer_sig sigs sc sig st)
  sig_open sigs sc (SigPhrase.Sig spec at) st s r = spec_open st.names sigs sc spec empty_signature st s r
      ((let k : st.names ≤ st.names = omega arith in k), tt) rising_nothing
  sig_open sigs sc (SigPhrase.Named name at) st s r =
      given_then SignatureStands (Opened st.names) (known sc (single name) (entry name.text sigs)) _
      (given_known SignatureStands sc (single name) (entry name.text sigs)
      (rows_found SignatureStands name.text sigs s.0)) (λ sig h. opened_is sc.home sig st h)
  sig_open sigs sc (SigPhrase.Where sig tyvars long ty at) st s r =
      given_then (Opened st.names) (Opened st.names) (infer_sig sigs sc sig st) _ (sig_open sigs sc sig st s r)
      (λ q h.
      given_then (ListRises q.1) (Opened st.names) (listed sc tyvars [] q.1) _ (list_rises sc tyvars [] q.1 tt tt)
      (λ own l.
      always (Opened st.names) (known sc long (found_at types long.parts q.0.env)) _ (λ str.
      always (Opened st.names) (infer_ty (with_written_alone (as_written own.0) sc) ty) _ (λ t.
      given_then (IsOpen st.names q.1.names) (Opened st.names)
      (where_type sc at long str.function (type_function (numbers own.0) t) q.0) _
      (where_open st.names q.1.names sc at long str.function (type_function (numbers own.0) t) q.0 h)
      (λ with m. subst (λ n. IsOpen st.names n with) (sym l.1) m)))))

  pub spec_open : (from : ℕ) (sigs : Table Signature) (sc : Scope) (spec : SpecPhrase) (made : Signature)
      (st : Progress) → Known sigs → RisingEnv sc.env → IsOpen from st.names made → RisingEnv made.env
      → Given (Opened from) (infer_spec sigs sc spec made st)
  spec_open from sigs sc (SpecPhrase.Vals descs at) made st s r h k = vals_open from sc descs made st h
  spec_open from sigs sc (SpecPhrase.Types descs at) made st s r h k = type_descs_open from sc false descs made st h
  spec_open from sigs sc (SpecPhrase.Eqtypes descs at) made st s r h k = type_descs_open from sc true descs made st h
  spec_open from sigs sc (SpecPhrase.Datatypes binds at) made st s r h k =
      given_then (λ q. RisingEnv q.0 × Ascend st.names (names_of_types binds q.0) q.1.names) (Opened from)
      (datatypes_of sc [] binds st) _
      (given_both (λ q. RisingEnv q.0) (λ q. Ascend st.names (names_of_types binds q.0) q.1.names)
      (datatypes_of sc [] binds st) (datatypes_rise sc [] binds st) (datatypes_ascend sc [] binds st)) (λ q l.
      given_then (IsOpen from q.1.names) (Opened from)
      (specified_types sc binds q.0 (also_bound (names_of_types binds q.0) made)) _
      (types_open from st.names q.1.names sc binds q.0 made h l.1 l.0) (λ sig m. m))
  spec_open from sigs sc (SpecPhrase.Replication name long at) made st s r h k =
      always (Opened from) (infer_replication sc name long) _ (λ part.
      given_then (IsSpecified part made) (Opened from) (specified sc (name_at name) part made) _
      (specified_is sc (name_at name) part made) (λ sig l. still_open from st.names part made sig l h))
  spec_open from sigs sc (SpecPhrase.Exceptions cons at) made st s r h k =
      given_then (IsOpen from st.names) (Opened from) (infer_exception_specs sc cons made) _
      (exceptions_open from st.names sc cons made h) (λ sig m. m)
  spec_open from sigs sc (SpecPhrase.Structures binds at) made st s r h k = binds_open from sigs sc binds made st s r h
  spec_open from sigs sc (SpecPhrase.Include sig at) made st s r h k =
      given_then (Whole st.names) (Opened from) (infer_sig sigs sc sig st) _
      (given_both (Opened st.names) Rises (infer_sig sigs sc sig st) (sig_open sigs sc sig st s r)
      (sig_rises sigs sc sig st s.1 r)) (λ q l.
      given_then (IsSpecified q.0.env (also_bound q.0.bound made)) (Opened from)
      (specified sc at q.0.env (also_bound q.0.bound made)) _
      (specified_is sc at q.0.env (also_bound q.0.bound made)) (λ with m.
      more_open from st.names q.1.names q.0.bound q.0.env made with m h l.0.0 l.0.1 l.1))
  spec_open from sigs sc (SpecPhrase.Sequence specs at) made st s r h k = specs_open from sigs sc specs made st s r h k

  binds_open : (from : ℕ) (sigs : Table Signature) (sc : Scope) (binds : SigBinds) (made : Signature) (st : Progress)
      → Known sigs → RisingEnv sc.env → IsOpen from st.names made
      → Given (Opened from) (infer_structure_specs sigs sc binds made st)
  binds_open from sigs sc SigBinds.EndOfBinds made st s r h = h
  binds_open from sigs sc (SigBinds.Bind name sig rest) made st s r h =
      given_then (Whole st.names) (Opened from) (infer_sig sigs sc sig st) _
      (given_both (Opened st.names) Rises (infer_sig sigs sc sig st) (sig_open sigs sc sig st s r)
      (sig_rises sigs sc sig st s.1 r)) (λ q l.
      let part : Env = with_structure name.text q.0.env empty_env in
      given_then (IsSpecified part (also_bound q.0.bound made)) (Opened from)
      (specified sc (name_at name) part (also_bound q.0.bound made)) _
      (specified_is sc (name_at name) part (also_bound q.0.bound made)) (λ with m.
      binds_open from sigs sc rest with q.1 s r
      (more_open from st.names q.1.names q.0.bound part made with m h l.0.0
      (all_inside name.text q.0.bound q.0.env l.0.1) (one_structure name.text q.0.env l.1))))

  specs_open : (from : ℕ) (sigs : Table Signature) (sc : Scope) (specs : SpecPhrases) (made : Signature)
      (st : Progress) → Known sigs → RisingEnv sc.env → IsOpen from st.names made → RisingEnv made.env
      → Given (Opened from) (infer_specs sigs sc specs made st)
  specs_open from sigs sc SpecPhrases.EndOfSpecs made st s r h k = h
  specs_open from sigs sc (SpecPhrases.Next spec rest) made st s r h k =
      let inner : Scope = under made.env sc in
      let risen : RisingEnv inner.env = rising_modified sc.env made.env r k in
      given_then (Whole from) (Opened from) (infer_spec sigs inner spec made st) _
      (given_both (Opened from) Rises (infer_spec sigs inner spec made st)
      (spec_open from sigs inner spec made st s risen h k) (spec_rises sigs inner spec made st s.1 risen k)) (λ q l.
      specs_open from sigs sc rest q.0 q.1 s r l.0 l.1)

pub signature_stands : (sigs : Table Signature) (sc : Scope) (sig : SigPhrase) (st : Progress) → Known sigs
    → RisingEnv sc.env → Given (λ r. SignatureStands r.0) (signature_of sigs sc sig st)
signature_stands sigs sc sig st s r =
    given_then (Opened st.names) (λ q. SignatureStands q.0) (infer_sig sigs sc sig st) _
    (sig_open sigs sc sig st s r) (λ q h. closed_is st.names q.1.names q.0 h)

pub signatures_stand : SignaturesStand
signatures_stand = record { all = λ sigs sc sig st s r k. signature_stands sigs sc sig st (s, r) k }
