-- States grow while signatures are inferred.
use Rattle.std.proofs.Common.{◌≡◌, ℕ, ◌+◌, ◌≤◌, arith, List, [], ◌∷◌, ◌++◌, length, refl, Bool, true, false, ◌||◌, cond}
use Rattle.sml_trees.specs.declared.name.Name.{Name}
use Rattle.semantic_objects.specs.Tables.{Table, entry}
use Rattle.semantic_objects.specs.Environments.{Env, Signature, types, empty_env, with_structure, with_type, with_value}
use Rattle.unification.specs.Types.{Ty}
use Rattle.unification.specs.Fitting.{IsFit}
use Rattle.bare_phrases.specs.Phrases.{DatPhrase, TyPhrase}
use Rattle.static_semantics.specs.BasicTypes.{is_equality_variable}
use Rattle.static_semantics.specs.WrittenVariables.{tyvars_of_ty, texts_once, by_place}
use Rattle.static_semantics.specs.Inferring.{Progress, Scope, under, with_written_alone, Answer, name_at, known, found_at, is_named}
use Rattle.static_semantics.specs.TypeInference.{infer_ty, listed, numbers, as_written, new_rigid, type_function}
use Rattle.static_semantics.specs.DatatypeInference.{own_name, own_type, new_types, Dat, infer_cons, cons_of, infer_dats, datatypes_of, infer_replication, after_names}
use Rattle.static_semantics.specs.CoreInference.{implicit}
use Rattle.static_semantics.specs.Holding.{Given}
use Rattle.static_semantics.specs.Growing.{Grows}
use Rattle.static_semantics.proofs.Holding.{given_then}
use Rattle.static_semantics.proofs.Growing.{grows_same, grows_then, grows_variable}
use Rattle.static_semantics.proofs.TypesGrow.{given_more, ListedIn, listed_grows}
use Rattle.inference_laws.specs.Promises.{Any}
use Rattle.module_semantics.specs.SigPhrases.{ValPhrase, TypeDescPhrase, SigPhrase, SpecPhrase, SigBinds, SpecPhrases}
use Rattle.module_semantics.specs.SignatureNames.{empty_signature, also_bound}
use Rattle.module_semantics.specs.SignatureInference.{specified, variables_of, val_entry, infer_vals, infer_type_descs, infer_exception_specs, specified_types, names_of_types, where_type, single, infer_datatype_specs, infer_sig, infer_spec, infer_structure_specs, infer_specs, signature_of}
use Rattle.unit_semantics.proofs.Answers.{always}

-- what an inference gives, after which the state is a grown one
abbrev pub Then : {A : Type 0} → Progress → A × Progress → Type 0
Then st r = Grows Any st r.1

pub then_grows : {A : Type 0} (st u : Progress) (m : Answer (A × Progress)) → Grows Any st u → Given (Then u) m
    → Given (Then st) m
then_grows st u m g h = given_more (Then u) (Then st) m (λ r k. grows_then Any st u r.1 g k) h

pub grows_names : (count : ℕ) (st u : Progress) → Grows Any st u → Grows Any st (after_names count u)
grows_names count st u h = record {
  fit = h.fit;
  later = h.later;
  touches = h.touches;
  rigid = h.rigid;
  names = let l : st.names ≤ u.names = h.names in omega (arith, l);
}

-- ---- lists of type variables

list_grows : (sc : Scope) (names : List Name) (st : Progress) → IsFit st.types
    → Given (Then st) (listed sc names [] st)
list_grows sc names st h =
    given_more (ListedIn Any st) (Then st) (listed sc names [] st) (λ r k. k.0)
    (listed_grows Any sc names [] st h (λ n l. tt) tt)

one_of : (st : Progress) (c : Bool) (a b : List (List ℕ × ℕ) × Progress) → Then st a → Then st b → Then st (cond c a b)
one_of st true a b h k = h
one_of st false a b h k = k

implicit_grows : (outer : List (List ℕ × Ty)) (texts : List (List ℕ)) (before : List (List ℕ × ℕ)) (st : Progress)
    → IsFit st.types → Then st (implicit outer texts before st)
implicit_grows outer [] before st h = grows_same Any st h
implicit_grows outer (text ∷ texts) before st h =
    let g : Grows Any st (new_rigid text st) =
    grows_variable Any true (is_equality_variable text) st h (λ n l. tt) in
    let next : List (List ℕ × ℕ) × Progress =
    implicit outer texts (before ++ (text, st.types.next) ∷ []) (new_rigid text st) in
    one_of st (is_named text before || is_named text outer) (implicit outer texts before st) next
    (implicit_grows outer texts before st h)
    (grows_then Any st (new_rigid text st) next.1 g
    (implicit_grows outer texts (before ++ (text, st.types.next) ∷ []) (new_rigid text st) g.fit))

-- ---- specifications

vals_grow : (sc : Scope) (descs : List ValPhrase) (made : Signature) (st : Progress) → IsFit st.types
    → Given (Then st) (infer_vals sc descs made st)
vals_grow sc [] made st h = grows_same Any st h
vals_grow sc (desc ∷ descs) made st h =
    let own : List (List ℕ × ℕ) = (variables_of desc.ty st).0 in
    let u : Progress = (variables_of desc.ty st).1 in
    let g : Grows Any st u = implicit_grows [] (texts_once [] (by_place (tyvars_of_ty desc.ty))) [] st h in
    always (Then st) (infer_ty (with_written_alone (as_written own) sc) desc.ty) _ (λ ty.
    always (Then st) (specified sc (name_at desc.name) (with_value desc.name.text (val_entry own ty) empty_env) made) _
    (λ sig. then_grows st u (infer_vals sc descs sig u) g (vals_grow sc descs sig u g.fit)))

type_descs_grow : (sc : Scope) (eq : Bool) (descs : List TypeDescPhrase) (made : Signature) (st : Progress)
    → IsFit st.types → Given (Then st) (infer_type_descs sc eq descs made st)
type_descs_grow sc eq [] made st h = grows_same Any st h
type_descs_grow sc eq (desc ∷ descs) made st h =
    given_then (Then st) (Then st) (listed sc desc.tyvars [] st) _ (list_grows sc desc.tyvars st h) (λ r k.
    let g : Grows Any st (after_names 1 r.1) = grows_names 1 st r.1 k in
    always (Then st) (specified sc (name_at desc.name)
    (with_type desc.name.text (own_type (own_name sc.home st.names (length desc.tyvars) eq)) empty_env)
    (also_bound (own_name sc.home st.names (length desc.tyvars) eq ∷ []) made)) _ (λ sig.
    then_grows st (after_names 1 r.1) (infer_type_descs sc eq descs sig (after_names 1 r.1)) g
    (type_descs_grow sc eq descs sig (after_names 1 r.1) g.fit)))

dats_grow : (sc : Scope) (refused : List (List ℕ)) (binds : List DatPhrase) (made : List Dat) (st : Progress)
    → IsFit st.types → Given (Then st) (infer_dats sc refused binds made st)
dats_grow sc refused [] made st h = grows_same Any st h
dats_grow sc refused (bind ∷ binds) made st h =
    given_then (Then st) (Then st) (listed sc bind.tyvars [] st) _ (list_grows sc bind.tyvars st h) (λ r k.
    always (Then st) (infer_cons (with_written_alone (as_written r.0) sc) refused bind.cons (cons_of made) []) _ (λ cons.
    let dat : Dat = record { name = bind.name.text; variables = r.0; cons = cons } in
    then_grows st r.1 (infer_dats sc refused binds (made ++ dat ∷ []) r.1) k
    (dats_grow sc refused binds (made ++ dat ∷ []) r.1 k.fit)))

datatypes_then : (sc : Scope) (refused : List (List ℕ)) (binds : List DatPhrase) (st : Progress) → IsFit st.types
    → Given (Then st) (datatypes_of sc refused binds st)
datatypes_then sc refused binds st h =
    always (Then st) (new_types sc binds st.names empty_env) _ (λ new.
    given_then (Then st) (Then st) (infer_dats (under new sc) refused binds [] st) _
    (dats_grow (under new sc) refused binds [] st h) (λ r k. grows_names (length binds) st r.1 k))

mutual
  sig_grows : (sigs : Table Signature) (sc : Scope) (sig : SigPhrase) (st : Progress) → IsFit st.types
      → Given (Then st) (infer_sig sigs sc sig st)
  sig_grows sigs sc (SigPhrase.Sig spec at) st h = spec_grows sigs sc spec empty_signature st h
  sig_grows sigs sc (SigPhrase.Named name at) st h =
      always (Then st) (known sc (single name) (entry name.text sigs)) _
      (λ sig. grows_names (length sig.bound) st st (grows_same Any st h))
  sig_grows sigs sc (SigPhrase.Where sig tyvars long ty at) st h =
      given_then (Then st) (Then st) (infer_sig sigs sc sig st) _ (sig_grows sigs sc sig st h) (λ r k.
      given_then (Then r.1) (Then st) (listed sc tyvars [] r.1) _ (list_grows sc tyvars r.1 k.fit) (λ own l.
      always (Then st) (known sc long (found_at types long.parts r.0.env)) _ (λ str.
      always (Then st) (infer_ty (with_written_alone (as_written own.0) sc) ty) _ (λ t.
      always (Then st) (where_type sc at long str.function (type_function (numbers own.0) t) r.0) _ (λ with.
      grows_then Any st r.1 own.1 k l)))))

  spec_grows : (sigs : Table Signature) (sc : Scope) (spec : SpecPhrase) (made : Signature) (st : Progress)
      → IsFit st.types → Given (Then st) (infer_spec sigs sc spec made st)
  spec_grows sigs sc (SpecPhrase.Vals descs at) made st h = vals_grow sc descs made st h
  spec_grows sigs sc (SpecPhrase.Types descs at) made st h = type_descs_grow sc false descs made st h
  spec_grows sigs sc (SpecPhrase.Eqtypes descs at) made st h = type_descs_grow sc true descs made st h
  spec_grows sigs sc (SpecPhrase.Datatypes binds at) made st h =
      given_then (Then st) (Then st) (datatypes_of sc [] binds st) _ (datatypes_then sc [] binds st h) (λ r k.
      always (Then st) (specified_types sc binds r.0 (also_bound (names_of_types binds r.0) made)) _ (λ sig. k))
  spec_grows sigs sc (SpecPhrase.Replication name long at) made st h =
      always (Then st) (infer_replication sc name long) _ (λ part.
      always (Then st) (specified sc (name_at name) part made) _ (λ sig. grows_same Any st h))
  spec_grows sigs sc (SpecPhrase.Exceptions cons at) made st h =
      always (Then st) (infer_exception_specs sc cons made) _ (λ sig. grows_same Any st h)
  spec_grows sigs sc (SpecPhrase.Structures binds at) made st h = structures_grow sigs sc binds made st h
  spec_grows sigs sc (SpecPhrase.Include sig at) made st h =
      given_then (Then st) (Then st) (infer_sig sigs sc sig st) _ (sig_grows sigs sc sig st h) (λ r k.
      always (Then st) (specified sc at r.0.env (also_bound r.0.bound made)) _ (λ with. k))
  spec_grows sigs sc (SpecPhrase.Sequence specs at) made st h = specs_grow sigs sc specs made st h

  structures_grow : (sigs : Table Signature) (sc : Scope) (binds : SigBinds) (made : Signature) (st : Progress)
      → IsFit st.types → Given (Then st) (infer_structure_specs sigs sc binds made st)
  structures_grow sigs sc SigBinds.EndOfBinds made st h = grows_same Any st h
  structures_grow sigs sc (SigBinds.Bind name sig rest) made st h =
      given_then (Then st) (Then st) (infer_sig sigs sc sig st) _ (sig_grows sigs sc sig st h) (λ r k.
      always (Then st)
      (specified sc (name_at name) (with_structure name.text r.0.env empty_env) (also_bound r.0.bound made)) _ (λ with.
      then_grows st r.1 (infer_structure_specs sigs sc rest with r.1) k
      (structures_grow sigs sc rest with r.1 k.fit)))

  specs_grow : (sigs : Table Signature) (sc : Scope) (specs : SpecPhrases) (made : Signature) (st : Progress)
      → IsFit st.types → Given (Then st) (infer_specs sigs sc specs made st)
  specs_grow sigs sc SpecPhrases.EndOfSpecs made st h = grows_same Any st h
  specs_grow sigs sc (SpecPhrases.Next spec rest) made st h =
      given_then (Then st) (Then st) (infer_spec sigs (under made.env sc) spec made st) _
      (spec_grows sigs (under made.env sc) spec made st h) (λ r k.
      then_grows st r.1 (infer_specs sigs sc rest r.0 r.1) k (specs_grow sigs sc rest r.0 r.1 k.fit))

pub signature_grows : (sigs : Table Signature) (sc : Scope) (sig : SigPhrase) (st : Progress) → IsFit st.types
    → Given (Then st) (signature_of sigs sc sig st)
signature_grows sigs sc sig st h =
    given_then (Then st) (Then st) (infer_sig sigs sc sig st) _ (sig_grows sigs sc sig st h) (λ r k. k)
