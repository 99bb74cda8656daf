-- Datatypes that were read are named and bound.
use Rattle.std.proofs.Common.{◌≡◌, ℕ, ◌+◌, ◌≤◌, List, [], ◌∷◌, ◌++◌, length, map, take, refl, sym, ap, ap₂, ◌∙◌, subst, Bool, arith, zero, suc, Some, None}
use Rattle.std.proofs.lemmas.List.{length-append, take-append-le, take_all}
use Rattle.std.specs.Prelude.{Ok, Err}
use Rattle.cm_base.specs.declared.fault.Fault.{Fault}
use Rattle.cm_base.specs.declared.fault.Fault.TheVariants as fault
use Rattle.semantic_objects.specs.declared.name.TyName.{TyName}
use Rattle.semantic_objects.specs.declared.entry.ValueEntry.{ValueEntry}
use Rattle.semantic_objects.specs.Environments.{Env, empty_env}
use Rattle.type_nodes.specs.Tables.{Table, state}
use Rattle.bare_phrases.specs.Phrases.{DatPhrase}
use Rattle.sml_modules.specs.Graphs.{Graph, with_name}
use Rattle.static_semantics.specs.Inferring.{Progress, Scope, under, with_written_alone, Answer, ◌>>=◌, gives}
use Rattle.static_semantics.specs.TypeInference.{listed, as_written}
use Rattle.static_semantics.specs.DatatypeInference.{Dat, infer_cons, cons_of, infer_dats, dat_admits, narrowed, looked_over, looked_over_times, equality_choice, made_types, after_names, datatypes_of, new_types}
use Rattle.core_scopes.specs.declared.made.Made.{Made}
use Rattle.core_scopes.specs.Scopes.{Bindings}
use Rattle.core_scopes.specs.Marks.{env_of_made}
use Rattle.type_phrases.specs.Inferred.{Answers, progress, scope_in}
use Rattle.type_phrases.proofs.Steps.{failed}
use Rattle.datatype_elab.specs.declared.dats.DatRead.{DatRead}
use Rattle.datatype_elab.specs.declared.reading.Datatypes.{Datatypes}
use Rattle.datatype_elab.specs.Listing.{dat_of}
use Rattle.datatype_elab.specs.Declaring.{infer_datatypes, AreRead}
use Rattle.datatype_elab.specs.Leaving.{MakesNames}

count_map : {A B : Type 0} (f : A → B) (xs : List A) → length (map f xs) ≡ length xs
count_map f [] = refl
count_map f (x ∷ xs) = ap suc (count_map f xs)

-- ---- as many datatypes as bindings, and as many choices

given_by : {A B : Type 0} (m : Answer A) (f : A → Answer B) (x : B) (P : Type 0) → (m >>= f) ≡ gives x
    → ((y : A) → f y ≡ gives x → P) → P
given_by None f x P e k = absurd (cc)
given_by (Some (Err d)) f x P e k = absurd (cc)
given_by (Some (Ok y)) f x P e k = k y e

abbrev dats_in : Answer (List Dat × Progress) → ℕ
dats_in None = 0
dats_in (Some (Err d)) = 0
dats_in (Some (Ok r)) = length r.0

dats_counted : (sc : Scope) (refused : List (List ℕ)) (binds : List DatPhrase) (made : List Dat) (st : Progress)
    (r : List Dat × Progress) → infer_dats sc refused binds made st ≡ gives r → length r.0 ≡ length made + length binds
dats_counted sc refused [] made st r e =
    let k : length made ≡ length r.0 = ap dats_in e in omega (arith, k)
dats_counted sc refused (bind ∷ binds) made st r e =
    let P : Type 0 = length r.0 ≡ length made + suc (length binds) in
    given_by (listed sc bind.tyvars [] st) (λ l.
    infer_cons (with_written_alone (as_written l.0) sc) refused bind.cons (cons_of made) []
    >>= λ cons. infer_dats sc refused binds
    (made ++ (let dat : Dat = record { name = bind.name.text; variables = l.0; cons = cons } in dat) ∷ []) l.1)
    r P e
    (λ l k. given_by (infer_cons (with_written_alone (as_written l.0) sc) refused bind.cons (cons_of made) [])
    (λ cons. infer_dats sc refused binds
    (made ++ (let dat : Dat = record { name = bind.name.text; variables = l.0; cons = cons } in dat) ∷ []) l.1)
    r P k
    (λ cons j.
    let dat : Dat = record { name = bind.name.text; variables = l.0; cons = cons } in
    let i : length r.0 ≡ length (made ++ dat ∷ []) + length binds =
    dats_counted sc refused binds (made ++ dat ∷ []) l.1 r j in
    let o : length (made ++ dat ∷ []) ≡ length made + 1 = length-append made (dat ∷ []) in
    omega (arith, i, o)))

narrowed_length : (choice looks : List Bool) → length (narrowed choice looks) ≡ length choice
narrowed_length [] looks = refl
narrowed_length (a ∷ choice) [] = ap suc (narrowed_length choice [])
narrowed_length (a ∷ choice) (b ∷ looks) = ap suc (narrowed_length choice looks)

times_length : (n : ℕ) (home : List ℕ) (first : ℕ) (dats : List Dat) (choice : List Bool)
    → length (looked_over_times n home first dats choice) ≡ length choice
times_length zero home first dats choice = refl
times_length (suc n) home first dats choice =
    times_length n home first dats (looked_over home first dats choice)
    ∙ narrowed_length choice (map (dat_admits home first choice) dats)

pub choice_counted : (t : Table) (home : List ℕ) (first : ℕ) (dats : List DatRead) (choice : List Bool)
    → choice ≡ equality_choice home first (map (dat_of t) dats) → length dats ≡ length choice
choice_counted t home first dats choice e =
    sym (ap length e
    ∙ times_length (length (map (dat_of t) dats)) home first (map (dat_of t) dats)
    (map (λ (dat : Dat). Bool.true) (map (dat_of t) dats))
    ∙ count_map (λ (dat : Dat). Bool.true) (map (dat_of t) dats)
    ∙ count_map (dat_of t) dats)

-- ---- names that are made

pub names_none : (g : Graph) → MakesNames g g
names_none g = record { items = refl; home = refl; made = take_all (length g.made) g.made (omega arith) }

pub names_more : (old now new : Graph) (name : TyName) → MakesNames old now → new ≡ with_name name now
    → length old.made ≤ length now.made → MakesNames old new
names_more old now new name h e l = record {
  items = ap (λ (g : Graph). g.items) e ∙ h.items;
  home = ap (λ (g : Graph). g.home) e ∙ h.home;
  made = ap (λ (g : Graph). take (length old.made) g.made) e
      ∙ take-append-le (length old.made) now.made (name ∷ []) l ∙ h.made;
}

pub names_longer : (now new : Graph) (name : TyName) → new ≡ with_name name now
    → length new.made ≡ length now.made + 1
names_longer now new name e = ap (λ (g : Graph). length g.made) e ∙ length-append now.made (name ∷ [])

-- ---- the whole

abbrev finished : Scope → List DatPhrase → Progress → List Dat × Progress → Answer (Env × Progress)
finished sc binds st r = gives (
  made_types sc.home st.names (equality_choice sc.home st.names r.0) st.names r.0 empty_env,
  after_names (length binds) r.1,
)

then_then : {A B C : Type 0} (m : Answer A) (f : A → Answer B) (h : B → Answer C)
    → (m >>= λ x. f x >>= h) ≡ ((m >>= f) >>= h)
then_then None f h = refl
then_then (Some (Err d)) f h = refl
then_then (Some (Ok x)) f h = refl

in_two : (sc : Scope) (refused : List (List ℕ)) (binds : List DatPhrase) (st : Progress)
    → datatypes_of sc refused binds st ≡ (infer_datatypes sc refused binds st >>= finished sc binds st)
in_two sc refused binds st =
    then_then (new_types sc binds st.names empty_env) (λ new. infer_dats (under new sc) refused binds [] st)
    (finished sc binds st)

pub declared_not : {V : Type 0} (g later : Graph) (t new u : Table) (sc : Bindings V) (refused : List (List ℕ))
    (binds : List DatPhrase) (read : V → ValueEntry) (e : Fault) → AreRead g t sc refused binds new (Err e)
    → Answers (datatypes_of (scope_in g u read sc) refused binds (progress t g))
    (λ (made : Made V). (env_of_made later read made, progress new later)) (Err e)
declared_not {V} g later t new u sc refused binds read e h =
    subst (λ (w : Answer (Env × Progress)).
    Answers w (λ (made : Made V). (env_of_made later read made, progress new later)) (Err e))
    (sym (in_two (scope_in g u read sc) refused binds (progress t g)))
    (failed (infer_datatypes (scope_in g u read sc) refused binds (progress t g))
    (finished (scope_in g u read sc) binds (progress t g))
    (λ (made : Datatypes). (map (dat_of new) made.dats, progress new g))
    (λ (made : Made V). (env_of_made later read made, progress new later)) e (h.infers u read))

dats_of_read : (sc : Scope) (refused : List (List ℕ)) (binds : List DatPhrase) (st : Progress)
    (r : List Dat × Progress) → infer_datatypes sc refused binds st ≡ gives r → length r.0 ≡ length binds
dats_of_read sc refused binds st r e =
    given_by (new_types sc binds st.names empty_env) (λ new. infer_dats (under new sc) refused binds [] st) r
    (length r.0 ≡ length binds) e (λ new k.
    let l : length r.0 ≡ 0 + length binds = dats_counted (under new sc) refused binds [] st r k in omega (arith, l))

pub declared_as : {V : Type 0} (g later : Graph) (t new u : Table) (sc : Bindings V) (refused : List (List ℕ))
    (binds : List DatPhrase) (read : V → ValueEntry) (dats : Datatypes) (made : Made V)
    → AreRead g t sc refused binds new (Ok dats)
    → env_of_made later read made
    ≡ made_types g.home (length g.made) dats.choice (length g.made) (map (dat_of new) dats.dats) empty_env
    → length later.made ≡ length g.made + length dats.dats
    → datatypes_of (scope_in g u read sc) refused binds (progress t g)
    ≡ gives (env_of_made later read made, progress new later)
declared_as {V} g later t new u sc refused binds read dats made h e l =
    let inner : Scope = scope_in g u read sc in
    let ds : List Dat = map (dat_of new) dats.dats in
    let r : List Dat × Progress = (ds, progress new g) in
    let count : length ds ≡ length binds = dats_of_read inner refused binds (progress t g) r (h.infers u read) in
    let same : length ds ≡ length dats.dats = count_map (dat_of new) dats.dats in
    let all : length g.made + length binds ≡ length later.made = omega (arith, count, same, l) in
    in_two inner refused binds (progress t g)
    ∙ ap (λ (w : Answer (List Dat × Progress)). w >>= finished inner binds (progress t g)) (h.infers u read)
    ∙ ap₂ (λ (env : Env) (n : ℕ). gives (env, (let st : Progress = record { types = state new; names = n } in st)))
    (ap (λ choice. made_types g.home (length g.made) choice (length g.made) ds empty_env) (sym h.choice) ∙ sym e)
    all
