-- Datatypes that are specified, one after another.
use Rattle.std.proofs.Common.{◌≡◌, ℕ, refl, sym, ap, ◌∙◌, subst, List, [], ◌∷◌, ◌++◌, append-nil, append_assoc, Option, Some, None}
use Rattle.std.specs.Prelude.{Result, Err, IsErrAnd, option_to_list}
use Rattle.cm_base.specs.declared.fault.Fault.{Fault}
use Rattle.semantic_objects.specs.declared.name.TyName.{TyName}
use Rattle.semantic_objects.specs.declared.entry.TypeStr.{TypeStr}
use Rattle.semantic_objects.specs.declared.entry.ValueEntry.{ValueEntry}
use Rattle.semantic_objects.specs.Tables.{Table as Named, entry, with_all}
use Rattle.semantic_objects.specs.Environments.{Env, Signature, env_of, types, empty_env, with_type, with_value}
use Rattle.sml_trees.specs.declared.name.At.{At}
use Rattle.sml_trees.specs.declared.name.Name.{Name}
use Rattle.sml_trees.specs.declared.name.LongName.{LongName}
use Rattle.sml_modules.specs.declared.id.EnvId.{EnvId}
use Rattle.sml_modules.specs.Graphs.{Graph, structure_rows, type_rows}
use Rattle.name_trails.specs.Trails.{Rows, last_entry}
use Rattle.bare_phrases.specs.Phrases.{ConPhrase, DatPhrase}
use Rattle.static_semantics.specs.Inferring.{Progress, Scope, Answer, ◌>>=◌, gives, name_at}
use Rattle.static_semantics.specs.DatatypeInference.{datatypes_of, infer_replication}
use Rattle.core_scopes.specs.declared.made.Made.{Made}
use Rattle.core_scopes.specs.Listed.{env_rows}
use Rattle.core_scopes.specs.Marks.{value_rows, env_of_made}
use Rattle.core_scopes.proofs.Tables.{or_held, entry_under}
use Rattle.module_semantics.specs.SignatureNames.{name_alone, also_bound}
use Rattle.module_semantics.specs.SignatureInference.{specified, type_alone, value_alone, specified_cons, specified_types, name_of_type, names_of_types, infer_datatype_specs}
use Rattle.type_phrases.specs.Inferred.{Answers}
use Rattle.type_phrases.proofs.Steps.{failed}
use Rattle.type_phrases.proofs.PartsRead.{passed_on}
use Rattle.signature_specs.specs.declared.specified.Specified.{Specified}
use Rattle.signature_specs.specs.Specs.{env_so_far, signature_so_far}
use Rattle.datatype_specs.specs.declared.datatypes.NewTypes.{NewTypes}
use Rattle.datatype_specs.specs.Replicas.{infer_replication_spec}
use Rattle.datatype_specs.specs.Steps.{env_of_new, specified_con, specified_type}

-- ---- what stands under a name

or_nothing : {A : Type 0} (o : Option A) → or_held o None ≡ o
or_nothing None = refl
or_nothing (Some x) = refl

pub entry_is : {A : Type 0} (rows : Rows A) (name : List ℕ) (o : Option A) → last_entry rows name ≡ o
    → entry name (with_all rows []) ≡ o
entry_is {A} rows name o h =
    entry_under rows [] name ∙ ap (λ (z : Option A). or_held z None) h ∙ or_nothing o

-- what datatypes made, by name
pub new_is : {V : Type 0} (g : Graph) (read : V → ValueEntry) (made : Made V) (new : NewTypes) → made.structures ≡ []
    → new.types ≡ type_rows made.types → new.values ≡ value_rows read made.values
    → env_of_made g read made ≡ env_of_new new
new_is {V} g read made new s t v =
    env_is _ _ _ _ _ _ (ap (λ es. with_all (structure_rows g es) []) s)
    (ap (λ rows. with_all rows []) (sym t)) (ap (λ rows. with_all rows []) (sym v))
  where
    env_is : (ss us : Named Env) (ts xs : Named TypeStr) (vs ys : Named ValueEntry) → ss ≡ us → ts ≡ xs → vs ≡ ys
        → env_of ss ts vs ≡ env_of us xs ys
    env_is ss us ts xs vs ys h k l = cc

pub not_some : {A : Type 0} (o : Option A) → ((x : A) → o ≡ Some x → ⊥) → o ≡ None
not_some None h = refl
not_some (Some x) h = absurd (h x refl)

-- ---- names of types

module _ (new : NewTypes) (bind : DatPhrase) where
  one_is : (o : Option TypeStr) → last_entry new.types bind.name.text ≡ o
      → names_of_types (bind ∷ []) (env_of_new new) ≡ name_of_type o
  one_is o h =
      ap (λ z. name_of_type z ++ []) (entry_is new.types bind.name.text o h) ∙ append-nil (name_of_type o)

  pub no_type : (bound : List TyName) → last_entry new.types bind.name.text ≡ None
      → bound ≡ bound ++ names_of_types (bind ∷ []) (env_of_new new)
  no_type bound h = sym (ap (λ z. bound ++ z) (one_is None h) ∙ append-nil bound)

  pub no_name : (bound : List TyName) (str : TypeStr) → last_entry new.types bind.name.text ≡ Some str
      → name_alone str.function ≡ None → bound ≡ bound ++ names_of_types (bind ∷ []) (env_of_new new)
  no_name bound str h k =
      sym (ap (λ z. bound ++ z) (one_is (Some str) h ∙ ap (λ (o : Option TyName). option_to_list o) k)
      ∙ append-nil bound)

  pub one_name : (bound more : List TyName) (str : TypeStr) (name copy : TyName)
      → last_entry new.types bind.name.text ≡ Some str → name_alone str.function ≡ Some name → copy ≡ name
      → more ≡ bound ++ copy ∷ [] → more ≡ bound ++ names_of_types (bind ∷ []) (env_of_new new)
  one_name bound more str name copy h k c e =
      e ∙ ap (λ n. bound ++ n ∷ []) c
      ∙ ap (λ z. bound ++ z) (sym (one_is (Some str) h ∙ ap (λ (o : Option TyName). option_to_list o) k))

pub names_next : (env : Env) (bind : DatPhrase) (left rest : List DatPhrase) (bound more whole : List TyName)
    → left ≡ bind ∷ rest → bound ++ names_of_types left env ≡ whole → more ≡ bound ++ names_of_types (bind ∷ []) env
    → more ++ names_of_types rest env ≡ whole
names_next env bind left rest bound more whole e f h =
    ap (λ z. z ++ names_of_types rest env) h
    ∙ append_assoc bound (names_of_types (bind ∷ []) env) (names_of_types rest env)
    ∙ ap (λ z. bound ++ (z ++ names_of_types rest env)) (append-nil (name_of_type (entry bind.name.text (types env))))
    ∙ ap (λ z. bound ++ names_of_types z env) (sym e) ∙ f

pub names_end : (env : Env) (left : List DatPhrase) (bound whole : List TyName)
    → left ≡ [] → bound ++ names_of_types left env ≡ whole → bound ≡ whole
names_end env left bound whole e f =
    sym (append-nil bound) ∙ ap (λ z. bound ++ names_of_types z env) (sym e) ∙ f

-- ---- one constructor, one type

pub con_is : (inner : Scope) (new : NewTypes) (con : ConPhrase) (sig : Signature) (x : ValueEntry)
    → last_entry new.values con.name.text ≡ Some x
    → specified inner (name_at con.name) (with_value con.name.text x empty_env) sig
    ≡ specified_con inner con (env_of_new new) sig
con_is inner new con sig x h =
    ap (λ o. specified inner (name_at con.name) (value_alone con.name.text o) sig)
    (sym (entry_is new.values con.name.text (Some x) h))

pub type_is : (inner : Scope) (new : NewTypes) (bind : DatPhrase) (sig : Signature) (x : TypeStr)
    → last_entry new.types bind.name.text ≡ Some x
    → specified inner (name_at bind.name) (with_type bind.name.text x empty_env) sig
    ≡ specified_type inner bind (env_of_new new) sig
type_is inner new bind sig x h =
    ap (λ o. specified inner (name_at bind.name) (type_alone bind.name.text o) sig)
    (sym (entry_is new.types bind.name.text (Some x) h))

-- ---- constructors one after another

abbrev pub ConsLeft : Scope → Env → List ConPhrase → Signature → List ConPhrase → Signature → Type 0
ConsLeft inner env cons first left sig = specified_cons inner cons env first ≡ specified_cons inner left env sig

module _ (inner : Scope) (env : Env) (cons left rest : List ConPhrase) (con : ConPhrase) (first sig : Signature)
    (sofar : ConsLeft inner env cons first left sig) (next : left ≡ con ∷ rest) where
  first_con : specified_cons inner cons env first
      ≡ (specified_con inner con env sig >>= λ more. specified_cons inner rest env more)
  first_con = sofar ∙ ap (λ xs. specified_cons inner xs env sig) next

  pub cons_refused : {R S : Type 0} (r : R → Signature) (s : S → Signature) (e : Fault) (q : Result S Fault)
      → IsErrAnd q (λ f. f ≡ e) → Answers (specified_con inner con env sig) r (Err e)
      → Answers (specified_cons inner cons env first) s q
  cons_refused r s e q is h =
      passed_on (λ z. Answers (specified_cons inner cons env first) s z) q e is
      (subst (λ (w : Answer Signature). Answers w s (Err e)) (sym first_con)
      (failed (specified_con inner con env sig) (λ more. specified_cons inner rest env more) r s e h))

  pub cons_more : (more : Signature) → specified_con inner con env sig ≡ gives more
      → ConsLeft inner env cons first rest more
  cons_more more h =
      first_con ∙ ap (λ (m : Answer Signature). m >>= λ z. specified_cons inner rest env z) h

pub cons_all : (inner : Scope) (env : Env) (cons left : List ConPhrase) (first sig : Signature)
    → ConsLeft inner env cons first left sig → left ≡ [] → specified_cons inner cons env first ≡ gives sig
cons_all inner env cons left first sig sofar e = sofar ∙ ap (λ xs. specified_cons inner xs env sig) e

-- ---- types one after another

abbrev pub TypesLeft : Scope → Env → List DatPhrase → Signature → List DatPhrase → Signature → Type 0
TypesLeft inner env binds first left sig = specified_types inner binds env first ≡ specified_types inner left env sig

module _ (inner : Scope) (env : Env) (binds left rest : List DatPhrase) (bind : DatPhrase) (first sig : Signature)
    (sofar : TypesLeft inner env binds first left sig) (next : left ≡ bind ∷ rest) where
  abbrev after_type : Signature → Answer Signature
  after_type with =
      specified_cons inner bind.cons env with >>= λ more. specified_types inner rest env more

  first_type : specified_types inner binds env first ≡ (specified_type inner bind env sig >>= after_type)
  first_type = sofar ∙ ap (λ xs. specified_types inner xs env sig) next

  pub type_refused : {R S : Type 0} (r : R → Signature) (s : S → Signature) (e : Fault) (q : Result S Fault)
      → IsErrAnd q (λ f. f ≡ e) → Answers (specified_type inner bind env sig) r (Err e)
      → Answers (specified_types inner binds env first) s q
  type_refused r s e q is h =
      passed_on (λ z. Answers (specified_types inner binds env first) s z) q e is
      (subst (λ (w : Answer Signature). Answers w s (Err e)) (sym first_type)
      (failed (specified_type inner bind env sig) after_type r s e h))

  module _ (with : Signature) (typed : specified_type inner bind env sig ≡ gives with) where
    after_one : specified_types inner binds env first ≡ after_type with
    after_one = first_type ∙ ap (λ (m : Answer Signature). m >>= after_type) typed

    pub its_cons_refused : {R S : Type 0} (r : R → Signature) (s : S → Signature) (e : Fault) (q : Result S Fault)
        → IsErrAnd q (λ f. f ≡ e) → Answers (specified_cons inner bind.cons env with) r (Err e)
        → Answers (specified_types inner binds env first) s q
    its_cons_refused r s e q is h =
        passed_on (λ z. Answers (specified_types inner binds env first) s z) q e is
        (subst (λ (w : Answer Signature). Answers w s (Err e)) (sym after_one)
        (failed (specified_cons inner bind.cons env with) (λ more. specified_types inner rest env more) r s e h))

    pub types_more : (more : Signature) → specified_cons inner bind.cons env with ≡ gives more
        → TypesLeft inner env binds first rest more
    types_more more h =
        after_one ∙ ap (λ (m : Answer Signature). m >>= λ z. specified_types inner rest env z) h

pub types_all : (inner : Scope) (env : Env) (binds left : List DatPhrase) (first sig : Signature)
    → TypesLeft inner env binds first left sig → left ≡ [] → specified_types inner binds env first ≡ gives sig
types_all inner env binds left first sig sofar e = sofar ∙ ap (λ xs. specified_types inner xs env sig) e

-- ---- a whole specification

-- a signature so far says nothing of the names that a graph made
pub so_far_same : (g h : Graph) (made : Specified) → h.items ≡ g.items
    → signature_so_far h made ≡ signature_so_far g made
so_far_same g h made e =
    ap (λ items. signature_so_far (let z : Graph = record { items = items; home = g.home; made = g.made } in z) made) e

module _ (sc : Scope) (binds : List DatPhrase) (made : Signature) (st : Progress) where
  abbrev rest_of : Env × Progress → Answer (Signature × Progress)
  rest_of r = specified_types sc binds r.0 (also_bound (names_of_types binds r.0) made) >>= λ sig. gives (sig, r.1)

  pub datatypes_refused : {R S : Type 0} (r : R → Env × Progress) (s : S → Signature × Progress) (e : Fault)
      (q : Result S Fault) → IsErrAnd q (λ f. f ≡ e) → Answers (datatypes_of sc [] binds st) r (Err e)
      → Answers (infer_datatype_specs sc binds made st) s q
  datatypes_refused r s e q is h =
      passed_on (λ z. Answers (infer_datatype_specs sc binds made st) s z) q e is
      (failed (datatypes_of sc [] binds st) rest_of r s e h)

  pub datatypes_specified : {R : Type 0} (env new : Env) (after : Progress) (bound : List TyName) (sig : R → Signature)
      (q : Result R Fault) → datatypes_of sc [] binds st ≡ gives (env, after) → env ≡ new
      → bound ≡ made.bound ++ names_of_types binds new
      → Answers (specified_types sc binds new (let z : Signature = record { bound = bound; env = made.env } in z)) sig q
      → Answers {A = Signature × Progress} (infer_datatype_specs sc binds made st) (λ (u : R). (sig u, after)) q
  datatypes_specified {R} env new after bound sig q made_so same bound_so h =
      subst (λ (w : Answer (Signature × Progress)). Answers {A = Signature × Progress} w (λ (u : R). (sig u, after)) q)
      (sym (ap (λ (m : Answer (Env × Progress)). m >>= rest_of) made_so
      ∙ ap (λ z. rest_of (z, after)) same
      ∙ ap (λ names. specified_types sc binds new (let z : Signature = record { bound = names; env = made.env } in z)
      >>= λ sig. gives (sig, after)) (sym bound_so)))
      (mapped _ q h)
    where
      mapped : (want : Answer Signature) (q : Result R Fault) → Answers want sig q
          → Answers {A = Signature × Progress} (want >>= λ z. gives (z, after)) (λ (u : R). (sig u, after)) q
      mapped want (Result.Ok u) h = ap (λ (m : Answer Signature). m >>= λ z. gives (z, after)) h
      mapped want (Err e) h = failed want (λ z. gives (z, after)) sig (λ (u : R). (sig u, after)) e h

-- ---- replication

pub not_replicated : {R S : Type 0} (sc : Scope) (name : Name) (long : LongName) (sig : Signature) (r : R → Env)
    (s : S → Signature) (e : Fault) (q : Result S Fault) → IsErrAnd q (λ f. f ≡ e)
    → Answers (infer_replication sc name long) r (Err e) → Answers (infer_replication_spec sc name long sig) s q
not_replicated sc name long sig r s e q is h =
    passed_on (λ z. Answers (infer_replication_spec sc name long sig) s z) q e is
    (failed (infer_replication sc name long) (λ part. specified sc (name_at name) part sig) r s e h)

pub replicated : {S : Type 0} (sc : Scope) (name : Name) (long : LongName) (sig : Signature) (part : Env) (at : At)
    (s : S → Signature) (q : Result S Fault) → infer_replication sc name long ≡ gives part → at ≡ name_at name
    → Answers (specified sc at part sig) s q → Answers (infer_replication_spec sc name long sig) s q
replicated sc name long sig part at s q is here h =
    subst (λ (w : Answer Signature). Answers w s q)
    (sym (ap (λ (m : Answer Env). m >>= λ z. specified sc (name_at name) z sig) is
    ∙ ap (λ z. specified sc z part sig) (sym here))) h

-- no structure more
pub no_structures : {V : Type 0} (old new : Rows EnvId) (part : Made V) → part.structures ≡ []
    → new ≡ old ++ env_rows part.structures → new ≡ old
no_structures old new part e h = h ∙ ap (λ es. old ++ env_rows es) e ∙ append-nil old

-- what is specified so far, with other names that are bound, in a graph in which names alone were made
pub bound_same : (g h : Graph) (made : Specified) (bound : List TyName) → h.items ≡ g.items
    → signature_so_far h (record made { bound = bound })
    ≡ (let z : Signature = record { bound = bound; env = env_so_far g made } in z)
bound_same g h made bound e =
    ap (λ (z : Env). (let sig : Signature = record { bound = bound; env = z } in sig))
    (ap (λ items. env_so_far (let z : Graph = record { items = items; home = g.home; made = g.made } in z) made) e)
