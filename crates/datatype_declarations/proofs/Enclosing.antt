-- Datatypes in an environment.
use Rattle.std.proofs.Common.{◌≡◌, ℕ, List, [], length, map, take, refl, sym, ap, ap₂, ◌∙◌, subst, arith}
use Rattle.std.proofs.lemmas.List.{take_all}
use Rattle.semantic_objects.specs.declared.name.TyId.{TyId}
use Rattle.semantic_objects.specs.declared.entry.ValueEntry.{ValueEntry}
use Rattle.semantic_objects.specs.Tables.{with_all}
use Rattle.semantic_objects.specs.Environments.{Env, env_of}
use Rattle.type_nodes.specs.Tables.{Table, type_of, state}
use Rattle.bare_phrases.specs.PhraseOf.{dat_phrase}
use Rattle.sml_trees.specs.declared.ty.DatBind.{DatBind}
use Rattle.sml_modules.specs.Items.{Item, map_rows, at, as_env, as_signature, as_functor, as_top, IsEnv, IsSignature, IsFunctor, IsTop}
use Rattle.sml_modules.specs.declared.id.EnvId.{EnvId}
use Rattle.sml_modules.specs.declared.parts.NamedValue.{NamedValue}
use Rattle.sml_modules.specs.Graphs.{Graph, Keeps, GivesEnv, env_at, env_of_entries, structure_rows, type_rows, value_rows}
use Rattle.name_trails.specs.Trails.{Rows}
use Rattle.static_semantics.specs.BasicTypes.{reserved_constructors}
use Rattle.static_semantics.specs.Inferring.{Progress, Scope, outermost, Answer, gives}
use Rattle.static_semantics.specs.DatatypeInference.{datatypes_of}
use Rattle.core_scopes.specs.declared.made.Made.{Made}
use Rattle.core_scopes.specs.Scopes.{Bindings, seen, written_of}
use Rattle.core_scopes.specs.Marks.{env_of_made, value_rows as rows_read}
use Rattle.type_phrases.specs.Inferred.{Answers, progress, scope_in}
use Rattle.type_phrases.proofs.Steps.{still_refused}
use Rattle.cm_base.specs.declared.fault.Fault.{Fault}
use Rattle.std.specs.Prelude.{Err}
use Rattle.datatype_declarations.specs.declared.declared.Nobody.{Nobody}
use Rattle.datatype_declarations.specs.Nothing.{nobody_entry}
use Rattle.datatype_elab.specs.Leaving.{MakesNames, DeclaresTypes}

-- the scope of a declaration in an environment
pub scope_is : (g : Graph) (u : Table) (env : EnvId) (sc : Bindings Nobody) → seen g nobody_entry sc ≡ env_at g env
    → written_of sc ≡ [] → scope_in g u nobody_entry sc ≡ outermost g.home (env_at g env)
scope_is g u env sc e w =
    ap₂ (λ (x : Env) (rows : Rows TyId).
    (let inner : Scope = record { env = x; written = map_rows (type_of u) rows; home = g.home } in inner)) e w

-- ids keep what they stand for where names alone were made before
keeps_after : (old now new : Graph) → MakesNames old now → Keeps now new → Keeps old new
keeps_after old now new h k =
    let back = sym h.items in
    record {
      has_env = λ id i. k.has_env id (subst (λ (xs : List Item). IsEnv (at xs id.place)) back i);
      env = λ id i. k.env id (subst (λ (xs : List Item). IsEnv (at xs id.place)) back i)
          ∙ ap (λ (xs : List Item). as_env (at xs id.place)) h.items;
      has_signature = λ id i.
          k.has_signature id (subst (λ (xs : List Item). IsSignature (at xs id.place)) back i);
      signature = λ id i. k.signature id (subst (λ (xs : List Item). IsSignature (at xs id.place)) back i)
          ∙ ap (λ (xs : List Item). as_signature (at xs id.place)) h.items;
      has_functor = λ id i. k.has_functor id (subst (λ (xs : List Item). IsFunctor (at xs id.place)) back i);
      functor = λ id i. k.functor id (subst (λ (xs : List Item). IsFunctor (at xs id.place)) back i)
          ∙ ap (λ (xs : List Item). as_functor (at xs id.place)) h.items;
      has_top = λ id i. k.has_top id (subst (λ (xs : List Item). IsTop (at xs id.place)) back i);
      top = λ id i. k.top id (subst (λ (xs : List Item). IsTop (at xs id.place)) back i)
          ∙ ap (λ (xs : List Item). as_top (at xs id.place)) h.items;
    }

keeps_itself : (g : Graph) → Keeps g g
keeps_itself g = record {
  has_env = λ id h. h;
  env = λ id h. refl;
  has_signature = λ id h. h;
  signature = λ id h. refl;
  has_functor = λ id h. h;
  functor = λ id h. refl;
  has_top = λ id h. h;
  top = λ id h. refl;
}

pub keeps_named : (old new : Graph) → MakesNames old new → Keeps old new
keeps_named old new h = keeps_after old new new h (keeps_itself new)

pub names_none : (g : Graph) → MakesNames g g
names_none g = record { items = refl; home = refl; made = take_all (length g.made) g.made (omega arith) }

pub names_same : (old now new : Graph) → MakesNames old now → new ≡ now → MakesNames old new
names_same old now new h e = subst (MakesNames old) (sym e) h

pub declares_given : (old now new : Graph) (env : Env) (id : EnvId) → MakesNames old now → GivesEnv now new env id
    → DeclaresTypes old new id
declares_given old now new env id h k = record {
  there = k.there;
  keeps = keeps_after old now new h k.keeps;
  home = k.home ∙ h.home;
  made = ap (take (length old.made)) k.made ∙ h.made;
}

-- what is wanted of the call in a scope
abbrev pub wanted_of : (old : Graph) → Table → EnvId → List DatBind → Answer (Env × Progress)
wanted_of old t env binds =
    datatypes_of (outermost old.home (env_at old env)) reserved_constructors (map dat_phrase binds) (progress t old)

wanted_is : (old : Graph) (t : Table) (env : EnvId) (sc : Bindings Nobody) (slice binds : List DatBind)
    → seen old nobody_entry sc ≡ env_at old env → written_of sc ≡ [] → slice ≡ binds
    → datatypes_of (scope_in old t nobody_entry sc) reserved_constructors (map dat_phrase slice) (progress t old)
    ≡ wanted_of old t env binds
wanted_is old t env sc slice binds e w s =
    ap₂ (λ (inner : Scope) (bs : List DatBind).
    datatypes_of inner reserved_constructors (map dat_phrase bs) (progress t old)) (scope_is old t env sc e w) s

pub declared_not : (old now : Graph) (t later : Table) (env : EnvId) (sc : Bindings Nobody)
    (slice binds : List DatBind) (e : Fault) → seen old nobody_entry sc ≡ env_at old env
    → written_of sc ≡ [] → slice ≡ binds
    → Answers (datatypes_of (scope_in old t nobody_entry sc) reserved_constructors (map dat_phrase slice) (progress t old))
    (λ (made : Made Nobody). (env_of_made now nobody_entry made, progress later now)) (Err e)
    → Answers (wanted_of old t env binds) (λ (id : EnvId). (env_at now id, progress later now)) (Err e)
declared_not old now t later env sc slice binds f e w s infers =
    still_refused (wanted_of old t env binds)
    (λ (made : Made Nobody). (env_of_made now nobody_entry made, progress later now))
    (λ (id : EnvId). (env_at now id, progress later now)) f
    (subst (λ (want : Answer (Env × Progress)). Answers want (λ (made : Made Nobody).
    (env_of_made now nobody_entry made, progress later now)) (Err f))
    (wanted_is old t env sc slice binds e w s) infers)

pub declared_env : (old now new : Graph) (t later : Table) (env : EnvId) (sc : Bindings Nobody)
    (slice binds : List DatBind) (made : Made Nobody) (entries : List NamedValue)
    (id : EnvId) → seen old nobody_entry sc ≡ env_at old env → written_of sc ≡ [] → slice ≡ binds
    → datatypes_of (scope_in old t nobody_entry sc) reserved_constructors (map dat_phrase slice) (progress t old)
    ≡ gives (env_of_made now nobody_entry made, progress later now)
    → value_rows entries ≡ rows_read nobody_entry made.values
    → GivesEnv now new (env_of_entries now made.structures made.types entries) id
    → wanted_of old t env binds ≡ gives (env_at new id, progress later new)
declared_env old now new t later env sc slice binds made entries id e w s infers rows given =
    sym (wanted_is old t env sc slice binds e w s)
    ∙ infers
    ∙ ap₂ (λ (x : Env) (n : ℕ). gives (x, (let st : Progress = record { types = state later; names = n } in st)))
    (sym (given.stands ∙ ap (λ (vs : Rows ValueEntry). env_of (with_all (structure_rows now made.structures) [])
    (with_all (type_rows made.types) []) (with_all vs [])) rows))
    (sym (ap length given.made))
