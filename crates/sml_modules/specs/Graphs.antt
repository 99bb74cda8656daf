-- A graph of environments as contracts see it: an id stands for a tree, which no call changes.
use Rattle.std.specs.Prelude.{◌≡◌, ℕ, List, [], ◌∷◌, ◌++◌, length, map, Bool, Option, Some, None}
use Rattle.semantic_objects.specs.declared.name.Owner.TheVariants as owner
use Rattle.semantic_objects.specs.declared.name.TyName.{TyName}
use Rattle.semantic_objects.specs.declared.entry.TypeStr.{TypeStr}
use Rattle.semantic_objects.specs.declared.entry.ValueEntry.{ValueEntry}
use Rattle.semantic_objects.specs.Tables.{Table, with_entry, with_all}
use Rattle.semantic_objects.specs.Environments.{Env, env_of, Signature, Functor, Top}
use Rattle.sml_modules.specs.declared.id.EnvId.{EnvId}
use Rattle.sml_modules.specs.declared.id.SigId.{SigId}
use Rattle.sml_modules.specs.declared.id.FunId.{FunId}
use Rattle.sml_modules.specs.declared.id.TopId.{TopId}
use Rattle.sml_modules.specs.declared.parts.SigParts.{SigParts}
use Rattle.sml_modules.specs.declared.parts.FunParts.{FunParts}
use Rattle.sml_modules.specs.declared.parts.NamedEnv.{NamedEnv}
use Rattle.sml_modules.specs.declared.parts.NamedType.{NamedType}
use Rattle.sml_modules.specs.declared.parts.NamedValue.{NamedValue}
use Rattle.sml_modules.specs.Items.{Item, at, as_env, as_signature, as_functor, as_top}
use Rattle.sml_modules.specs.Items.{IsEnv, IsSignature, IsFunctor, IsTop}

-- what each node stands for, the unit that owns new type names, and the names made since it was entered
pub record Graph : Type 0 where
  pub items : List Item
  pub home : List ℕ
  pub made : List TyName

-- the tree that an id stands for
abbrev pub env_at : Graph → EnvId → Env
env_at g id = as_env (at g.items id.place)

abbrev pub signature_at : Graph → SigId → Signature
signature_at g id = as_signature (at g.items id.place)

abbrev pub functor_at : Graph → FunId → Functor
functor_at g id = as_functor (at g.items id.place)

abbrev pub top_at : Graph → TopId → Top
top_at g id = as_top (at g.items id.place)

-- ids of a graph
abbrev pub HasEnv : Graph → EnvId → Type 0
HasEnv g id = IsEnv (at g.items id.place)

abbrev pub HasSignature : Graph → SigId → Type 0
HasSignature g id = IsSignature (at g.items id.place)

abbrev pub HasFunctor : Graph → FunId → Type 0
HasFunctor g id = IsFunctor (at g.items id.place)

abbrev pub HasTop : Graph → TopId → Type 0
HasTop g id = IsTop (at g.items id.place)

-- each id of the old graph is one of the new graph, and stands there for what it stood for
pub record Keeps (old new : Graph) : Type 0 where
  pub has_env : (id : EnvId) → HasEnv old id → HasEnv new id
  pub env : (id : EnvId) → HasEnv old id → env_at new id ≡ env_at old id
  pub has_signature : (id : SigId) → HasSignature old id → HasSignature new id
  pub signature : (id : SigId) → HasSignature old id → signature_at new id ≡ signature_at old id
  pub has_functor : (id : FunId) → HasFunctor old id → HasFunctor new id
  pub functor : (id : FunId) → HasFunctor old id → functor_at new id ≡ functor_at old id
  pub has_top : (id : TopId) → HasTop old id → HasTop new id
  pub top : (id : TopId) → HasTop old id → top_at new id ≡ top_at old id

-- a call gave an id for this tree: all ids keep theirs, and nothing else changed
pub record GivesEnv (old new : Graph) (env : Env) (id : EnvId) : Type 0 where
  pub there : HasEnv new id
  pub stands : env_at new id ≡ env
  pub keeps : Keeps old new
  pub home : new.home ≡ old.home
  pub made : new.made ≡ old.made

pub record GivesSignature (old new : Graph) (sig : Signature) (id : SigId) : Type 0 where
  pub there : HasSignature new id
  pub stands : signature_at new id ≡ sig
  pub keeps : Keeps old new
  pub home : new.home ≡ old.home
  pub made : new.made ≡ old.made

pub record GivesFunctor (old new : Graph) (fun : Functor) (id : FunId) : Type 0 where
  pub there : HasFunctor new id
  pub stands : functor_at new id ≡ fun
  pub keeps : Keeps old new
  pub home : new.home ≡ old.home
  pub made : new.made ≡ old.made

pub record GivesTop (old new : Graph) (top : Top) (id : TopId) : Type 0 where
  pub there : HasTop new id
  pub stands : top_at new id ≡ top
  pub keeps : Keeps old new
  pub home : new.home ≡ old.home
  pub made : new.made ≡ old.made

-- what was looked up is this part of a tree: none where there is none, else an id of the graph that stands for it
abbrev pub FindsEnv : Graph → Option Env → Option EnvId → Type 0
FindsEnv g want None = want ≡ None
FindsEnv g want (Some id) = HasEnv g id × (want ≡ Some (env_at g id))

abbrev pub FindsSignature : Graph → Option Signature → Option SigId → Type 0
FindsSignature g want None = want ≡ None
FindsSignature g want (Some id) = HasSignature g id × (want ≡ Some (signature_at g id))

abbrev pub FindsFunctor : Graph → Option Functor → Option FunId → Type 0
FindsFunctor g want None = want ≡ None
FindsFunctor g want (Some id) = HasFunctor g id × (want ≡ Some (functor_at g id))

-- an id of the graph that stands for this environment
pub record IsIdOf (g : Graph) (env : Env) (id : EnvId) : Type 0 where
  pub there : HasEnv g id
  pub stands : env_at g id ≡ env

-- parts whose environments are of the graph
abbrev pub HasSigParts : Graph → SigParts → Type 0
HasSigParts g parts = HasEnv g parts.env

abbrev pub HasFunParts : Graph → FunParts → Type 0
HasFunParts g parts = HasEnv g parts.param × HasEnv g parts.result

-- the signature and the functor of parts
abbrev pub signature_of : Graph → SigParts → Signature
signature_of g parts = record { bound = parts.bound; env = env_at g parts.env }

abbrev pub functor_of : Graph → FunParts → Functor
functor_of g parts = record {
  bound = parts.bound;
  param = env_at g parts.param;
  further = parts.further;
  result = env_at g parts.result;
}

-- entries with their names, as rows of tables
abbrev pub structure_rows : Graph → List NamedEnv → Table Env
structure_rows g entries = map (λ (e : NamedEnv). (e.name, env_at g e.env)) entries

abbrev pub type_rows : List NamedType → Table TypeStr
type_rows entries = map (λ (e : NamedType). (e.name, e.entry)) entries

abbrev pub value_rows : List NamedValue → Table ValueEntry
value_rows entries = map (λ (e : NamedValue). (e.name, e.entry)) entries

-- the environment of entries at once: of two of one name the later counts
abbrev pub env_of_entries : Graph → List NamedEnv → List NamedType → List NamedValue → Env
env_of_entries g structures types values = env_of
    (with_all (structure_rows g structures) [])
    (with_all (type_rows types) [])
    (with_all (value_rows values) [])

-- a top with one entry set, or with another environment
abbrev pub with_signature : List ℕ → Signature → Top → Top
with_signature name sig top = record top { signatures = with_entry name sig top.signatures }

abbrev pub with_functor : List ℕ → Functor → Top → Top
with_functor name fun top = record top { functors = with_entry name fun top.functors }

abbrev pub with_funsig : List ℕ → Functor → Top → Top
with_funsig name fun top = record top { funsigs = with_entry name fun top.funsigs }

abbrev pub with_env : Env → Top → Top
with_env env top = record top { env = env }

-- every environment of a list is of the graph
abbrev pub HasEnvs : Graph → List NamedEnv → Type 0
HasEnvs g [] = Unit {0}
HasEnvs g (e ∷ es) = HasEnv g e.env × HasEnvs g es

-- the graph with another home and no made names; with a name made
abbrev pub entered : List ℕ → Graph → Graph
entered home g = record { items = g.items; home = home; made = [] }

abbrev pub new_name_of : Graph → ℕ → Bool → TyName
new_name_of g arity eq = record { owner = owner.«Unit» g.home; number = length g.made; arity = arity; eq = eq }

abbrev pub with_name : TyName → Graph → Graph
with_name name g = record { items = g.items; home = g.home; made = g.made ++ name ∷ [] }
