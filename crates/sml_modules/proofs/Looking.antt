-- What is read of nodes is part of the trees that they stand for.
use Rattle.std.proofs.Common.{◌≡◌, ℕ, refl, sym, ap, ◌∙◌, subst, List, Some, None, true, false}
use Rattle.std.specs.Prelude.{◌↔◌, IsTrue}
use Rattle.semantic_objects.specs.Tables.{entry, names_of}
use Rattle.semantic_objects.specs.Environments.{Env, structures, types, values, Top, Signature, Functor}
use Rattle.semantic_objects.proofs.Promised.{keeps_structures}
use Rattle.semantic_objects.specs.declared.entry.TypeStr.{TypeStr}
use Rattle.semantic_objects.specs.declared.entry.ValueEntry.{ValueEntry}
use Rattle.sml_modules.specs.declared.node.EnvNode.{EnvNode}
use Rattle.env_parts.specs.declared.tables.EnvTables.{EnvTables}
use Rattle.env_parts.specs.declared.tables.TopTables.{TopTables}
use Rattle.sml_modules.specs.declared.node.Kind.{Kind}
use Rattle.sml_modules.specs.declared.node.Kind.TheVariants as kind
use Rattle.sml_modules.specs.declared.node.Node.{Node}
use Rattle.sml_modules.specs.declared.node.Node.TheVariants as node
use Rattle.sml_modules.specs.declared.node.KeptType.{KeptType}
use Rattle.sml_modules.specs.declared.node.KeptValue.{KeptValue}
use Rattle.sml_modules.specs.declared.node.SigNode.{SigNode}
use Rattle.sml_modules.specs.declared.node.FunNode.{FunNode}
use Rattle.sml_modules.specs.declared.id.EnvId.{EnvId}
use Rattle.sml_modules.specs.declared.id.SigId.{SigId}
use Rattle.sml_modules.specs.declared.id.FunId.{FunId}
use Rattle.sml_modules.specs.declared.parts.SigParts.{SigParts}
use Rattle.sml_modules.specs.declared.parts.FunParts.{FunParts}
use Rattle.sml_modules.specs.Items.{Item, at, as_type, as_value, as_env, as_signature, as_functor, as_top, IsEnv, IsSignature, IsFunctor, IsTop, map_rows}
use Rattle.sml_modules.specs.Graphs.{Graph, FindsEnv, FindsSignature, FindsFunctor, IsIdOf, signature_of, functor_of, signature_at, functor_at}
use Rattle.sml_modules.specs.Nodes.{signature_of_node, functor_of_node, node_kind, kind_of, kept_facts}
use Rattle.sml_modules.specs.Adding.{StandsAt, ReadsEnv, ReadsTop}
use Rattle.env_parts.specs.Types.{facts_of, types_in}
use Rattle.sml_modules.specs.Items.{item_facts}
use Rattle.sml_modules.proofs.Setting.{entry_at, all_found, names_map}

-- the tables of a node that is an environment
pub reads_env : (items : List Item) (p : ℕ) (kept : EnvNode) → StandsAt items p (node.Env kept)
    → ReadsEnv items (as_env (at items p)) kept.tables
reads_env items p kept h = record { are = h.node.0; is = ap as_env h.is }

pub reads_top : (items : List Item) (p : ℕ) (tables : TopTables) → StandsAt items p (node.Top tables)
    → ReadsTop items (as_top (at items p)) tables
reads_top items p tables h = record { are = h.node; is = ap as_top h.is }

-- the facts kept with a node are those of what it stands for
pub kept_is : (items : List Item) (p : ℕ) (x : Node) → StandsAt items p x → kept_facts x ≡ item_facts (at items p)
kept_is items p (node.TypeStr kept) h = h.node ∙ sym (ap item_facts h.is)
kept_is items p (node.Value kept) h = h.node ∙ sym (ap item_facts h.is)
kept_is items p (node.Env kept) h = h.node.1 ∙ sym (ap item_facts h.is)
kept_is items p (node.Signature sig) h = sym (ap item_facts h.is)
kept_is items p (node.Functor fun) h = sym (ap item_facts h.is)
kept_is items p (node.Top tables) h = sym (ap item_facts h.is)

pub facts_of_env : (item : Item) → IsEnv item → item_facts item ≡ facts_of (types_in (as_env item))
facts_of_env Item.Nowhere h = absurd h
facts_of_env (Item.TypeItem x) h = absurd h
facts_of_env (Item.ValueItem x) h = absurd h
facts_of_env (Item.EnvItem x) h = refl
facts_of_env (Item.SignatureItem x) h = absurd h
facts_of_env (Item.FunctorItem x) h = absurd h
facts_of_env (Item.TopItem x) h = absurd h

-- the tables of an environment are its rows
pub structures_are : (items : List Item) (env : Env) (t : EnvTables) → ReadsEnv items env t
    → structures env ≡ map_rows (λ p. as_env (at items p)) t.structures
structures_are items env t r =
    ap structures r.is ∙ keeps_structures.table (map_rows (λ p. as_env (at items p)) t.structures)

pub types_are : (items : List Item) (env : Env) (t : EnvTables) → ReadsEnv items env t
    → types env ≡ map_rows (λ p. as_type (at items p)) t.types
types_are items env t r = ap types r.is

pub values_are : (items : List Item) (env : Env) (t : EnvTables) → ReadsEnv items env t
    → values env ≡ map_rows (λ p. as_value (at items p)) t.values
values_are items env t r = ap values r.is

-- a structure that is found, and none
pub finds_env : (g : Graph) (env : Env) (t : EnvTables) (name : List ℕ) (id : EnvId) → ReadsEnv g.items env t
    → Some id.place ≡ entry name t.structures → FindsEnv g (entry name (structures env)) (Some id)
finds_env g env t name id r h = (
  all_found IsEnv g.items name id.place t.structures r.are.structures (sym h),
  entry_at (λ p. as_env (at g.items p)) name t.structures (structures env) (Some id.place)
      (structures_are g.items env t r) h,
)

pub finds_no_env : (g : Graph) (env : Env) (t : EnvTables) (name : List ℕ) → ReadsEnv g.items env t
    → None ≡ entry name t.structures → FindsEnv g (entry name (structures env)) None
finds_no_env g env t name r h =
    entry_at (λ p. as_env (at g.items p)) name t.structures (structures env) None (structures_are g.items env t r) h

-- the same of type structures and values
pub finds_type : (items : List Item) (env : Env) (t : EnvTables) (name : List ℕ) (p : ℕ) (found : TypeStr)
    → ReadsEnv items env t → Some p ≡ entry name t.types → found ≡ as_type (at items p)
    → Some found ≡ entry name (types env)
finds_type items env t name p found r h k = ap Some k
    ∙ sym (entry_at (λ q. as_type (at items q)) name t.types (types env) (Some p) (types_are items env t r) h)

pub finds_no_type : (items : List Item) (env : Env) (t : EnvTables) (name : List ℕ) → ReadsEnv items env t
    → None ≡ entry name t.types → None ≡ entry name (types env)
finds_no_type items env t name r h =
    sym (entry_at (λ q. as_type (at items q)) name t.types (types env) None (types_are items env t r) h)

pub finds_value : (items : List Item) (env : Env) (t : EnvTables) (name : List ℕ) (p : ℕ) (found : ValueEntry)
    → ReadsEnv items env t → Some p ≡ entry name t.values → found ≡ as_value (at items p)
    → Some found ≡ entry name (values env)
finds_value items env t name p found r h k = ap Some k
    ∙ sym (entry_at (λ q. as_value (at items q)) name t.values (values env) (Some p) (values_are items env t r) h)

pub finds_no_value : (items : List Item) (env : Env) (t : EnvTables) (name : List ℕ) → ReadsEnv items env t
    → None ≡ entry name t.values → None ≡ entry name (values env)
finds_no_value items env t name r h =
    sym (entry_at (λ q. as_value (at items q)) name t.values (values env) None (values_are items env t r) h)

-- names
pub structure_names : (items : List Item) (env : Env) (t : EnvTables) → ReadsEnv items env t
    → names_of t.structures ≡ names_of (structures env)
structure_names items env t r = sym (ap names_of (structures_are items env t r)
    ∙ names_map (λ p. as_env (at items p)) t.structures)

pub type_names : (items : List Item) (env : Env) (t : EnvTables) → ReadsEnv items env t
    → names_of t.types ≡ names_of (types env)
type_names items env t r = sym (ap names_of (types_are items env t r) ∙ names_map (λ p. as_type (at items p)) t.types)

pub value_names : (items : List Item) (env : Env) (t : EnvTables) → ReadsEnv items env t
    → names_of t.values ≡ names_of (values env)
value_names items env t r = sym (ap names_of (values_are items env t r) ∙ names_map (λ p. as_value (at items p)) t.values)

pub signature_names : (items : List Item) (top : Top) (t : TopTables) → ReadsTop items top t
    → names_of t.signatures ≡ names_of top.signatures
signature_names items top t r = sym (ap (λ (z : Top). names_of z.signatures) r.is
    ∙ names_map (λ p. as_signature (at items p)) t.signatures)

pub functor_names : (items : List Item) (top : Top) (t : TopTables) → ReadsTop items top t
    → names_of t.functors ≡ names_of top.functors
functor_names items top t r = sym (ap (λ (z : Top). names_of z.functors) r.is
    ∙ names_map (λ p. as_functor (at items p)) t.functors)

pub funsig_names : (items : List Item) (top : Top) (t : TopTables) → ReadsTop items top t
    → names_of t.funsigs ≡ names_of top.funsigs
funsig_names items top t r = sym (ap (λ (z : Top). names_of z.funsigs) r.is
    ∙ names_map (λ p. as_functor (at items p)) t.funsigs)

-- the same of signatures and functors
pub finds_signature : (g : Graph) (top : Top) (t : TopTables) (name : List ℕ) (id : SigId) → ReadsTop g.items top t
    → Some id.place ≡ entry name t.signatures → FindsSignature g (entry name top.signatures) (Some id)
finds_signature g top t name id r h = (
  all_found IsSignature g.items name id.place t.signatures r.are.signatures (sym h),
  entry_at (λ p. as_signature (at g.items p)) name t.signatures top.signatures (Some id.place)
      (ap (λ (z : Top). z.signatures) r.is) h,
)

pub finds_no_signature : (g : Graph) (top : Top) (t : TopTables) (name : List ℕ) → ReadsTop g.items top t
    → None ≡ entry name t.signatures → FindsSignature g (entry name top.signatures) None
finds_no_signature g top t name r h =
    entry_at (λ p. as_signature (at g.items p)) name t.signatures top.signatures None
    (ap (λ (z : Top). z.signatures) r.is) h

pub finds_functor : (g : Graph) (top : Top) (t : TopTables) (name : List ℕ) (id : FunId) → ReadsTop g.items top t
    → Some id.place ≡ entry name t.functors → FindsFunctor g (entry name top.functors) (Some id)
finds_functor g top t name id r h = (
  all_found IsFunctor g.items name id.place t.functors r.are.functors (sym h),
  entry_at (λ p. as_functor (at g.items p)) name t.functors top.functors (Some id.place)
      (ap (λ (z : Top). z.functors) r.is) h,
)

pub finds_no_functor : (g : Graph) (top : Top) (t : TopTables) (name : List ℕ) → ReadsTop g.items top t
    → None ≡ entry name t.functors → FindsFunctor g (entry name top.functors) None
finds_no_functor g top t name r h =
    entry_at (λ p. as_functor (at g.items p)) name t.functors top.functors None
    (ap (λ (z : Top). z.functors) r.is) h

pub finds_funsig : (g : Graph) (top : Top) (t : TopTables) (name : List ℕ) (id : FunId) → ReadsTop g.items top t
    → Some id.place ≡ entry name t.funsigs → FindsFunctor g (entry name top.funsigs) (Some id)
finds_funsig g top t name id r h = (
  all_found IsFunctor g.items name id.place t.funsigs r.are.funsigs (sym h),
  entry_at (λ p. as_functor (at g.items p)) name t.funsigs top.funsigs (Some id.place)
      (ap (λ (z : Top). z.funsigs) r.is) h,
)

pub finds_no_funsig : (g : Graph) (top : Top) (t : TopTables) (name : List ℕ) → ReadsTop g.items top t
    → None ≡ entry name t.funsigs → FindsFunctor g (entry name top.funsigs) None
finds_no_funsig g top t name r h =
    entry_at (λ p. as_functor (at g.items p)) name t.funsigs top.funsigs None
    (ap (λ (z : Top). z.funsigs) r.is) h

-- the environment of a top
pub env_of_top : (g : Graph) (top : Top) (t : TopTables) (id : EnvId) → ReadsTop g.items top t → id.place ≡ t.env
    → IsIdOf g top.env id
env_of_top g top t id r h = record {
  there = subst (λ p. IsEnv (at g.items p)) (sym h) r.are.env;
  stands = ap (λ p. as_env (at g.items p)) h ∙ sym (ap (λ (z : Top). z.env) r.is);
}

-- what signatures and functors are made of
signature_same : (s t : Signature) → s.bound ≡ t.bound → s.env ≡ t.env → s ≡ t
signature_same s t h i = λ n. record { bound = h n; env = i n }

functor_same : (f g : Functor) → f.bound ≡ g.bound → f.param ≡ g.param → f.further ≡ g.further
    → f.result ≡ g.result → f ≡ g
functor_same f g h i j k = λ n. record { bound = h n; param = i n; further = j n; result = k n }

pub reads_signature : (g : Graph) (id : SigId) (kept : SigNode) (parts : SigParts)
    → StandsAt g.items id.place (node.Signature kept) → parts.bound ≡ kept.bound → parts.env.place ≡ kept.env
    → signature_of g parts ≡ signature_at g id
reads_signature g id kept parts h i j =
    signature_same (signature_of g parts) (signature_of_node g.items kept) i (ap (λ p. as_env (at g.items p)) j)
    ∙ sym (ap as_signature h.is)

pub reads_functor : (g : Graph) (id : FunId) (kept : FunNode) (parts : FunParts)
    → StandsAt g.items id.place (node.Functor kept) → parts.bound ≡ kept.bound → parts.param.place ≡ kept.param
    → parts.further ≡ kept.further → parts.result.place ≡ kept.result → functor_of g parts ≡ functor_at g id
reads_functor g id kept parts h i j k l =
    functor_same (functor_of g parts) (functor_of_node g.items kept) i (ap (λ p. as_env (at g.items p)) j) k
    (ap (λ p. as_env (at g.items p)) l)
    ∙ sym (ap as_functor h.is)

-- an item is of a kind exactly where its kind says so
not_true : IsTrue false → ⊥
not_true h = cc

isenv_kind : (item : Item) → (kind_of item ≡ kind.Env) ↔ IsEnv item
isenv_kind Item.Nowhere = (λ h. absurd (cc), λ h. absurd h)
isenv_kind (Item.TypeItem x) = (λ h. absurd (cc), λ h. absurd h)
isenv_kind (Item.ValueItem x) = (λ h. absurd (cc), λ h. absurd h)
isenv_kind (Item.EnvItem x) = (λ h. tt, λ h. refl)
isenv_kind (Item.SignatureItem x) = (λ h. absurd (cc), λ h. absurd h)
isenv_kind (Item.FunctorItem x) = (λ h. absurd (cc), λ h. absurd h)
isenv_kind (Item.TopItem x) = (λ h. absurd (cc), λ h. absurd h)

pub is_env : (item : Item) (k : Kind) → k ≡ kind_of item → k ≡ kind.Env → IsTrue true ↔ IsEnv item
is_env item k h e = (λ t. (isenv_kind item).0 (sym h ∙ e), λ t. refl)

pub is_no_env : (item : Item) (k : Kind) → k ≡ kind_of item → (k ≡ kind.Env → ⊥) → IsTrue false ↔ IsEnv item
is_no_env item k h e = (λ t. absurd (not_true t), λ t. absurd (e (h ∙ (isenv_kind item).1 t)))

issignature_kind : (item : Item) → (kind_of item ≡ kind.Signature) ↔ IsSignature item
issignature_kind Item.Nowhere = (λ h. absurd (cc), λ h. absurd h)
issignature_kind (Item.TypeItem x) = (λ h. absurd (cc), λ h. absurd h)
issignature_kind (Item.ValueItem x) = (λ h. absurd (cc), λ h. absurd h)
issignature_kind (Item.EnvItem x) = (λ h. absurd (cc), λ h. absurd h)
issignature_kind (Item.SignatureItem x) = (λ h. tt, λ h. refl)
issignature_kind (Item.FunctorItem x) = (λ h. absurd (cc), λ h. absurd h)
issignature_kind (Item.TopItem x) = (λ h. absurd (cc), λ h. absurd h)

pub is_signature : (item : Item) (k : Kind) → k ≡ kind_of item → k ≡ kind.Signature → IsTrue true ↔ IsSignature item
is_signature item k h e = (λ t. (issignature_kind item).0 (sym h ∙ e), λ t. refl)

pub is_no_signature : (item : Item) (k : Kind) → k ≡ kind_of item → (k ≡ kind.Signature → ⊥) → IsTrue false ↔ IsSignature item
is_no_signature item k h e = (λ t. absurd (not_true t), λ t. absurd (e (h ∙ (issignature_kind item).1 t)))

isfunctor_kind : (item : Item) → (kind_of item ≡ kind.Functor) ↔ IsFunctor item
isfunctor_kind Item.Nowhere = (λ h. absurd (cc), λ h. absurd h)
isfunctor_kind (Item.TypeItem x) = (λ h. absurd (cc), λ h. absurd h)
isfunctor_kind (Item.ValueItem x) = (λ h. absurd (cc), λ h. absurd h)
isfunctor_kind (Item.EnvItem x) = (λ h. absurd (cc), λ h. absurd h)
isfunctor_kind (Item.SignatureItem x) = (λ h. absurd (cc), λ h. absurd h)
isfunctor_kind (Item.FunctorItem x) = (λ h. tt, λ h. refl)
isfunctor_kind (Item.TopItem x) = (λ h. absurd (cc), λ h. absurd h)

pub is_functor : (item : Item) (k : Kind) → k ≡ kind_of item → k ≡ kind.Functor → IsTrue true ↔ IsFunctor item
is_functor item k h e = (λ t. (isfunctor_kind item).0 (sym h ∙ e), λ t. refl)

pub is_no_functor : (item : Item) (k : Kind) → k ≡ kind_of item → (k ≡ kind.Functor → ⊥) → IsTrue false ↔ IsFunctor item
is_no_functor item k h e = (λ t. absurd (not_true t), λ t. absurd (e (h ∙ (isfunctor_kind item).1 t)))

istop_kind : (item : Item) → (kind_of item ≡ kind.Top) ↔ IsTop item
istop_kind Item.Nowhere = (λ h. absurd (cc), λ h. absurd h)
istop_kind (Item.TypeItem x) = (λ h. absurd (cc), λ h. absurd h)
istop_kind (Item.ValueItem x) = (λ h. absurd (cc), λ h. absurd h)
istop_kind (Item.EnvItem x) = (λ h. absurd (cc), λ h. absurd h)
istop_kind (Item.SignatureItem x) = (λ h. absurd (cc), λ h. absurd h)
istop_kind (Item.FunctorItem x) = (λ h. absurd (cc), λ h. absurd h)
istop_kind (Item.TopItem x) = (λ h. tt, λ h. refl)

pub is_top : (item : Item) (k : Kind) → k ≡ kind_of item → k ≡ kind.Top → IsTrue true ↔ IsTop item
is_top item k h e = (λ t. (istop_kind item).0 (sym h ∙ e), λ t. refl)

pub is_no_top : (item : Item) (k : Kind) → k ≡ kind_of item → (k ≡ kind.Top → ⊥) → IsTrue false ↔ IsTop item
is_no_top item k h e = (λ t. absurd (not_true t), λ t. absurd (e (h ∙ (istop_kind item).1 t)))

pub kind_is : (items : List Item) (p : ℕ) (x : Node) → StandsAt items p x → node_kind x ≡ kind_of (at items p)
kind_is items p (node.TypeStr kept) h = sym (ap kind_of h.is)
kind_is items p (node.Value kept) h = sym (ap kind_of h.is)
kind_is items p (node.Env kept) h = sym (ap kind_of h.is)
kind_is items p (node.Signature sig) h = sym (ap kind_of h.is)
kind_is items p (node.Functor fun) h = sym (ap kind_of h.is)
kind_is items p (node.Top tables) h = sym (ap kind_of h.is)

-- entries that are nodes
pub reads_type : (items : List Item) (p : ℕ) (kept : KeptType) → StandsAt items p (node.TypeStr kept)
    → kept.entry ≡ as_type (at items p)
reads_type items p kept h = sym (ap as_type h.is)

pub reads_value : (items : List Item) (p : ℕ) (kept : KeptValue) → StandsAt items p (node.Value kept)
    → kept.entry ≡ as_value (at items p)
reads_value items p kept h = sym (ap as_value h.is)

pub signature_there : (items : List Item) (p : ℕ) (kept : SigNode) → StandsAt items p (node.Signature kept)
    → IsEnv (at items kept.env)
signature_there items p kept h = h.node

pub functor_there : (items : List Item) (p : ℕ) (kept : FunNode) → StandsAt items p (node.Functor kept)
    → IsEnv (at items kept.param) × IsEnv (at items kept.result)
functor_there items p kept h = h.node
