-- What a list of nodes unfolds to: each node names earlier ones as its parts.
use Rattle.std.specs.Prelude.{◌≡◌, ℕ, List, [], ◌∷◌, ◌++◌}
use Rattle.semantic_objects.specs.Tables.{Table}
use Rattle.semantic_objects.specs.Environments.{Env, env_of, Signature, Functor, Top}
use Rattle.env_parts.specs.declared.facts.Facts.{Facts}
use Rattle.env_parts.specs.declared.tables.EnvTables.{EnvTables}
use Rattle.env_parts.specs.declared.tables.TopTables.{TopTables}
use Rattle.sml_modules.specs.declared.node.SigNode.{SigNode}
use Rattle.sml_modules.specs.declared.node.FunNode.{FunNode}
use Rattle.sml_modules.specs.declared.node.Kind.{Kind}
use Rattle.sml_modules.specs.declared.node.Kind.TheVariants as kind
use Rattle.sml_modules.specs.declared.node.Node.{Node}
use Rattle.sml_modules.specs.declared.node.Node.TheVariants as node
use Rattle.sml_modules.specs.Items.{Item, at, as_type, as_value, as_env, as_signature, as_functor, IsType, IsValue, IsEnv, IsSignature, IsFunctor, map_rows}
use Rattle.env_parts.specs.Types.{no_facts}
use Rattle.sml_modules.specs.Items.{item_facts}

-- the trees of a node, from those of the nodes before it
abbrev pub env_of_tables : List Item → EnvTables → Env
env_of_tables items tables = env_of
    (map_rows (λ p. as_env (at items p)) tables.structures)
    (map_rows (λ p. as_type (at items p)) tables.types)
    (map_rows (λ p. as_value (at items p)) tables.values)

abbrev pub signature_of_node : List Item → SigNode → Signature
signature_of_node items sig = record { bound = sig.bound; env = as_env (at items sig.env) }

abbrev pub functor_of_node : List Item → FunNode → Functor
functor_of_node items fun = record {
  bound = fun.bound;
  param = as_env (at items fun.param);
  further = fun.further;
  result = as_env (at items fun.result);
}

abbrev pub top_of_tables : List Item → TopTables → Top
top_of_tables items tables = record {
  env = as_env (at items tables.env);
  signatures = map_rows (λ p. as_signature (at items p)) tables.signatures;
  functors = map_rows (λ p. as_functor (at items p)) tables.functors;
  funsigs = map_rows (λ p. as_functor (at items p)) tables.funsigs;
}

abbrev pub node_item : List Item → Node → Item
node_item items (node.TypeStr kept) = Item.TypeItem kept.entry
node_item items (node.Value kept) = Item.ValueItem kept.entry
node_item items (node.Env kept) = Item.EnvItem (env_of_tables items kept.tables)
node_item items (node.Signature sig) = Item.SignatureItem (signature_of_node items sig)
node_item items (node.Functor fun) = Item.FunctorItem (functor_of_node items fun)
node_item items (node.Top tables) = Item.TopItem (top_of_tables items tables)

-- the trees of nodes in their order, after those that were there before
abbrev pub unfolded_after : List Item → List Node → List Item
unfolded_after items [] = items
unfolded_after items (x ∷ xs) = unfolded_after (items ++ node_item items x ∷ []) xs

abbrev pub unfolded : List Node → List Item
unfolded nodes = unfolded_after [] nodes

-- each row of a table is at the place of a node of that kind
abbrev pub AreAll : (Item → Type 0) → List Item → Table ℕ → Type 0
AreAll Is items [] = Unit {0}
AreAll Is items (row ∷ rows) = Is (at items row.1) × AreAll Is items rows

pub record AreEnvTables (items : List Item) (tables : EnvTables) : Type 0 where
  pub structures : AreAll IsEnv items tables.structures
  pub types : AreAll IsType items tables.types
  pub values : AreAll IsValue items tables.values

pub record AreTopTables (items : List Item) (tables : TopTables) : Type 0 where
  pub env : IsEnv (at items tables.env)
  pub signatures : AreAll IsSignature items tables.signatures
  pub functors : AreAll IsFunctor items tables.functors
  pub funsigs : AreAll IsFunctor items tables.funsigs

-- a node after others: its parts are earlier nodes of their kinds, and the facts kept with it are those of its tree
abbrev pub IsNodeAfter : List Item → Node → Type 0
IsNodeAfter items (node.TypeStr kept) = kept.facts ≡ item_facts (Item.TypeItem kept.entry)
IsNodeAfter items (node.Value kept) = kept.facts ≡ item_facts (Item.ValueItem kept.entry)
IsNodeAfter items (node.Env kept) =
    AreEnvTables items kept.tables × (kept.facts ≡ item_facts (Item.EnvItem (env_of_tables items kept.tables)))
IsNodeAfter items (node.Signature sig) = IsEnv (at items sig.env)
IsNodeAfter items (node.Functor fun) = IsEnv (at items fun.param) × IsEnv (at items fun.result)
IsNodeAfter items (node.Top tables) = AreTopTables items tables

abbrev pub AreNodesAfter : List Item → List Node → Type 0
AreNodesAfter items [] = Unit {0}
AreNodesAfter items (x ∷ xs) = IsNodeAfter items x × AreNodesAfter (items ++ node_item items x ∷ []) xs

-- of which kind a node is, and what stands at it
abbrev pub node_kind : Node → Kind
node_kind (node.TypeStr kept) = kind.TypeStr
node_kind (node.Value kept) = kind.Value
node_kind (node.Env kept) = kind.Env
node_kind (node.Signature sig) = kind.Signature
node_kind (node.Functor fun) = kind.Functor
node_kind (node.Top tables) = kind.Top

abbrev pub kind_of : Item → Kind
kind_of Item.Nowhere = kind.Nothing
kind_of (Item.TypeItem entry) = kind.TypeStr
kind_of (Item.ValueItem entry) = kind.Value
kind_of (Item.EnvItem env) = kind.Env
kind_of (Item.SignatureItem sig) = kind.Signature
kind_of (Item.FunctorItem fun) = kind.Functor
kind_of (Item.TopItem top) = kind.Top

-- the facts kept with a node, and those of no type where none are kept
abbrev pub kept_facts : Node → Facts
kept_facts (node.TypeStr kept) = kept.facts
kept_facts (node.Value kept) = kept.facts
kept_facts (node.Env kept) = kept.facts
kept_facts (node.Signature sig) = no_facts
kept_facts (node.Functor fun) = no_facts
kept_facts (node.Top tables) = no_facts

-- nodes of which each stands after its parts
pub record AreNodes (nodes : List Node) : Type 0 where
  pub each : AreNodesAfter [] nodes
