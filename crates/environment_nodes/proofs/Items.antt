-- The nodes of items of each kind, and what is made over them.
use Rattle.std.proofs.Common.{◌≡◌, ℕ, List, length, refl, ap₂, ◌∙◌, subst, Some}
use Rattle.node_bytes.specs.Nodes.{Node}
use Rattle.node_tables.specs.Tables.{Adds}
use Rattle.sml_modules.specs.declared.node.SigNode.{SigNode}
use Rattle.sml_modules.specs.declared.node.FunNode.{FunNode}
use Rattle.sml_modules.specs.Items.{Item, at, as_type, as_value, as_env, as_signature, as_functor, as_top, IsType, IsValue, IsEnv, IsSignature, IsFunctor, IsTop}
use Rattle.sml_modules.specs.Nodes.{signature_of_node, functor_of_node}
use Rattle.interface_format.specs.Tags.{signature_node, functor_node}
use Rattle.interface_format.specs.Trees.{node_of_type, node_of_scheme, env_node, node_of_signature, node_of_functor, top_node}
use Rattle.interface_nodes.specs.Fields.{node_at}
use Rattle.environment_nodes.specs.declared.places.NodePlaces.{NodePlaces}
use Rattle.environment_nodes.specs.Written.{item_node, place_in, AreWritten, AddsOver}

-- ---- items

pub env_item : (home : List ℕ) (x : Item) → IsEnv x → item_node home x ≡ env_node home (as_env x)
env_item home (Item.EnvItem x) h = refl
env_item home Item.Nowhere h = absurd h
env_item home (Item.TypeItem x) h = absurd h
env_item home (Item.ValueItem x) h = absurd h
env_item home (Item.SignatureItem x) h = absurd h
env_item home (Item.FunctorItem x) h = absurd h
env_item home (Item.TopItem x) h = absurd h

pub type_item : (home : List ℕ) (x : Item) → IsType x → item_node home x ≡ node_of_type home (as_type x)
type_item home (Item.TypeItem x) h = refl
type_item home Item.Nowhere h = absurd h
type_item home (Item.EnvItem x) h = absurd h
type_item home (Item.ValueItem x) h = absurd h
type_item home (Item.SignatureItem x) h = absurd h
type_item home (Item.FunctorItem x) h = absurd h
type_item home (Item.TopItem x) h = absurd h

pub value_item : (home : List ℕ) (x : Item) → IsValue x → item_node home x ≡ node_of_scheme home (as_value x).scheme
value_item home (Item.ValueItem x) h = refl
value_item home Item.Nowhere h = absurd h
value_item home (Item.EnvItem x) h = absurd h
value_item home (Item.TypeItem x) h = absurd h
value_item home (Item.SignatureItem x) h = absurd h
value_item home (Item.FunctorItem x) h = absurd h
value_item home (Item.TopItem x) h = absurd h

pub signature_item : (home : List ℕ) (x : Item) → IsSignature x
    → item_node home x ≡ node_of_signature home (as_signature x)
signature_item home (Item.SignatureItem x) h = refl
signature_item home Item.Nowhere h = absurd h
signature_item home (Item.EnvItem x) h = absurd h
signature_item home (Item.TypeItem x) h = absurd h
signature_item home (Item.ValueItem x) h = absurd h
signature_item home (Item.FunctorItem x) h = absurd h
signature_item home (Item.TopItem x) h = absurd h

pub functor_item : (home : List ℕ) (x : Item) → IsFunctor x → item_node home x ≡ node_of_functor home (as_functor x)
functor_item home (Item.FunctorItem x) h = refl
functor_item home Item.Nowhere h = absurd h
functor_item home (Item.EnvItem x) h = absurd h
functor_item home (Item.TypeItem x) h = absurd h
functor_item home (Item.ValueItem x) h = absurd h
functor_item home (Item.SignatureItem x) h = absurd h
functor_item home (Item.TopItem x) h = absurd h

pub top_item : (home : List ℕ) (x : Item) → IsTop x → item_node home x ≡ top_node home (as_top x)
top_item home (Item.TopItem x) h = refl
top_item home Item.Nowhere h = absurd h
top_item home (Item.EnvItem x) h = absurd h
top_item home (Item.TypeItem x) h = absurd h
top_item home (Item.ValueItem x) h = absurd h
top_item home (Item.SignatureItem x) h = absurd h
top_item home (Item.FunctorItem x) h = absurd h

-- ---- signatures and functors

env_there : (home : List ℕ) (items : List Item) (nodes : List Node) (places : NodePlaces) (p q : ℕ)
    → AreWritten home items nodes places → IsEnv (at items p) → place_in places p ≡ Some q
    → node_at nodes q ≡ env_node home (as_env (at items p))
env_there home items nodes places p q w h e = w.each p q e ∙ env_item home (at items p) h

pub signature_added : (items : List Item) (places : NodePlaces) (old new : List Node) (sig : SigNode)
    (count q place : ℕ) → IsEnv (at items sig.env) → count ≡ length sig.bound → place_in places sig.env ≡ Some q
    → Adds old new (signature_node count (node_at old q)) place
    → AddsOver items places old new (λ home. node_of_signature home (signature_of_node items sig)) place
signature_added items places old new sig count q place h n e a home w =
    subst (λ z. Adds old new z place)
    (ap₂ signature_node n (env_there home items old places sig.env q w h e)) a

pub functor_added : (items : List Item) (places : NodePlaces) (old new : List Node) (fun : FunNode)
    (count more q r place : ℕ) → IsEnv (at items fun.param) → IsEnv (at items fun.result)
    → count ≡ length fun.bound → more ≡ length fun.further → place_in places fun.param ≡ Some q
    → place_in places fun.result ≡ Some r
    → Adds old new (functor_node count (node_at old q) more (node_at old r)) place
    → AddsOver items places old new (λ home. node_of_functor home (functor_of_node items fun)) place
functor_added items places old new fun count more q r place h k n m e f a home w =
    subst (λ z. Adds old new z place)
    (functor_same count (length fun.bound) more (length fun.further) (node_at old q)
    (env_node home (as_env (at items fun.param))) (node_at old r) (env_node home (as_env (at items fun.result)))
    n m (env_there home items old places fun.param q w h e)
    (env_there home items old places fun.result r w k f)) a
  where
    functor_same : (a b c d : ℕ) (x y z w : Node) → a ≡ b → c ≡ d → x ≡ y → z ≡ w
        → functor_node a x c z ≡ functor_node b y d w
    functor_same a b c d x y z w h k l m = ap₂ (λ i j. functor_node i x j z) h k
        ∙ ap₂ (λ i j. functor_node b i d j) l m
