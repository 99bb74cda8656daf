-- What signatures, functors and tops are made of: the nodes around them, and the type names that they bind.
use Rattle.std.specs.Prelude.{◌≡◌, ℕ, suc, List, [], ◌∷◌, ◌++◌, length, Bool, ◌||◌, ◌&&◌, eqb}
use Rattle.semantic_objects.specs.declared.name.Owner.TheVariants as owner
use Rattle.semantic_objects.specs.declared.name.TyName.{TyName}
use Rattle.semantic_objects.specs.declared.symbol.Symbol.TheVariants as symbol
use Rattle.semantic_objects.specs.Environments.{Signature, Functor, Top}
use Rattle.realisation.specs.Names.{is_listed}
use Rattle.static_semantics.specs.Inferring.{Progress}
use Rattle.static_semantics.specs.Holding.{AllRows}
use Rattle.inference_laws.specs.Nodes.{Nodes, StateOf, EnvOf, Admits}

-- what may stand, or one of these names with as many parts as its arity
abbrev pub allowing : List TyName → Nodes → Nodes
allowing names q symbol.Arrow parts = q symbol.Arrow parts
allowing names q (symbol.Record labels) parts = q (symbol.Record labels) parts
allowing names q (symbol.Name name) parts =
    (is_listed name names && eqb parts name.arity) || q (symbol.Name name) parts

-- bound names, numbered one after another from a number on
abbrev pub AreBoundFrom : ℕ → List TyName → Type 0
AreBoundFrom number [] = Unit {0}
AreBoundFrom number (name ∷ names) =
    (name.owner ≡ owner.Bound) × (name.number ≡ number) × AreBoundFrom (suc number) names

pub record SignatureOf (q : Nodes) (sig : Signature) : Type 0 where
  pub bound : AreBoundFrom 0 sig.bound
  pub env : EnvOf (allowing sig.bound q) sig.env

-- in the result the parameter's names may stand and the further ones, which have the numbers after them
pub record FunctorOf (q : Nodes) (fun : Functor) : Type 0 where
  pub bound : AreBoundFrom 0 fun.bound
  pub param : EnvOf (allowing fun.bound q) fun.param
  pub further : AreBoundFrom (length fun.bound) fun.further
  pub result : EnvOf (allowing (fun.bound ++ fun.further) q) fun.result

pub record TopOf (q : Nodes) (top : Top) : Type 0 where
  pub env : EnvOf q top.env
  pub signatures : AllRows (SignatureOf q) top.signatures
  pub functors : AllRows (FunctorOf q) top.functors
  pub funsigs : AllRows (FunctorOf q) top.funsigs

-- what is in scope at the top is made of such nodes, and a state too; so are the constants of the language
pub record IsOfTop (good : List ℕ → Bool) (top : Top) (st : Progress) (q : Nodes) : Type 0 where
  pub admits : Admits good q
  pub scope : TopOf q top
  pub state : StateOf q st.types
