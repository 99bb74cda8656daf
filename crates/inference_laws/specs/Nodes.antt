-- What types, trees, states and environments are made of: the symbols that stand in them, each with so many parts.
use Rattle.std.specs.Prelude.{◌≡◌, ℕ, zero, suc, List, [], ◌∷◌, length, Bool, true, false, ◌||◌, not, ltb, ◌≤◌}
use Rattle.semantic_objects.specs.declared.name.Owner.TheVariants as owner
use Rattle.semantic_objects.specs.declared.name.TyName.{TyName}
use Rattle.semantic_objects.specs.declared.symbol.Symbol.{Symbol}
use Rattle.semantic_objects.specs.declared.symbol.Symbol.TheVariants as symbol
use Rattle.semantic_objects.specs.declared.entry.TypeFn.{TypeFn}
use Rattle.semantic_objects.specs.Symbols.{AreRising}
use Rattle.semantic_objects.specs.Trees.{Tree, Trees, TypeScheme, IsScheme, BindsBelow}
use Rattle.semantic_objects.specs.Environments.{Env}
use Rattle.unification.specs.Types.{Ty, Types, State}
use Rattle.static_semantics.specs.Inferring.{Progress, Scope, Bound}
use Rattle.static_semantics.specs.DatatypeInference.{same_as_home}
use Rattle.static_semantics.specs.Holding.{AllItems, AllRows, EnvHas}

-- whether a symbol may stand with so many parts
abbrev pub Nodes : Type 0
Nodes = Symbol → ℕ → Bool

abbrev pub count_types : Types → ℕ
count_types Types.Nil = zero
count_types (Types.Cons t ts) = suc (count_types ts)

abbrev pub count_trees : Trees → ℕ
count_trees Trees.Nil = zero
count_trees (Trees.Cons t ts) = suc (count_trees ts)

-- each node of a type, of a tree, is such a one
abbrev mutual
  pub TyOf : Nodes → Ty → Type 0
  TyOf q (Ty.Var n) = Unit {0}
  TyOf q (Ty.Made c ts) = (q c (count_types ts) ≡ true) × TysOf q ts

  pub TysOf : Nodes → Types → Type 0
  TysOf q Types.Nil = Unit {0}
  TysOf q (Types.Cons t ts) = TyOf q t × TysOf q ts

abbrev mutual
  pub TreeOf : Nodes → Tree → Type 0
  TreeOf q (Tree.Bound i) = Unit {0}
  TreeOf q (Tree.Free n) = Unit {0}
  TreeOf q (Tree.Made c ts) = (q c (count_trees ts) ≡ true) × TreesOf q ts

  pub TreesOf : Nodes → Trees → Type 0
  TreesOf q Trees.Nil = Unit {0}
  TreesOf q (Trees.Cons t ts) = TreeOf q t × TreesOf q ts

-- .. of what stands for the variables of a state
abbrev pub StateOf : Nodes → State → Type 0
StateOf q s = (n : ℕ) → TyOf q (s.stands n)

-- .. of a scheme, that has a mark for each of its variables; of a type function, whose arguments are as many as its
-- arity
pub record SchemeOf (q : Nodes) (σ : TypeScheme) : Type 0 where
  pub closed : IsScheme σ
  pub body : TreeOf q σ.body

pub record FunctionOf (q : Nodes) (function : TypeFn) : Type 0 where
  pub closed : BindsBelow function.arity function.body
  pub body : TreeOf q function.body

-- .. of an environment
abbrev pub EnvOf : Nodes → Env → Type 0
EnvOf q env = EnvHas (SchemeOf q) (FunctionOf q) env

-- a name or a label is such a one
abbrev pub IsGood : (List ℕ → Bool) → List ℕ → Type 0
IsGood good name = good name ≡ true

-- a type name of the initial basis without arguments
abbrev pub basis_symbol : ℕ → Bool → Symbol
basis_symbol number eq = symbol.Name (record { owner = owner.Basis; number = number; arity = 0; eq = eq })

-- the symbols of the language, and of the constants of the initial basis, may stand, records with good labels
pub record Admits (good : List ℕ → Bool) (q : Nodes) : Type 0 where
  pub arrow : q symbol.Arrow 2 ≡ true
  pub records : (labels : List (List ℕ)) → AreRising labels → AllItems (IsGood good) labels
      → q (symbol.Record labels) (length labels) ≡ true
  pub int : q (basis_symbol 0 true) 0 ≡ true
  pub string : q (basis_symbol 2 true) 0 ≡ true
  pub char : q (basis_symbol 3 true) 0 ≡ true
  pub exn : q (basis_symbol 7 false) 0 ≡ true

-- a scope is made of such nodes, and a state too
pub record ScopeOf (good : List ℕ → Bool) (sc : Scope) (q : Nodes) : Type 0 where
  pub admits : Admits good q
  pub env : EnvOf q sc.env
  pub written : AllRows (TyOf q) sc.written

pub record IsOf (good : List ℕ → Bool) (sc : Scope) (st : Progress) (q : Nodes) : Type 0 where
  pub scope : ScopeOf good sc q
  pub state : StateOf q st.types

-- names of a unit that are numbered one after another, from one number up to below another
abbrev pub NumberedFrom : List ℕ → ℕ → List TyName → ℕ → Type 0
NumberedFrom home from [] to = from ≡ to
NumberedFrom home from (name ∷ names) to =
    (name.owner ≡ owner.«Unit» home) × (name.number ≡ from) × NumberedFrom home (suc from) names to

-- each of these names may stand with as many parts as its arity
abbrev pub MayStand : Nodes → TyName → Type 0
MayStand q name = q (symbol.Name name) name.arity ≡ true

-- from one state to a later one names were made, numbered one after another from the first state's next number on; and
-- of whatever nodes one looks at: where `From` holds and the new names may stand, `To` holds
pub record Makes (home : List ℕ) (From : Nodes → Type 0) (st u : Progress) (To : Nodes → Type 0) : Type 0 where
  pub names : List TyName
  pub numbered : NumberedFrom home st.names names u.names
  pub holds : (q : Nodes) → From q → AllItems (MayStand q) names → To q

-- a symbol is no type name of a unit, or one with a number below another
abbrev pub below_number : List ℕ → ℕ → Nodes
below_number home k symbol.Arrow parts = true
below_number home k (symbol.Record labels) parts = true
below_number home k (symbol.Name name) parts = not (same_as_home home name.owner) || ltb name.number k

-- `From` holds where the unit's names have numbers below a number, or below a later one
abbrev pub IsReadyFor : List ℕ → (Nodes → Type 0) → ℕ → Type 0
IsReadyFor home From k = (m : ℕ) → k ≤ m → From (below_number home m)

-- what inference of an expression, of a declaration, of a pattern gives is made of such nodes
abbrev pub ExpOf : Ty × Progress → Nodes → Type 0
ExpOf r q = StateOf q r.1.types × TyOf q r.0

abbrev pub DecOf : Env × Progress → Nodes → Type 0
DecOf r q = StateOf q r.1.types × EnvOf q r.0

-- .. and a pattern makes no names
pub record PatOf (q : Nodes) (st : Progress) (r : Ty × Bound × Progress) : Type 0 where
  pub names : r.2.names ≡ st.names
  pub state : StateOf q r.2.types
  pub ty : TyOf q r.0
  pub bound : AllRows (TyOf q) r.1
