-- A scheme that is read into a table: new variables for its own, in the order of its marks, and its type over them.
-- The Definition of Standard ML (Revised), section 4.5.
use Rattle.std.specs.Prelude.{◌≡◌, ℕ, ◌+◌, List, ◌++◌, map, get_or, Option, Some, None, Bool, false}
use Rattle.semantic_objects.specs.declared.name.TyId.{TyId}
use Rattle.semantic_objects.specs.declared.node.TypeNode.{TypeNode}
use Rattle.semantic_objects.specs.Trees.{Tree}
use Rattle.semantic_objects.specs.Nodes.{tree_at}
use Rattle.unification.specs.Types.{Ty}
use Rattle.unification.specs.Instances.{fill}
use Rattle.type_nodes.specs.declared.node.Birth.{Birth}
use Rattle.type_nodes.specs.declared.node.Node.{Node}
use Rattle.type_nodes.specs.Tables.{Table, Has, type_of, IsFrontOf}

-- a new variable for a mark: what it stands for is open, and it is an equality variable where it is marked
abbrev pub birth_of : Bool → Birth
birth_of m = record { marked = m; rigid = false }

abbrev pub births_of : List Bool → List Birth
births_of marks = map birth_of marks

-- nothing is taken back, ids stay ids and stay what they were made as, and nothing was put in for variables
pub record Extends (old new : Table) : Type 0 where
  pub front : IsFrontOf old new
  pub trail : new.trail ≡ old.trail
  pub types : (a : TyId) → Has old a → type_of new a ≡ type_of old a
  pub ids : (a : TyId) → Has old a → Has new a

-- variables and nodes were added behind those that there were, and nothing else was done
pub record Adds (old new : Table) : Type 0 where
  pub variables : List Birth
  pub made : List Node
  pub births : new.births ≡ old.births ++ variables
  pub nodes : new.nodes ≡ old.nodes ++ made
  pub trail : new.trail ≡ old.trail

-- the type of a tree whose scheme got the variables from this number on
abbrev pub instance_at : ℕ → Tree → Ty
instance_at base x = fill (λ i. Ty.Var (base + i)) Ty.Var x

-- an id was made as the type of a tree
pub record ReadAs (t : Table) (base : ℕ) (x : Tree) (a : TyId) : Type 0 where
  pub has : Has t a
  pub type : type_of t a ≡ instance_at base x

-- an answer for a node: where there is an id, it is the tree's
abbrev pub MayBeRead : Table → ℕ → Tree → Option TyId → Type 0
MayBeRead t base x o = (a : TyId) → o ≡ Some a → ReadAs t base x a

-- the ids of the first nodes
abbrev pub AreRead : Table → ℕ → List TypeNode → List (Option TyId) → Type 0
AreRead t base nodes ids = (p : ℕ) → MayBeRead t base (tree_at nodes p) (get_or ids p None)

-- ids that stand at some places, if there is one at each
abbrev pub ids_at : List (Option TyId) → List ℕ → List (Option TyId)
ids_at ids places = map (λ p. get_or ids p None) places

abbrev pub ArePartsAt : List (Option TyId) → List ℕ → Option (List TyId) → Type 0
ArePartsAt ids places None = Unit {0}
ArePartsAt ids places (Some parts) = ids_at ids places ≡ map Some parts
