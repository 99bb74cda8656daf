-- The types of a table as they were made, before anything is put in for their variables.
-- The Definition of Standard ML (Revised), section 4.2.
use Rattle.std.specs.Prelude.{◌≡◌, ℕ, ◌<◌, List, [], ◌∷◌, ◌++◌, length, get_or, slice_get, Some, false}
use Rattle.semantic_objects.specs.declared.name.TyId.{TyId}
use Rattle.semantic_objects.specs.declared.name.TyId.TheVariants as id
use Rattle.semantic_objects.specs.Symbols.{part_count, HasRisingLabels}
use Rattle.unification.specs.Types.{Ty, Types, Marks, State}
use Rattle.unification.specs.Fitting.{IsBelow}
use Rattle.type_nodes.specs.declared.node.Birth.{Birth}
use Rattle.type_nodes.specs.declared.node.Node.{Node}

-- variables in the order of their making, and nodes
pub record Store : Type 0 where
  pub births : List Birth
  pub nodes : List Node

-- the type at an id, from those of the nodes
abbrev pub type_in : List Ty → TyId → Ty
type_in made (id.Variable v) = Ty.Var v
type_in made (id.Made i) = get_or made i (Ty.Var 0)

abbrev pub types_in : List Ty → List TyId → Types
types_in made [] = Types.Nil
types_in made (a ∷ ids) = Types.Cons (type_in made a) (types_in made ids)

-- the type of a node, from those of the nodes before it
abbrev pub node_type : List Ty → Node → Ty
node_type made x = Ty.Made x.symbol (types_in made x.parts)

-- the types of nodes in their order, after those that were made before
abbrev pub made_after : List Ty → List Node → List Ty
made_after made [] = made
made_after made (x ∷ xs) = made_after (made ++ node_type made x ∷ []) xs

-- the types of nodes in their order
abbrev pub made : List Node → List Ty
made nodes = made_after [] nodes

-- the type at an id as it was made: what is put in later doesn't change it
abbrev pub type_at : Store → TyId → Ty
type_at s a = type_in (made s.nodes) a

abbrev pub types_at : Store → List TyId → Types
types_at s ids = types_in (made s.nodes) ids

-- an id of so many variables and so many nodes
abbrev pub IsIdOf : ℕ → ℕ → TyId → Type 0
IsIdOf variables nodes (id.Variable v) = v < variables
IsIdOf variables nodes (id.Made i) = i < nodes

abbrev pub Has : Store → TyId → Type 0
Has s a = IsIdOf (length s.births) (length s.nodes) a

-- a node whose parts are ids of so many variables and nodes, as many as its symbol takes; labels rise
pub record IsNodeOver (variables nodes : ℕ) (x : Node) : Type 0 where
  pub parts : (i : ℕ) (a : TyId) → slice_get x.parts i ≡ Some a → IsIdOf variables nodes a
  pub counted : length x.parts ≡ part_count x.symbol
  pub rising : HasRisingLabels x.symbol

-- a node that may be added
abbrev pub IsNode : Store → Node → Type 0
IsNode s x = IsNodeOver (length s.births) (length s.nodes) x

-- each node is over variables and nodes before it, its type is its symbol over their types, and no variable stands in
-- it that wasn't made
pub record AreMade (s : Store) : Type 0 where
  pub each : (i : ℕ) (x : Node) → slice_get s.nodes i ≡ Some x → IsNodeOver (length s.births) i x
  pub noted : (i : ℕ) (x : Node) → slice_get s.nodes i ≡ Some x → type_at s (id.Made i) ≡ node_type (made s.nodes) x
  pub below : (i : ℕ) → i < length s.nodes → IsBelow (length s.births) (type_at s (id.Made i))

abbrev pub with_birth : Birth → Store → Store
with_birth b s = record { births = s.births ++ b ∷ []; nodes = s.nodes }

abbrev pub with_node : Node → Store → Store
with_node x s = record { births = s.births; nodes = s.nodes ++ x ∷ [] }

-- how a variable was made; one that wasn't is flexible and has no mark
abbrev pub birth_in : List Birth → ℕ → Birth
birth_in births v = get_or births v (record { marked = false; rigid = false })

abbrev pub marked_in : List Birth → Marks
marked_in births v = (birth_in births v).marked

abbrev pub rigid_in : List Birth → Marks
rigid_in births v = (birth_in births v).rigid

-- the state in which all variables were made and nothing was put in
abbrev pub born : List Birth → State
born births = record { next = length births; stands = Ty.Var; marks = marked_in births; rigid = rigid_in births }
