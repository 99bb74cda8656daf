-- Trees that are read into a table. Only private functions cite this file.
use Rattle.std.specs.Prelude.{◌≡◌, ℕ, List, get_or, Option, Some, None}
use Rattle.semantic_objects.specs.declared.name.TyId.{TyId}
use Rattle.semantic_objects.specs.declared.node.TypeNode.{TypeNode}
use Rattle.semantic_objects.specs.Trees.{Tree}
use Rattle.semantic_objects.specs.Nodes.{tree_at}
use Rattle.unification.specs.Types.{Ty}
use Rattle.type_nodes.specs.Tables.{Table, Has, type_of}
use Rattle.type_functions.specs.Applied.{with_types}

-- an id was made as a tree with types for its own variables
pub record ReadWith (t : Table) (types : List Ty) (x : Tree) (a : TyId) : Type 0 where
  pub has : Has t a
  pub type : (other : Ty) → type_of t a ≡ with_types other types x

-- an answer for a node: where there is an id, it is the tree's
abbrev pub MayBeRead : Table → List Ty → Tree → Option TyId → Type 0
MayBeRead t types x o = (a : TyId) → o ≡ Some a → ReadWith t types x a

-- the ids of the first nodes
abbrev pub AreRead : Table → List Ty → List TypeNode → List (Option TyId) → Type 0
AreRead t types nodes ids = (p : ℕ) → MayBeRead t types (tree_at nodes p) (get_or ids p None)
