-- Schemes that are entered into a table, node by node. Only private functions cite this file.
use Rattle.std.specs.Prelude.{◌≡◌, ℕ, List, ◌++◌, map, get_or, Option, Some, None}
use Rattle.semantic_objects.specs.declared.name.TyId.{TyId}
use Rattle.semantic_objects.specs.declared.node.TypeNode.{TypeNode}
use Rattle.semantic_objects.specs.Trees.{Tree}
use Rattle.semantic_objects.specs.Nodes.{tree_at}
use Rattle.type_nodes.specs.Tables.{Table}
use Rattle.table_schemes.specs.declared.scheme.OpenPart.{OpenPart}
use Rattle.table_schemes.specs.declared.scheme.OpenPart.TheVariants as part
use Rattle.table_schemes.specs.declared.scheme.OpenNode.{OpenNode}
use Rattle.table_schemes.specs.Meaning.{AreNodes, HasOpen, IsTree}

-- an answer for a node: where there is a part, it is that tree
abbrev pub MayBeTree : Table → List OpenNode → Tree → Option OpenPart → Type 0
MayBeTree t nodes x o = (a : OpenPart) → o ≡ Some a → IsTree t nodes x a

-- the parts that the first nodes of a scheme became
pub record AreEntered (t : Table) (xs : List TypeNode) (made : List OpenNode) (parts : List (Option OpenPart)) : Type 0 where
  pub nodes : AreNodes t made
  pub trees : (p : ℕ) → MayBeTree t made (tree_at xs p) (get_or parts p None)

-- parts that stand at some places, if there is one at each
abbrev pub parts_at : List (Option OpenPart) → List ℕ → List (Option OpenPart)
parts_at parts places = map (λ p. get_or parts p None) places

abbrev pub ArePartsAt : List (Option OpenPart) → List ℕ → Option (List OpenPart) → Type 0
ArePartsAt parts places None = Unit {0}
ArePartsAt parts places (Some found) = parts_at parts places ≡ map Some found

-- ids that parts are, if all are ids; else one of them is none
abbrev pub AreClosed : List OpenPart → Option (List TyId) → Type 0
AreClosed parts None = HasOpen parts
AreClosed parts (Some ids) = parts ≡ map part.Closed ids

-- nodes were added behind those that there were
pub record AddsNodes (old new : List OpenNode) : Type 0 where
  pub more : List OpenNode
  pub is : new ≡ old ++ more
