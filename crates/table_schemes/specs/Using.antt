-- Instances that are made of what a table has of a scheme. Only private functions cite this file.
use Rattle.std.specs.Prelude.{◌≡◌, ℕ, List, [], ◌∷◌, length, map, get_or, slice_get, Option, Some, None}
use Rattle.semantic_objects.specs.declared.name.TyId.{TyId}
use Rattle.semantic_objects.specs.Trees.{Tree}
use Rattle.semantic_objects.specs.Nodes.{nowhere}
use Rattle.type_nodes.specs.Tables.{Table, Has}
use Rattle.type_schemes.specs.Instances.{ReadAs}
use Rattle.type_schemes.specs.Schemes.{HaveAll}
use Rattle.table_schemes.specs.declared.scheme.OpenPart.{OpenPart}
use Rattle.table_schemes.specs.declared.scheme.OpenPart.TheVariants as part
use Rattle.table_schemes.specs.declared.scheme.OpenNode.{OpenNode}
use Rattle.table_schemes.specs.Meaning.{part_tree, node_tree}

-- a part that is an id is the table's
abbrev pub HasPart : Table → OpenPart → Type 0
HasPart t (part.Closed a) = Has t a
HasPart t (part.Bound i) = Unit {0}
HasPart t (part.Open k) = Unit {0}

abbrev pub HaveParts : Table → List OpenPart → Type 0
HaveParts t parts = (i : ℕ) (a : OpenPart) → slice_get parts i ≡ Some a → HasPart t a

-- the ids of the first nodes
abbrev pub AreMade : Table → ℕ → List Tree → List TyId → Type 0
AreMade t base trees ids = (k : ℕ) (a : TyId) → slice_get ids k ≡ Some a → ReadAs t base (get_or trees k nowhere) a

-- ids of these trees in their order
abbrev pub AreAllRead : Table → ℕ → List Tree → List TyId → Type 0
AreAllRead t base [] [] = Unit {0}
AreAllRead t base [] (a ∷ ids) = ⊥
AreAllRead t base (x ∷ xs) [] = ⊥
AreAllRead t base (x ∷ xs) (a ∷ ids) = ReadAs t base x a × AreAllRead t base xs ids

-- an answer for a part: where there is an id, it is the part's
abbrev pub MayBePart : Table → ℕ → List Tree → OpenPart → Option TyId → Type 0
MayBePart t base trees p o = (a : TyId) → o ≡ Some a → ReadAs t base (part_tree t trees p) a

-- .. whichever trees the nodes are
abbrev pub IsPartId : Table → ℕ → List TyId → OpenPart → Option TyId → Type 0
IsPartId t base ids p o = (trees : List Tree) → AreMade t base trees ids → MayBePart t base trees p o

-- ids for parts
abbrev pub ArePartIds : Table → ℕ → List TyId → List OpenPart → List TyId → Type 0
ArePartIds t base ids parts found =
    (trees : List Tree) → AreMade t base trees ids → AreAllRead t base (map (part_tree t trees) parts) found

abbrev pub MayBePartIds : Table → ℕ → List TyId → List OpenPart → Option (List TyId) → Type 0
MayBePartIds t base ids parts None = Unit {0}
MayBePartIds t base ids parts (Some found) = ArePartIds t base ids parts found

-- as many ids of the table as there are parts
abbrev pub MayHaveAll : Table → List OpenPart → Option (List TyId) → Type 0
MayHaveAll t parts None = Unit {0}
MayHaveAll t parts (Some found) = HaveAll t found × (length found ≡ length parts)

-- an id of a later table for a node
abbrev pub IsNodeId : Table → ℕ → List TyId → OpenNode → Table → TyId → Type 0
IsNodeId t base ids x u a =
    (trees : List Tree) → AreMade t base trees ids → ReadAs u base (node_tree t trees x) a
