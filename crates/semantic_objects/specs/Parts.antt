-- The parts that a type tree is made of and read as.
use Rattle.std.specs.Prelude.{◌≡◌, ℕ, List, [], ◌∷◌, length, map, IsPermutation}
use Rattle.semantic_objects.specs.declared.name.TyId.{TyId}
use Rattle.semantic_objects.specs.declared.name.TyId.TheVariants as id
use Rattle.semantic_objects.specs.declared.symbol.Symbol.TheVariants as symbol
use Rattle.semantic_objects.specs.declared.part.TreePart.{TreePart}
use Rattle.semantic_objects.specs.declared.part.TreePart.TheVariants as part
use Rattle.semantic_objects.specs.declared.part.TreeField.{TreeField}
use Rattle.semantic_objects.specs.Symbols.{AreRising, AreDiffering}
use Rattle.semantic_objects.specs.Trees.{Tree, trees_of}

-- the number of an id
abbrev pub id_number : TyId → ℕ
id_number (id.Variable n) = n
id_number (id.Made n) = n

abbrev pub IsVariable : TyId → Type 0
IsVariable (id.Variable n) = Unit {0}
IsVariable (id.Made n) = ⊥

abbrev pub labels_of : List TreeField → List (List ℕ)
labels_of fields = map (λ (f : TreeField). f.label) fields

abbrev pub parts_of : List TreeField → List Tree
parts_of fields = map (λ (f : TreeField). f.part) fields

-- a record type of fields in the order in which they stand
abbrev pub record_tree : List TreeField → Tree
record_tree fields = Tree.Made (symbol.Record (labels_of fields)) (trees_of (parts_of fields))

-- a function type of two trees
abbrev pub arrow_tree : List Tree → Tree
arrow_tree parts = Tree.Made symbol.Arrow (trees_of parts)

-- the tree of a part, whose fields stand in the order of the tree
abbrev pub part_tree : TreePart → Tree
part_tree (part.Bound i) = Tree.Bound i
part_tree (part.Free v) = Tree.Free (id_number v)
part_tree (part.Record fields) = record_tree fields
part_tree (part.Arrow from to) = arrow_tree (from ∷ to ∷ [])
part_tree (part.Named name args) = Tree.Made (symbol.Name name) (trees_of args)

-- what is asked of a part: differing labels, and as many arguments as the arity
abbrev pub IsPart : TreePart → Type 0
IsPart (part.Bound i) = Unit {0}
IsPart (part.Free v) = Unit {0}
IsPart (part.Record fields) = AreDiffering (labels_of fields)
IsPart (part.Arrow from to) = Unit {0}
IsPart (part.Named name args) = length args ≡ name.arity

-- a tree is a record type of these fields: they stand in it in rising byte order of labels, whichever way they came
pub record IsRecordOf (fields : List TreeField) (tree : Tree) : Type 0 where
  pub sorted : List TreeField
  pub permutation : IsPermutation fields sorted
  pub rising : AreRising (labels_of sorted)
  pub is : tree ≡ record_tree sorted

-- a tree is made of a part. No tree is made of an id that isn't a variable
abbrev pub IsMadeOf : TreePart → Tree → Type 0
IsMadeOf (part.Bound i) tree = tree ≡ Tree.Bound i
IsMadeOf (part.Free v) tree = IsVariable v × (tree ≡ Tree.Free (id_number v))
IsMadeOf (part.Record fields) tree = IsRecordOf fields tree
IsMadeOf (part.Arrow from to) tree = tree ≡ arrow_tree (from ∷ to ∷ [])
IsMadeOf (part.Named name args) tree = tree ≡ Tree.Made (symbol.Name name) (trees_of args)

-- a part as it is read: fields in rising byte order of labels, as many arguments as the arity, a variable where one is
-- meant
abbrev pub IsReadPart : TreePart → Type 0
IsReadPart (part.Bound i) = Unit {0}
IsReadPart (part.Free v) = IsVariable v
IsReadPart (part.Record fields) = AreRising (labels_of fields)
IsReadPart (part.Arrow from to) = Unit {0}
IsReadPart (part.Named name args) = length args ≡ name.arity
