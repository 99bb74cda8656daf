-- The fields of a record type, sorted.
use Rattle.std.specs.Prelude.{◌≡◌, ℕ, List, IsPermutation}
use Rattle.semantic_objects.specs.declared.part.TreeField.{TreeField}
use Rattle.semantic_objects.specs.Symbols.{AreRising}
use Rattle.semantic_objects.specs.Trees.{Tree}
use Rattle.semantic_objects.specs.Parts.{labels_of, parts_of}

-- labels and trees of fields, in rising byte order of the labels
pub record AreFieldsOf (fields : List TreeField) (labels : List (List ℕ)) (trees : List Tree) : Type 0 where
  pub sorted : List TreeField
  pub permutation : IsPermutation fields sorted
  pub rising : AreRising labels
  pub labels_are : labels ≡ labels_of sorted
  pub trees_are : trees ≡ parts_of sorted
