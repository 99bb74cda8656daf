-- Type names applied to the variables of their lists, as trees. Only private functions cite this file.
use Rattle.std.specs.Prelude.{map}
use Rattle.semantic_objects.specs.declared.name.TyName.{TyName}
use Rattle.semantic_objects.specs.declared.symbol.Symbol.TheVariants as symbol
use Rattle.semantic_objects.specs.Trees.{Tree, trees_of}
use Rattle.static_semantics.specs.DatatypeInference.{counted}

abbrev pub own_tree : TyName → Tree
own_tree name = Tree.Made (symbol.Name name) (trees_of (map Tree.Bound (counted name.arity 0)))
