-- What is known of variables, and what becomes of an environment.
use Rattle.std.specs.Prelude.{◌≡◌, ℕ, ◌<◌, [], length, slice_get, Some}
use Rattle.semantic_objects.specs.Trees.{Tree}
use Rattle.unification.specs.Types.{Substitution}
use Rattle.unification.specs.Closing.{closed_over, put_tree}
use Rattle.type_nodes.specs.Tables.{Table, state}
use Rattle.realisation.specs.Environments.{Change, by_types}
use Rattle.environment_walks.specs.Changing.{image_in}
use Rattle.known_environments.specs.declared.known.Known.{Known}

-- what stands for the variables is put in
abbrev pub putting : Substitution → Change
putting s = by_types (put_tree s)

-- .. as a table knows it
abbrev pub known_by : Table → Change
known_by t = putting (state t).stands

-- what stands for a variable, as a tree in which all variables stay free
abbrev pub tree_for : Substitution → ℕ → Tree
tree_for s n = closed_over [] (s n)

-- each tree is what stands for its variable
pub record AreKnown (s : Substitution) (known : Known) : Type 0 where
  pub within : (n p : ℕ) → image_in known.places n ≡ Some p → p < length known.trees
  pub is : (n p : ℕ) (tree : Tree) → image_in known.places n ≡ Some p → slice_get known.trees p ≡ Some tree
      → tree ≡ tree_for s n
