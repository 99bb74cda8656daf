-- The nodes of a type in the order of the walk.
use Rattle.std.specs.Prelude.{◌≡◌, ℕ, ◌-◌, List, [], ◌∷◌, ◌++◌, length, Bool, Option, Some, None, slice_get}
use Rattle.std.specs.List.{flat_map}
use Rattle.semantic_objects.specs.declared.name.TyName.{TyName}
use Rattle.semantic_objects.specs.declared.node.TypeNode.{TypeNode}
use Rattle.semantic_objects.specs.declared.node.TypeNode.TheVariants as node
use Rattle.semantic_objects.specs.Trees.{Tree, Trees}
use Rattle.semantic_objects.specs.Nodes.{tree_at}
use Rattle.unification.specs.Closing.{is_among}
use Rattle.realisation.specs.Names.{names_of_symbol, names_in, is_listed}
use Rattle.environment_walks.specs.declared.places.Images.{Images}
use Rattle.environment_walks.specs.declared.steps.Step.{Step}
use Rattle.name_walks.specs.Noting.{noted_all, Goes}

-- the variables of a scheme that stand in a tree, in the order of the walk; each occurrence counts
abbrev mutual
  pub variables_in : Tree → List ℕ
  variables_in (Tree.Bound i) = i ∷ []
  variables_in (Tree.Free n) = []
  variables_in (Tree.Made c ts) = variables_in_all ts

  pub variables_in_all : Trees → List ℕ
  variables_in_all Trees.Nil = []
  variables_in_all (Trees.Cons t ts) = variables_in t ++ variables_in_all ts

-- the name and the variable that a node is, without those of its parts
abbrev pub own_names : Option TypeNode → List TyName
own_names None = []
own_names (Some (node.Bound i)) = []
own_names (Some (node.Free n)) = []
own_names (Some (node.Made c places)) = names_of_symbol c

abbrev pub own_variables : Option TypeNode → List ℕ
own_variables None = []
own_variables (Some (node.Bound i)) = i ∷ []
own_variables (Some (node.Free n)) = []
own_variables (Some (node.Made c places)) = []

abbrev pub names_at : List TypeNode → ℕ → List TyName
names_at nodes p = own_names (slice_get nodes p)

abbrev pub variables_at : List TypeNode → ℕ → List ℕ
variables_at nodes p = own_variables (slice_get nodes p)

-- those of the tree at a place
abbrev pub node_names : List TypeNode → ℕ → List TyName
node_names nodes p = names_in (tree_at nodes p)

abbrev pub node_variables : List TypeNode → ℕ → List ℕ
node_variables nodes p = variables_in (tree_at nodes p)

-- a step was taken that visited some nodes
abbrev pub Visits : {A : Type 0} → (A → List A → Bool) → (ℕ → List A) → (ℕ → List A) → Step → List ℕ → List ℕ
    → Images → Images → List Step → List Step → Type 0
Visits {A} listed own N s old new done more before after = (d : List A) → Goes listed N s
    (noted_all listed d (flat_map own old)) (noted_all listed d (flat_map own new)) done more before after

pub record TakesStep (nodes : List TypeNode) (s : Step) (old new : List ℕ) (done more : Images)
    (before after : List Step) : Type 0 where
  pub names : Visits is_listed (names_at nodes) (node_names nodes) s old new done more before after
  pub variables : Visits is_among (variables_at nodes) (node_variables nodes) s old new done more before after

-- what is noted of nodes one after the other, is what is noted of the tree at a place in the order of the walk
pub record FollowsWalk (nodes : List TypeNode) (at : ℕ) (visits : List ℕ) : Type 0 where
  pub names : (d : List TyName) → noted_all is_listed d (flat_map (names_at nodes) visits)
      ≡ noted_all is_listed d (node_names nodes at)
  pub variables : (d : List ℕ) → noted_all is_among d (flat_map (variables_at nodes) visits)
      ≡ noted_all is_among d (node_variables nodes at)

-- .. of the whole tree
abbrev pub IsVisited : List TypeNode → List ℕ → Type 0
IsVisited nodes visits = FollowsWalk nodes (length nodes - 1) visits
