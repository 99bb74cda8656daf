-- Types as trees in which variables may stand, and type schemes.
-- The Definition of Standard ML (Revised), sections 4.2 and 4.5.
use Rattle.std.specs.Prelude.{◌≡◌, ℕ, ◌<◌, List, [], ◌∷◌, length, Bool, true, false, ◌||◌, eqb}
use Rattle.semantic_objects.specs.declared.symbol.Symbol.{Symbol}

-- a variable of the scheme around, by its place in the list of marks; a variable of a table, by its number; or a symbol
-- over any number of parts
mutual
  pub data Tree : Type 0 where
    Bound : ℕ → Tree
    Free : ℕ → Tree
    Made : Symbol → Trees → Tree

  pub data Trees : Type 0 where
    Nil : Trees
    Cons : Tree → Trees → Trees

-- the trees of a list, as the parts of one
abbrev pub trees_of : List Tree → Trees
trees_of [] = Trees.Nil
trees_of (t ∷ ts) = Trees.Cons t (trees_of ts)

-- a type scheme: for each of its variables in their order whether it is an equality variable, and the type that it
-- closes
pub record TypeScheme : Type 0 where
  pub marks : List Bool
  pub body : Tree

-- whether variable `i` of the scheme around stands in a tree
abbrev mutual
  pub binds : ℕ → Tree → Bool
  binds i (Tree.Bound j) = eqb i j
  binds i (Tree.Free n) = false
  binds i (Tree.Made c ts) = binds_any i ts

  pub binds_any : ℕ → Trees → Bool
  binds_any i Trees.Nil = false
  binds_any i (Trees.Cons t ts) = binds i t || binds_any i ts

-- whether variable `n` of the table stands in a tree
abbrev mutual
  pub frees : ℕ → Tree → Bool
  frees n (Tree.Bound i) = false
  frees n (Tree.Free m) = eqb n m
  frees n (Tree.Made c ts) = frees_any n ts

  pub frees_any : ℕ → Trees → Bool
  frees_any n Trees.Nil = false
  frees_any n (Trees.Cons t ts) = frees n t || frees_any n ts

-- every variable of a scheme or of a type function that stands in a tree is one of so many
abbrev pub BindsBelow : ℕ → Tree → Type 0
BindsBelow k t = (i : ℕ) → binds i t ≡ true → i < k

-- the variables that stand in a scheme's body are among those that it has marks for
abbrev pub IsScheme : TypeScheme → Type 0
IsScheme σ = BindsBelow (length σ.marks) σ.body
