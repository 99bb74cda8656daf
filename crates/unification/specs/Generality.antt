-- Which of two schemes is at least as general, by matching: what has to stand for the variables of the one so that it
-- is the other. The Definition of Standard ML (Revised), section 4.5.
use Rattle.std.specs.Prelude.{◌≡◌, ℕ, ◌<◌, Option, Some, None, Bool, true, false, ◌&&◌, cond, eqb}
use Rattle.std.specs.Option.{is_some}
use Rattle.semantic_objects.specs.Symbols.{same_symbol}
use Rattle.semantic_objects.specs.Trees.{Tree, Trees, TypeScheme, frees}
use Rattle.unification.specs.Types.{Marks, State, equality_of, where_parts}
use Rattle.unification.specs.Instances.{mark_of}

-- whether two trees are one
abbrev mutual
  pub same_tree : Tree → Tree → Bool
  same_tree (Tree.Bound i) (Tree.Bound j) = eqb i j
  same_tree (Tree.Bound i) (Tree.Free m) = false
  same_tree (Tree.Bound i) (Tree.Made d us) = false
  same_tree (Tree.Free n) (Tree.Bound j) = false
  same_tree (Tree.Free n) (Tree.Free m) = eqb n m
  same_tree (Tree.Free n) (Tree.Made d us) = false
  same_tree (Tree.Made c ts) (Tree.Bound j) = false
  same_tree (Tree.Made c ts) (Tree.Free m) = false
  same_tree (Tree.Made c ts) (Tree.Made d us) = same_symbol c d && same_trees ts us

  pub same_trees : Trees → Trees → Bool
  same_trees Trees.Nil Trees.Nil = true
  same_trees Trees.Nil (Trees.Cons u us) = false
  same_trees (Trees.Cons t ts) Trees.Nil = false
  same_trees (Trees.Cons t ts) (Trees.Cons u us) = same_tree t u && same_trees ts us

-- whether a tree is an equality type, with marks for the variables of a scheme and for those of a table
abbrev mutual
  pub tree_admits : Marks → Marks → Tree → Bool
  tree_admits b f (Tree.Bound i) = b i
  tree_admits b f (Tree.Free n) = f n
  tree_admits b f (Tree.Made c ts) = where_parts (equality_of c) (trees_admit b f ts)

  pub trees_admit : Marks → Marks → Trees → Bool
  trees_admit b f Trees.Nil = true
  trees_admit b f (Trees.Cons t ts) = tree_admits b f t && trees_admit b f ts

-- what was found to stand for the variables of a scheme
abbrev pub Found : Type 0
Found = ℕ → Option Tree

abbrev pub nothing_found : Found
nothing_found i = None

abbrev pub with_found : ℕ → Tree → Found → Found
with_found i t f j = cond (eqb i j) (Some t) (f j)

-- a variable of the scheme against a tree that it may stand for or not, with what was found for it before
abbrev pub match_variable : Bool → ℕ → Tree → Found → Option Tree → Option Found
match_variable false i t f before = None
match_variable true i t f None = Some (with_found i t f)
match_variable true i t f (Some u) = cond (same_tree u t) (Some f) None

abbrev pub match_then : Option Found → (Found → Option Found) → Option Found
match_then None k = None
match_then (Some f) k = k f

-- what has to stand for the variables of the first tree so that it is the second, after what was found before; `may`
-- says what may stand for a variable
abbrev mutual
  pub match_tree : (ℕ → Tree → Bool) → Tree → Tree → Found → Option Found
  match_tree may (Tree.Bound i) u f = match_variable (may i u) i u f (f i)
  match_tree may (Tree.Free n) (Tree.Bound j) f = None
  match_tree may (Tree.Free n) (Tree.Free m) f = cond (eqb n m) (Some f) None
  match_tree may (Tree.Free n) (Tree.Made d us) f = None
  match_tree may (Tree.Made c ts) (Tree.Bound j) f = None
  match_tree may (Tree.Made c ts) (Tree.Free m) f = None
  match_tree may (Tree.Made c ts) (Tree.Made d us) f = cond (same_symbol c d) (match_trees may ts us f) None

  pub match_trees : (ℕ → Tree → Bool) → Trees → Trees → Found → Option Found
  match_trees may Trees.Nil Trees.Nil f = Some f
  match_trees may Trees.Nil (Trees.Cons u us) f = None
  match_trees may (Trees.Cons t ts) Trees.Nil f = None
  match_trees may (Trees.Cons t ts) (Trees.Cons u us) f = match_then (match_tree may t u f) (match_trees may ts us)

-- an equality variable of the more general scheme may stand for equality types alone
abbrev pub may_stand : State → TypeScheme → TypeScheme → ℕ → Tree → Bool
may_stand s g h i t = cond (mark_of g.marks i) (tree_admits (mark_of h.marks) s.marks t) true

-- whether the first scheme is at least as general as the second, both with everything put in
abbrev pub covers : State → TypeScheme → TypeScheme → Bool
covers s g h = is_some (match_tree (may_stand s g h) g.body h.body nothing_found)

-- the variables of a table that stand in a tree are those that a state has
abbrev pub IsOf : State → Tree → Type 0
IsOf s t = (n : ℕ) → frees n t ≡ true → n < s.next

-- a state marks no variable that it doesn't have
abbrev pub MarksOwn : State → Type 0
MarksOwn s = (n : ℕ) → s.marks n ≡ true → n < s.next
