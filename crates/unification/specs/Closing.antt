-- Closing a type over some of its variables, and which variables are kept.
-- The Definition of Standard ML (Revised), sections 4.7 and 4.8.
use Rattle.std.specs.Prelude.{ℕ, zero, suc, ltb, List, [], ◌∷◌, ◌++◌, map, Bool, false, ◌||◌, cond, eqb}
use Rattle.semantic_objects.specs.Trees.{Tree, Trees, TypeScheme}
use Rattle.unification.specs.Types.{Ty, Types, Substitution, Marks, occurs}
use Rattle.unification.specs.Instances.{mark_of}

abbrev pub is_among : ℕ → List ℕ → Bool
is_among v [] = false
is_among v (w ∷ ws) = eqb v w || is_among v ws

-- the place at which a variable first stands in a list
abbrev pub place_of : ℕ → List ℕ → ℕ
place_of v [] = zero
place_of v (w ∷ ws) = cond (eqb v w) zero (suc (place_of v ws))

-- a variable that was met: it is added where it isn't kept and wasn't met before
abbrev pub noticed : Bool → ℕ → List ℕ → List ℕ
noticed kept v vs = cond (kept || is_among v vs) vs (vs ++ v ∷ [])

-- the variables of a type that aren't kept, by first occurrence, after those found before
abbrev mutual
  pub found_in : (ℕ → Bool) → Ty → List ℕ → List ℕ
  found_in kept (Ty.Var n) vs = noticed (kept n) n vs
  found_in kept (Ty.Made c ts) vs = found_in_all kept ts vs

  pub found_in_all : (ℕ → Bool) → Types → List ℕ → List ℕ
  found_in_all kept Types.Nil vs = vs
  found_in_all kept (Types.Cons t ts) vs = found_in_all kept ts (found_in kept t vs)

-- a type as a tree in which these variables are those of a scheme, by their places
abbrev mutual
  pub closed_over : List ℕ → Ty → Tree
  closed_over vs (Ty.Var n) = cond (is_among n vs) (Tree.Bound (place_of n vs)) (Tree.Free n)
  closed_over vs (Ty.Made c ts) = Tree.Made c (closed_over_all vs ts)

  pub closed_over_all : List ℕ → Types → Trees
  closed_over_all vs Types.Nil = Trees.Nil
  closed_over_all vs (Types.Cons t ts) = Trees.Cons (closed_over vs t) (closed_over_all vs ts)

-- the scheme that closes a type over these variables, each with its mark
abbrev pub scheme_over : List ℕ → Marks → Ty → TypeScheme
scheme_over vs q t = record { marks = map q vs; body = closed_over vs t }

-- what fills a type that was closed over variables: `b` by their places, `f` for all others
abbrev pub filler : List ℕ → Substitution → Substitution → Substitution
filler vs b f n = cond (is_among n vs) (b (place_of n vs)) (f n)

-- whether a variable stands in what stands for one of the first `n` variables
abbrev pub held_below : ℕ → Substitution → ℕ → Bool
held_below zero s v = false
held_below (suc n) s v = occurs v (s n) || held_below n s v

-- a variable that isn't closed over by a declaration that began when there were `n` variables: it is older, or stands
-- in what an older one stands for
abbrev pub kept_since : ℕ → Substitution → ℕ → Bool
kept_since n s v = ltb v n || held_below n s v

-- the variables of a scheme in a tree by first occurrence, after those found before
abbrev mutual
  pub bound_in : Tree → List ℕ → List ℕ
  bound_in (Tree.Bound i) vs = noticed false i vs
  bound_in (Tree.Free n) vs = vs
  bound_in (Tree.Made c ts) vs = bound_in_all ts vs

  pub bound_in_all : Trees → List ℕ → List ℕ
  bound_in_all Trees.Nil vs = vs
  bound_in_all (Trees.Cons t ts) vs = bound_in_all ts (bound_in t vs)

-- trees for the variables of a scheme
abbrev mutual
  pub plug : (ℕ → Tree) → Tree → Tree
  plug θ (Tree.Bound i) = θ i
  plug θ (Tree.Free n) = Tree.Free n
  plug θ (Tree.Made c ts) = Tree.Made c (plug_all θ ts)

  pub plug_all : (ℕ → Tree) → Trees → Trees
  plug_all θ Trees.Nil = Trees.Nil
  plug_all θ (Trees.Cons t ts) = Trees.Cons (plug θ t) (plug_all θ ts)

-- a scheme with these of its variables, in this order
abbrev pub renumbered : List ℕ → TypeScheme → TypeScheme
renumbered vs σ = record { marks = map (mark_of σ.marks) vs; body = plug (λ i. Tree.Bound (place_of i vs)) σ.body }

-- the one form of a scheme: its variables numbered by first occurrence, each with its mark, and those that don't occur
-- gone
abbrev pub canonical_scheme : TypeScheme → TypeScheme
canonical_scheme σ = renumbered (bound_in σ.body []) σ

-- what stands for the variables of a table, put into a tree
abbrev mutual
  pub put_tree : Substitution → Tree → Tree
  put_tree s (Tree.Bound i) = Tree.Bound i
  put_tree s (Tree.Free n) = closed_over [] (s n)
  put_tree s (Tree.Made c ts) = Tree.Made c (put_trees s ts)

  pub put_trees : Substitution → Trees → Trees
  put_trees s Trees.Nil = Trees.Nil
  put_trees s (Trees.Cons t ts) = Trees.Cons (put_tree s t) (put_trees s ts)
