-- A table of types as contracts see it: what stands for its variables is a fold of its trail.
-- The Definition of Standard ML (Revised), sections 4.2 and 4.5.
use Rattle.std.specs.Prelude.{◌≡◌, ℕ, ◌+◌, ◌<◌, List, [], ◌∷◌, ◌++◌, length, take, Option, Some, None, cond, eqb}
use Rattle.semantic_objects.specs.declared.name.TyId.{TyId}
use Rattle.semantic_objects.specs.declared.name.TyId.TheVariants as id
use Rattle.unification.specs.Types.{Ty, Types, State, put, put_all, marked}
use Rattle.unification.specs.Unification.{bind}
use Rattle.type_nodes.specs.declared.node.Birth.{Birth}
use Rattle.type_nodes.specs.declared.node.Node.{Node}
use Rattle.type_nodes.specs.Nodes.{Store, IsIdOf, type_in, type_at, types_at, made, born, rigid_in}
use Rattle.type_nodes.specs.declared.entry.Entry.{Entry}
use Rattle.type_nodes.specs.declared.entry.Entry.TheVariants as entry

-- the variables in the order of their making, the nodes, and what happened to variables since, in its order
pub record Table : Type 0 where
  pub births : List Birth
  pub nodes : List Node
  pub trail : List Entry

abbrev pub store_of : Table → Store
store_of t = record { births = t.births; nodes = t.nodes }

-- an id of the table
abbrev pub Has : Table → TyId → Type 0
Has t a = IsIdOf (length t.births) (length t.nodes) a

-- the type at an id as it was made
abbrev pub type_of : Table → TyId → Ty
type_of t a = type_at (store_of t) a

abbrev pub types_of : Table → List TyId → Types
types_of t ids = types_at (store_of t) ids

-- a type is put in everywhere for a variable
abbrev pub bound_in : ℕ → Ty → State → State
bound_in v u s = record { next = s.next; stands = bind v u s.stands; marks = s.marks; rigid = s.rigid }

-- a variable becomes an equality variable
abbrev pub marked_state : ℕ → State → State
marked_state v s = record { next = s.next; stands = s.stands; marks = marked v s.marks; rigid = s.rigid }

-- the state after an entry of the trail, where these are the types of the nodes
abbrev pub after_entry : List Ty → State → Entry → State
after_entry made s (entry.Bound v a) = bound_in v (put s.stands (type_in made a)) s
after_entry made s (entry.Marked v) = marked_state v s

abbrev pub after_entries : List Ty → State → List Entry → State
after_entries made s [] = s
after_entries made s (e ∷ es) = after_entries made (after_entry made s e) es

-- what stands for the variables, and which are marked
abbrev pub state : Table → State
state t = after_entries (made t.nodes) (born t.births) t.trail

-- the type that an id stands for
abbrev pub whole : Table → TyId → Ty
whole t a = put (state t).stands (type_of t a)

abbrev pub whole_all : Table → List TyId → Types
whole_all t ids = put_all (state t).stands (types_of t ids)

-- the id that a variable got
abbrev pub link_after : ℕ → Option TyId → List Entry → Option TyId
link_after v o [] = o
link_after v o (entry.Bound w a ∷ es) = link_after v (cond (eqb w v) (Some a) o) es
link_after v o (entry.Marked w ∷ es) = link_after v o es

abbrev pub link : Table → ℕ → Option TyId
link t v = link_after v None t.trail

-- variables that aren't rigid come to older ones, to rigid ones or to nodes
abbrev pub rank : Table → TyId → ℕ
rank t (id.Variable v) = cond (rigid_in t.births v) 0 (v + 1)
rank t (id.Made i) = 0

-- a variable stands for what an id stands for
pub record LinkedTo (t : Table) (v : ℕ) (a : TyId) : Type 0 where
  pub whole : (state t).stands v ≡ whole t a
  pub has : Has t a
  pub falls : rank t a < rank t (id.Variable v)

-- what is linked to a variable, if anything is
abbrev pub LinkOf : Table → ℕ → Option TyId → Type 0
LinkOf t v None = (link t v ≡ None) × ((state t).stands v ≡ Ty.Var v)
LinkOf t v (Some a) = LinkedTo t v a

-- an id that comes to nothing else: a node, or a variable for which nothing stands
abbrev pub IsHead : Table → TyId → Type 0
IsHead t (id.Variable v) = link t v ≡ None
IsHead t (id.Made i) = Unit {0}

abbrev pub IsEnd : Table → TyId → Type 0
IsEnd t (id.Variable v) = (link t v ≡ None) × (whole t (id.Variable v) ≡ Ty.Var v)
IsEnd t (id.Made i) = Unit {0}

-- a variable, a node, an entry more
abbrev pub with_variable_of : Birth → Table → Table
with_variable_of b t = record { births = t.births ++ b ∷ []; nodes = t.nodes; trail = t.trail }

abbrev pub with_node_of : Node → Table → Table
with_node_of x t = record { births = t.births; nodes = t.nodes ++ x ∷ []; trail = t.trail }

abbrev pub with_entry : Entry → Table → Table
with_entry e t = record { births = t.births; nodes = t.nodes; trail = t.trail ++ e ∷ [] }

-- the table when its trail had so many entries
abbrev pub cut : ℕ → Table → Table
cut n t = record { births = t.births; nodes = t.nodes; trail = take n t.trail }

-- nothing of the first table was taken back since
pub record IsFrontOf (past now : Table) : Type 0 where
  pub births : take (length past.births) now.births ≡ past.births
  pub nodes : take (length past.nodes) now.nodes ≡ past.nodes
  pub trail : take (length past.trail) now.trail ≡ past.trail
