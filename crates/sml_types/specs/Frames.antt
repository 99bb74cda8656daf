-- Going through types with what stands for their variables, node by node. Only private functions cite this file.
use Rattle.std.specs.Prelude.{◌≡◌, ℕ, ◌+◌, ◌*◌, ◌<◌, ◌≤◌, List, [], ◌∷◌, length, get_or, drop, slice_get, Option, Some, None, false, ◌⊎◌}
use Rattle.semantic_objects.specs.declared.name.TyId.{TyId}
use Rattle.semantic_objects.specs.declared.name.TyId.TheVariants as id
use Rattle.semantic_objects.specs.declared.symbol.Symbol.{Symbol}
use Rattle.semantic_objects.specs.declared.symbol.Symbol.TheVariants as symbol
use Rattle.unification.specs.Types.{Ty, Types, Substitution, put, put_all, size_all}
use Rattle.type_nodes.specs.declared.node.Node.{Node}
use Rattle.type_nodes.specs.Nodes.{type_in, types_in, made, rigid_in}
use Rattle.type_nodes.specs.Tables.{Table, Has, state, whole}
use Rattle.sml_types.specs.declared.frame.Frame.{Frame}

-- nodes, and what stands for variables
pub record Standing : Type 0 where
  pub nodes : List Node
  pub stands : Substitution

abbrev pub seen : Table → Standing
seen t = record { nodes = t.nodes; stands = (state t).stands }

-- the type that an id stands for
abbrev pub stood : Standing → TyId → Ty
stood s a = put s.stands (type_in (made s.nodes) a)

abbrev pub stood_all : Standing → List TyId → Types
stood_all s ids = put_all s.stands (types_in (made s.nodes) ids)

-- the parts of a node
abbrev pub parts_at : Standing → ℕ → List TyId
parts_at s i = (get_or s.nodes i (record { symbol = symbol.Arrow; parts = [] })).parts

abbrev pub symbol_at : Standing → ℕ → Symbol
symbol_at s i = (get_or s.nodes i (record { symbol = symbol.Arrow; parts = [] })).symbol

-- the parts that are left of a frame
abbrev pub left : Standing → Frame → Types
left s f = stood_all s (drop f.next (parts_at s f.node))

abbrev pub after : Frame → Frame
after f = record { node = f.node; next = f.next + 1 }

-- the next part of a frame
pub record NextPart (t : Table) (f : Frame) (a : TyId) : Type 0 where
  pub has : Has t a
  pub at : slice_get (parts_at (seen t) f.node) f.next ≡ Some a
  pub left : left (seen t) f ≡ Types.Cons (whole t a) (left (seen t) (after f))

pub record NoPart (s : Standing) (f : Frame) : Type 0 where
  pub left : left s f ≡ Types.Nil
  pub ended : length (parts_at s f.node) ≤ f.next

abbrev pub IsNextPart : Table → Frame → Option TyId → Type 0
IsNextPart t f (Some a) = NextPart t f a
IsNextPart t f None = NoPart (seen t) f

-- a bound on the steps that are left
abbrev pub steps_left : Standing → List Frame → ℕ
steps_left s [] = 0
steps_left s (f ∷ fs) = steps_left s fs + (2 * size_all (left s f) + 1)

-- a node with such a symbol, of which the parts before the next one are as they should be, or such an exception
pub record IsFrame (K : Symbol → Type 0) (A E : Ty → Type 0) (s : Standing) (f : Frame) : Type 0 where
  pub within : f.node < length s.nodes
  pub kind : K (symbol_at s f.node)
  pub passed : (k : ℕ) (a : TyId) → k < f.next → slice_get (parts_at s f.node) k ≡ Some a → A (stood s a) ⊎ E (stood s a)

-- of a frame with others above it the part that they go through is the exception
abbrev pub exception : (Ty → Type 0) → Standing → List Frame → Ty → Type 0
exception E s [] x = E x
exception E s (f ∷ fs) x = x ≡ stood s (id.Made f.node)

-- what is open, the last one last
abbrev pub AreFrames : (Symbol → Type 0) → (Ty → Type 0) → (Ty → Type 0) → Standing → List Frame → Type 0
AreFrames K A E s [] = Unit {0}
AreFrames K A E s (f ∷ fs) = IsFrame K A (exception E s fs) s f × AreFrames K A E s fs

abbrev pub any_symbol : Symbol → Type 0
any_symbol c = Unit {0}

abbrev pub nothing : Ty → Type 0
nothing x = ⊥

-- a variable of the table that isn't rigid
pub record IsFlexible (t : Table) (v : ℕ) : Type 0 where
  pub within : v < length t.births
  pub flexible : rigid_in t.births v ≡ false
