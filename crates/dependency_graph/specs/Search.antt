-- What the search for ranks and the search for distances keep true, step by step.
-- Only private functions cite this file.
use Rattle.std.specs.Prelude.{◌≡◌, ℕ, suc, ◌+◌, ◌*◌, ◌<◌, ◌≤◌, Bool, true, false, List, [], ◌∷◌, length, map, reverse, slice_index_or, All, Contains, count_by}
use Rattle.dependency_graph.specs.Order.{providers, Walk, IsRank}
use Rattle.dependency_graph.specs.Cycle.{HasCycle}
use Rattle.dependency_graph.specs.declared.ranks.Mark.{Mark}
use Rattle.dependency_graph.specs.declared.ranks.Mark.TheVariants.{New, Open, Done}
use Rattle.dependency_graph.specs.declared.ranks.Frame.{Frame}
use Rattle.dependency_graph.specs.declared.ranks.Step.{Step}
use Rattle.dependency_graph.specs.declared.ranks.Step.TheVariants.{Finish, Enter, Close}

-- the mark of a unit
abbrev pub mark_of : List Mark → ℕ → Mark
mark_of marks unit = slice_index_or marks unit New

-- the test for a unit that the search hasn't come to
abbrev pub is_new : Mark → Bool
is_new New = true
is_new Open = false
is_new Done = false

-- the search has gone through the first providers of the frame's unit, and knows the longest chain through them
pub record IsPart (edges : List (List ℕ)) (frame : Frame) : Type 0 where
  pub known : frame.unit < length edges
  pub within : frame.next ≤ length (providers edges frame.unit)
  pub reached : (last : ℕ) × Walk edges frame.rank frame.unit last
  pub longest : (at : ℕ) → at < frame.next → (steps last : ℕ) →
      Walk edges steps (slice_index_or (providers edges frame.unit) at 0) last → suc steps ≤ frame.rank

-- each unit is a provider of the one that follows it
abbrev pub IsPath : List (List ℕ) → List ℕ → Type 0
IsPath edges [] = Unit {0}
IsPath edges (unit ∷ []) = Unit {0}
IsPath edges (unit ∷ user ∷ rest) = Contains (providers edges user) unit × IsPath edges (user ∷ rest)

-- the units of the frames, the top one first
abbrev pub path_of : List Frame → List ℕ
path_of stack = reverse (map (λ frame. frame.unit) stack)

-- the noted rank of each unit that is done is its rank
pub record AreNoted (edges : List (List ℕ)) (marks : List Mark) (ranks : List ℕ) : Type 0 where
  pub marked : length marks ≡ length edges
  pub ranked : length ranks ≡ length edges
  pub right : (unit : ℕ) → mark_of marks unit ≡ Done → IsRank edges unit (slice_index_or ranks unit 0)

-- no unit is open
abbrev pub HasNoneOpen : List Mark → Type 0
HasNoneOpen marks = (unit : ℕ) → mark_of marks unit ≡ Open → ⊥

-- a unit that the search has come to stays one
abbrev pub KeepsMet : List Mark → List Mark → Type 0
KeepsMet old new = (unit : ℕ) → is_new (mark_of old unit) ≡ false → is_new (mark_of new unit) ≡ false

-- what the next step of a frame is
abbrev pub Steps : List (List ℕ) → List Mark → ℕ → Step → Type 0
Steps edges marks unit (Finish rank) = IsRank edges unit rank
Steps edges marks unit (Enter frame provider) =
    IsPart edges frame × (frame.unit ≡ unit) × Contains (providers edges unit) provider × (mark_of marks provider ≡ New)
Steps edges marks unit (Close provider) = Contains (providers edges unit) provider × (mark_of marks provider ≡ Open)

-- what holds between two steps of the search: the frames are the way down to the top one, and what is open is on it
pub record IsVisiting (edges : List (List ℕ)) (marks : List Mark) (ranks : List ℕ) (stack : List Frame) : Type 0 where
  pub noted : AreNoted edges marks ranks
  pub parts : All (IsPart edges) stack
  pub path : IsPath edges (path_of stack)
  pub on : (unit : ℕ) → mark_of marks unit ≡ Open → Contains (path_of stack) unit

-- how many steps the search has left: two for each new unit and one for each frame
abbrev pub steps_left : List Mark → List Frame → ℕ
steps_left marks stack = 2 * count_by is_new marks + length stack

-- the frame of a unit of which no provider is gone through
abbrev pub first_frame : ℕ → Frame
first_frame unit = record { unit = unit; next = 0; rank = 0 }

-- a step closes a cycle, or the search goes on
abbrev pub StepLeaves : List (List ℕ) → List Mark → List ℕ → List Frame → Bool → Type 0
StepLeaves edges marks ranks stack true = HasCycle edges
StepLeaves edges marks ranks stack false = IsVisiting edges marks ranks stack

-- the search below a unit closes a cycle, or leaves no unit open
abbrev pub VisitLeaves : List (List ℕ) → List Mark → List ℕ → Bool → Type 0
VisitLeaves edges marks ranks true = HasCycle edges
VisitLeaves edges marks ranks false = AreNoted edges marks ranks × HasNoneOpen marks

-- the list has the rank of each unit
pub record AreRanks (edges : List (List ℕ)) (ranks : List ℕ) : Type 0 where
  pub counted : length ranks ≡ length edges
  pub right : (unit : ℕ) → unit < length edges → IsRank edges unit (slice_index_or ranks unit 0)
