-- What the search for strongly connected components keeps true. Only private functions cite this file.
-- Units are held in the order in which they were met, until the component that they are in is whole.
use Rattle.std.specs.Prelude.{◌≡◌, ℕ, suc, ◌+◌, ◌<◌, ◌≤◌, Bool, List, [], ◌∷◌, length, slice_index_or, reverse, sum, count_by, Contains, MatchBool, ◌⊎◌}
use Rattle.dependency_graph.specs.Order.{providers, Walk}
use Rattle.dependency_graph.specs.Cycle.{IsOnCycle}
use Rattle.dependency_graph.specs.Search.{is_new, mark_of}
use Rattle.dependency_graph.specs.OnCycles.{flag_of}
use Rattle.dependency_graph.specs.declared.ranks.Mark.{Mark}
use Rattle.dependency_graph.specs.declared.ranks.Mark.TheVariants.{New, Open, Done}

-- the state of the search: for each unit its mark, its place among the held, how many of its providers are left,
-- and whether it lies on a cycle; the held units; the places of the units on the way, and those of the first
-- units of the groups, both with the last first
pub record Hold : Type 0 where
  pub marks : List Mark
  pub places : List ℕ
  pub left : List ℕ
  pub flags : List Bool
  pub held : List ℕ
  pub path : List ℕ
  pub starts : List ℕ

-- a number of a list, for a unit or a place
abbrev pub at_place : List ℕ → ℕ → ℕ
at_place list place = slice_index_or list place 0

-- the group of the first place doesn't stand after that of the second
abbrev pub IsInOrder : List ℕ → ℕ → ℕ → Type 0
IsInOrder starts a b = (start : ℕ) → Contains starts start → start ≤ a → start ≤ b

-- each number is above those after it
abbrev pub IsFalling : List ℕ → Type 0
IsFalling [] = Unit {0}
IsFalling (x ∷ xs) = ((y : ℕ) → Contains xs y → y < x) × IsFalling xs

-- an edge that was gone over leads to a unit that is done, or to a held one of no earlier group
abbrev pub LeadsOn : Hold → ℕ → ℕ → Type 0
LeadsOn s place unit =
    (mark_of s.marks unit ≡ Done)
    ⊎ ((other : ℕ) × (other < length s.held) × (at_place s.held other ≡ unit) × IsInOrder s.starts place other)

-- the held units lead to each other group by group, and what is done is right
pub record IsHeld (edges : List (List ℕ)) (s : Hold) : Type 0 where
  pub marked : length s.marks ≡ length edges
  pub placed : length s.places ≡ length edges
  pub lefts : length s.left ≡ length edges
  pub flagged : length s.flags ≡ length edges
  pub opened : (place : ℕ) → place < length s.held →
      (mark_of s.marks (at_place s.held place) ≡ Open) × (at_place s.places (at_place s.held place) ≡ place)
  pub open_at : (unit : ℕ) → mark_of s.marks unit ≡ Open →
      (at_place s.places unit < length s.held) × (at_place s.held (at_place s.places unit) ≡ unit)
  pub fresh : (unit : ℕ) → mark_of s.marks unit ≡ New → unit < length edges →
      at_place s.left unit ≡ length (providers edges unit)
  pub few : (unit : ℕ) → unit < length edges → at_place s.left unit ≤ length (providers edges unit)
  pub path_falls : IsFalling s.path
  pub starts_fall : IsFalling s.starts
  pub starts_on : (place : ℕ) → Contains s.starts place → Contains s.path place
  pub path_held : (place : ℕ) → Contains s.path place → place < length s.held
  pub bottom : 0 < length s.held → Contains s.starts 0
  pub rest : (place : ℕ) → place < length s.held →
      Contains s.path place ⊎ (at_place s.left (at_place s.held place) ≡ 0)
  pub reach : (a b : ℕ) → a < length s.held → b < length s.held → IsInOrder s.starts a b →
      (steps : ℕ) × Walk edges steps (at_place s.held a) (at_place s.held b)
  pub edge : (place k : ℕ) → place < length s.held →
      k + at_place s.left (at_place s.held place) < length (providers edges (at_place s.held place)) →
      LeadsOn s place (at_place (providers edges (at_place s.held place)) k)
  pub closed : (unit provider : ℕ) → mark_of s.marks unit ≡ Done → Contains (providers edges unit) provider →
      mark_of s.marks provider ≡ Done
  pub right : (unit : ℕ) → mark_of s.marks unit ≡ Done →
      MatchBool (flag_of s.flags unit) (IsOnCycle edges unit) (IsOnCycle edges unit → ⊥)

-- the units held from a place on are done and got this flag, and all else stays
pub record IsClosed (held : List ℕ) (from : ℕ) (flag : Bool) (old new : List Mark) (flags_old flags_new : List Bool) :
    Type 0 where
  pub marked : length new ≡ length old
  pub flagged : length flags_new ≡ length flags_old
  pub within : (place : ℕ) → from ≤ place → place < length held →
      (mark_of new (at_place held place) ≡ Done) × (flag_of flags_new (at_place held place) ≡ flag)
  pub others : (unit : ℕ) →
      ((place : ℕ) × (from ≤ place) × (place < length held) × (at_place held place ≡ unit))
      ⊎ ((mark_of new unit ≡ mark_of old unit) × (flag_of flags_new unit ≡ flag_of flags_old unit))

-- the last group has more than one unit, or its one unit is its own provider
abbrev pub IsLooped : List (List ℕ) → List ℕ → ℕ → Bool → Type 0
IsLooped edges held top looped =
    MatchBool looped
    ((suc top < length held) ⊎ Contains (providers edges (at_place held top)) (at_place held top))
    ((length held ≡ suc top) × (Contains (providers edges (at_place held top)) (at_place held top) → ⊥))

-- the state of these lists; the two ways are kept with the last at the end
abbrev pub hold_of : List Mark → List ℕ → List ℕ → List Bool → List ℕ → List ℕ → List ℕ → Hold
hold_of marks places left flags held path starts = record {
  marks = marks;
  places = places;
  left = left;
  flags = flags;
  held = held;
  path = reverse path;
  starts = reverse starts;
}

-- the units of a list are done and got this flag, and all else stays
pub record AreMarked (list : List ℕ) (flag : Bool) (old new : List Mark) (flags_old flags_new : List Bool) : Type 0
  where
    pub marked : length new ≡ length old
    pub flagged : length flags_new ≡ length flags_old
    pub within : (unit : ℕ) → Contains list unit → (mark_of new unit ≡ Done) × (flag_of flags_new unit ≡ flag)
    pub others : (unit : ℕ) →
        Contains list unit ⊎ ((mark_of new unit ≡ mark_of old unit) × (flag_of flags_new unit ≡ flag_of flags_old unit))

-- the starts that aren't above a place are left
pub record AreCut (old new : List ℕ) (back : ℕ) : Type 0 where
  pub falls : IsFalling new
  pub some : (start : ℕ) → Contains new start → Contains old start
  pub keep : (start : ℕ) → Contains old start → start ≤ back → Contains new start

-- how many steps the search has left
abbrev pub steps_to_go : List ℕ → List Mark → List ℕ → ℕ
steps_to_go left marks path = sum left + count_by is_new marks + length path
