-- What the search for distances keeps true: lists of users, and distances level by level.
-- Only private functions cite this file.
use Rattle.std.specs.Prelude.{◌≡◌, ◌≢◌, ℕ, ◌+◌, ◌<◌, ◌≤◌, Bool, true, false, List, [], ◌∷◌, ◌++◌, length, slice_index_or, Contains, Option, Some, None, is_none, count_by, ◌⊎◌}
use Rattle.std.specs.Ordering.{ordering_then, nat_cmp, is_gt, is_lt}
use Rattle.std.specs.Cmp.Lexicographic.{slice_cmp}
use Rattle.std.specs.declared.cmp.Ordering.{Ordering}
use Rattle.dependency_graph.specs.Order.{providers, name_of, Walk}
use Rattle.dependency_graph.specs.Cycle.{IsNearest, IsWayBack}

-- for the first units, the list of each unit has those of which it is a provider
pub record AreUsers (edges users : List (List ℕ)) (count : ℕ) : Type 0 where
  pub counted : length users ≡ length edges
  pub back : (unit user : ℕ) → Contains (providers users unit) user → Contains (providers edges user) unit
  pub all : (unit user : ℕ) → user < count → Contains (providers edges user) unit →
      Contains (providers users unit) user

-- the unit was added as a user of each unit of a list
pub record AddsUser (old new : List (List ℕ)) (list : List ℕ) (user : ℕ) : Type 0 where
  pub counted : length new ≡ length old
  pub kept : (unit other : ℕ) → Contains (providers old unit) other → Contains (providers new unit) other
  pub made : (unit : ℕ) → Contains list unit → Contains (providers new unit) user
  pub only : (unit other : ℕ) → Contains (providers new unit) other →
      Contains (providers old unit) other ⊎ ((other ≡ user) × Contains list unit)

-- the distance that is noted for a unit
abbrev pub distance_of : List (Option ℕ) → ℕ → Option ℕ
distance_of distances unit = slice_index_or distances unit None

-- the units of some kind that had no distance got this one, and were put into a list
pub record Spreads (kind : ℕ → Type 0) (steps : ℕ) (old new : List (Option ℕ)) (before after : List ℕ) : Type 0 where
  pub counted : length new ≡ length old
  pub kept : (unit distance : ℕ) → distance_of old unit ≡ Some distance → distance_of new unit ≡ Some distance
  pub fresh : (unit distance : ℕ) → distance_of new unit ≡ Some distance →
      (distance_of old unit ≡ Some distance) ⊎ ((distance ≡ steps) × kind unit × Contains after unit)
  pub met : (unit : ℕ) → kind unit → (distance : ℕ) × (distance_of new unit ≡ Some distance)
  pub queued : (unit : ℕ) → Contains before unit → Contains after unit
  pub marked : (unit : ℕ) → Contains after unit → Contains before unit ⊎ (distance_of new unit ≡ Some steps)
  pub fewer : count_by is_none new + length after ≡ count_by is_none old + length before

-- a unit that is a provider's user, for some provider of a list
abbrev pub IsUserOf : List (List ℕ) → List ℕ → ℕ → Type 0
IsUserOf users now user = (unit : ℕ) × Contains now unit × Contains (providers users unit) user

-- the distances to the goal are noted up to so many steps, and the list has the units that far away
pub record IsLevel (edges : List (List ℕ)) (goal steps : ℕ) (distances : List (Option ℕ)) (now : List ℕ) : Type 0 where
  pub counted : length distances ≡ length edges
  pub way : (unit distance : ℕ) → distance_of distances unit ≡ Some distance → Walk edges distance unit goal
  pub upto : (unit distance : ℕ) → distance_of distances unit ≡ Some distance → distance ≤ steps
  pub near : (unit walk : ℕ) → walk ≤ steps → Walk edges walk unit goal →
      (distance : ℕ) × (distance_of distances unit ≡ Some distance) × (distance ≤ walk)
  pub front : (unit : ℕ) → distance_of distances unit ≡ Some steps → Contains now unit
  pub level : (unit : ℕ) → Contains now unit → distance_of distances unit ≡ Some steps

-- the noted distances are those of the shortest walks to the goal
pub record AreDistances (edges : List (List ℕ)) (goal : ℕ) (distances : List (Option ℕ)) : Type 0 where
  pub counted : length distances ≡ length edges
  pub way : (unit distance : ℕ) → distance_of distances unit ≡ Some distance → Walk edges distance unit goal
  pub near : (unit walk : ℕ) → Walk edges walk unit goal →
      (distance : ℕ) × (distance_of distances unit ≡ Some distance) × (distance ≤ walk)

-- two units by distance and then by name
abbrev pub key_cmp : ℕ × List ℕ → ℕ × List ℕ → Ordering
key_cmp a b = ordering_then (nat_cmp a.0 b.0) (slice_cmp nat_cmp a.1 b.1)

-- of a list's units with a distance the one that comes first by distance and name
pub record IsFirst (names : List (List ℕ)) (distances : List (Option ℕ)) (list : List ℕ) (unit : ℕ) : Type 0 where
  pub among : Contains list unit
  pub distance : ℕ
  pub noted : distance_of distances unit ≡ Some distance
  pub first : (other far : ℕ) → Contains list other → distance_of distances other ≡ Some far →
      is_gt (key_cmp (distance, name_of names unit) (far, name_of names other)) ≡ false

-- the first unit of a list, or none of it has a distance
abbrev pub IsBest : List (List ℕ) → List (Option ℕ) → List ℕ → Option ℕ → Type 0
IsBest names distances list None = (unit : ℕ) → Contains list unit → distance_of distances unit ≡ None
IsBest names distances list (Some unit) = IsFirst names distances list unit

-- a unit and its way back to itself
abbrev pub IsLoop : List (List ℕ) → List (List ℕ) → ℕ → List ℕ → Type 0
IsLoop names edges goal [] = ⊥
IsLoop names edges goal (unit ∷ rest) = (unit ≡ goal) × IsWayBack names edges goal goal rest

-- the test for the nearer of two units by their distances, and by the order of their names
abbrev pub nearer_by : Option ℕ → Option ℕ → Ordering → Bool
nearer_by None far named = false
nearer_by (Some near) None named = true
nearer_by (Some near) (Some far) named = is_lt (ordering_then (nat_cmp near far) named)

-- the first unit is nearer, or as near and its name stands before the other's
abbrev pub is_nearer : List (List ℕ) → List (Option ℕ) → ℕ → ℕ → Bool
is_nearer names distances unit other =
    nearer_by (distance_of distances unit) (distance_of distances other)
    (slice_cmp nat_cmp (name_of names unit) (name_of names other))

-- the way from the goal so far, and the unit that it goes to next
pub record IsGoing (names edges : List (List ℕ)) (goal : ℕ) (cycle : List ℕ) (next : ℕ) : Type 0 where
  pub back : (rest : List ℕ) → next ≢ goal → IsWayBack names edges goal next rest →
      IsLoop names edges goal (cycle ++ next ∷ rest)
  pub closed : next ≡ goal → IsLoop names edges goal cycle
  pub from : (unit : ℕ) × IsNearest names edges goal unit next
