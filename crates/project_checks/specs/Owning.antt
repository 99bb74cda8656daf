-- What is known of the owners of groups while they are passed down: for each group whether it has none, one, or several
-- that differ, of those that hold it among the groups that are done.
use Rattle.std.specs.Prelude.{◌≡◌, ◌≢◌, ℕ, ◌==◌, ◌<◌, Bool, true, false, nat_eq, List, length, [], All, Contains, slice_get, slice_index_or, slice_set, if◌then◌else◌}
use Rattle.std.specs.List.{list_any}
use Rattle.std.specs.Option.{option_map_or}
use Rattle.cm_description.specs.WellFormed.{StandsAt}
use Rattle.cm_description.specs.declared.loaded.Group.{Group}
use Rattle.project_checks.specs.Owners.{owners_of, owns_itself}
use Rattle.project_checks.specs.declared.owners.Owned.{Owned}
use Rattle.project_checks.specs.declared.owners.Owned.TheVariants as owned

-- the owners of both
abbrev pub joined : Owned → Owned → Owned
joined owned.Nobody other = other
joined (owned.One owner) owned.Nobody = owned.One owner
joined (owned.One owner) (owned.One other) = if owner == other then owned.One owner else owned.Several
joined (owned.One owner) owned.Several = owned.Several
joined owned.Several other = owned.Several

abbrev pub is_several : Owned → Bool
is_several owned.Several = true
is_several _ = false

-- these are the owners of which this holds
abbrev pub Sums : Owned → (ℕ → Type 0) → Type 0
Sums owned.Nobody IsOwner = (owner : ℕ) → IsOwner owner → ⊥
Sums (owned.One one) IsOwner = IsOwner one × ((owner : ℕ) → IsOwner owner → owner ≡ one)
Sums owned.Several IsOwner = (one other : ℕ) × IsOwner one × IsOwner other × (one ≢ other)

abbrev pub owned_at : List Owned → ℕ → Owned
owned_at owners number = slice_index_or owners number owned.Nobody

-- these members have these owners too, and what is known of the others stays
pub record Joins (members : List ℕ) (known : Owned) (old new : List Owned) : Type 0 where
  pub each : length new ≡ length old
  pub met : (number : ℕ) → number < length old → owned_at new number
      ≡ (if list_any (nat_eq number) members then joined (owned_at old number) known else owned_at old number)

-- the members of groups are groups
abbrev pub AreWithin : List Group → Type 0
AreWithin groups = All (λ group. All (λ member. member < length groups) group.members) groups

-- the members of a group
abbrev pub members_at : List Group → ℕ → List ℕ
members_at groups number = option_map_or (λ group. group.members) (slice_get groups number) []

-- what a group has, when it is its turn: itself, or what was passed down to it
abbrev pub own_turn : List Group → ℕ → Owned → Owned
own_turn groups number known = if owns_itself groups number then owned.One number else known

-- a group's turn: what it has is known, and its members have it too
abbrev pub PassesDown : List Group → ℕ → List Owned → List Owned → Type 0
PassesDown groups number old new =
    Joins (members_at groups number) (own_turn groups number (owned_at old number))
    (slice_set old number (own_turn groups number (owned_at old number))) new

-- what is known of a group before its turn: its owners by those that hold it and are done
abbrev pub IsHeldBy : List Group → List ℕ → List ℕ → ℕ → ℕ → Type 0
IsHeldBy groups finished done number owner =
    (holder : ℕ) × (group : Group) × Contains done holder × StandsAt groups holder group
    × Contains group.members number × Contains (owners_of groups finished holder) owner

-- So many groups had their turns: what is known of each of them is what its owners are, and of each other group what
-- those among them that hold it passed down.
pub record ArePassed (groups : List Group) (finished done : List ℕ) (owners : List Owned) : Type 0 where
  pub each : length owners ≡ length groups
  pub before : (number : ℕ) → number < length groups → list_any (nat_eq number) done ≡ true
      → Sums (owned_at owners number) (Contains (owners_of groups finished number))
  pub behind : (number : ℕ) → number < length groups → list_any (nat_eq number) done ≡ false
      → Sums (owned_at owners number) (IsHeldBy groups finished done number)

-- what is known of each group is what its owners are
pub record HaveOwners (groups : List Group) (finished : List ℕ) (owners : List Owned) : Type 0 where
  pub each : length owners ≡ length groups
  pub sums : (number : ℕ) → number < length groups
      → Sums (owned_at owners number) (Contains (owners_of groups finished number))

-- a group that is known to have several owners
abbrev pub is_known_shared : List Owned → ℕ → Bool
is_known_shared owners number = is_several (owned_at owners number)
