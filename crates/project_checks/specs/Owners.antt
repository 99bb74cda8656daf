-- The owners of a group: the libraries by which it is reached, and ROOT (CM manual, groups and libraries: what a group
-- shows belongs to the library that holds it, so a group is part of one library only, and a library of any number).
use Rattle.std.specs.Prelude.{◌≡◌, ℕ, zero, suc, ◌+◌, ◌<◌, ◌≤◌, ◌==◌, ◌||◌, Bool, false, not, nat_eq, List, [], ◌∷◌, length, slice_get, Contains, if◌then◌else◌}
use Rattle.std.specs.List.{list_any, flat_map}
use Rattle.std.specs.Option.{option_map_or}
use Rattle.cm_description.specs.WellFormed.{IsWellFormed, StandsAt, AllDiffer}
use Rattle.cm_description.specs.declared.loaded.Group.{Group}
use Rattle.cm_description.specs.declared.loaded.Project.{Project}

-- the numbers of the items that pass, in order, where the first item has this number
abbrev pub numbers_from : {A : Type 0} → (A → Bool) → ℕ → List A → List ℕ
numbers_from passes number [] = []
numbers_from passes number (x ∷ xs) =
    if passes x then number ∷ numbers_from passes (number + 1) xs else numbers_from passes (number + 1) xs

abbrev pub numbers_of : {A : Type 0} → (A → Bool) → List A → List ℕ
numbers_of passes xs = numbers_from passes 0 xs

-- whether the group of a number is a library
abbrev pub is_library : List Group → ℕ → Bool
is_library groups number = option_map_or (λ group. group.library) (slice_get groups number) false

-- ROOT, which is number 0, and each library own themselves
abbrev pub owns_itself : List Group → ℕ → Bool
owns_itself groups number = (number == 0) || is_library groups number

-- the groups that have this one as a member
abbrev pub holders_of : List Group → ℕ → List ℕ
holders_of groups number = numbers_of (λ group. list_any (nat_eq number) group.members) groups

-- the owners of a group, looked for so many groups up
abbrev pub owners_within : List Group → ℕ → ℕ → List ℕ
owners_within groups zero number = []
owners_within groups (suc up) number =
    if owns_itself groups number then number ∷ [] else flat_map (owners_within groups up) (holders_of groups number)

-- .. as far up as groups ended: none is above itself, so there are no others
unfoldable pub owners_of : List Group → List ℕ → ℕ → List ℕ
owners_of groups finished number = owners_within groups (length finished) number

-- Each of ROOT and the libraries owns itself, and any other group has the owners of all groups that have it as a
-- member. To look further up than there are groups changes nothing.
pub record OwnersPassDown (groups : List Group) (finished : List ℕ) : Type 0 where
  pub down : (number : ℕ) → number < length groups → owners_of groups finished number
      ≡ (if owns_itself groups number then number ∷ []
      else flat_map (owners_of groups finished) (holders_of groups number))
  pub further : (up number : ℕ) → number < length groups → length finished ≤ up
      → owners_within groups up number ≡ owners_of groups finished number

abbrev pub OwnersAreThoseAbove : Type 0
OwnersAreThoseAbove = (p : Project) → IsWellFormed p → OwnersPassDown p.groups p.finished

-- all groups ended, each once, and each after its members
pub record AreOrdered (groups : List Group) (finished : List ℕ) : Type 0 where
  pub all : (number : ℕ) → number < length groups → Contains finished number
  pub once : AllDiffer finished
  pub members_first : (i number member : ℕ) (group : Group) → StandsAt finished i number
      → StandsAt groups number group → Contains group.members member → (j : ℕ) × (j < i) × StandsAt finished j member

-- two owners that differ
abbrev pub are_several : List ℕ → Bool
are_several [] = false
are_several (owner ∷ owners) = list_any (λ other. not (owner == other)) owners

-- a group that is reached from two owners
abbrev pub is_shared : List Group → List ℕ → ℕ → Bool
is_shared groups finished number = are_several (owners_of groups finished number)

-- the owner of a group that has one
abbrev pub first_owner : List ℕ → ℕ
first_owner [] = 0
first_owner (owner ∷ owners) = owner

abbrev pub owner_of : List Group → List ℕ → ℕ → ℕ
owner_of groups finished number = first_owner (owners_of groups finished number)
