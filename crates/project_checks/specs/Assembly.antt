-- How groups are put together from what was loaded: a step of the code, beside the definition by filters.
use Rattle.std.specs.Prelude.{◌==◌, ℕ, List, [], ◌∷◌, ◌++◌, map, length, slice_index_or, slice_set}
use Rattle.std.specs.List.{enumerate_from}
use Rattle.cm_description.specs.declared.loaded.Group.{Group}
use Rattle.cm_description.specs.declared.loaded.Unit.{Unit as LoadedUnit}
use Rattle.project_checks.specs.Owners.{numbers_of}
use Rattle.project_checks.specs.Checks.{members_among}
use Rattle.project_checks.specs.declared.owners.Owned.{Owned}
use Rattle.project_checks.specs.declared.owners.Owned.TheVariants as owned
use Rattle.project_checks.specs.declared.progress.Membership.{Membership}

-- in which groups units are at home
abbrev pub home_of : ℕ → LoadedUnit → Membership
home_of number unit = record { group = unit.group; member = number }

abbrev pub homes_of : List LoadedUnit → List Membership
homes_of units = map (λ at. home_of at.0 at.1) (enumerate_from 0 units)

-- lists by the numbers of groups, each with the members of its group behind it
abbrev pub dealt_to : List (List ℕ) → List Membership → List (List ℕ)
dealt_to lists [] = lists
dealt_to lists (m ∷ ms) = dealt_to (slice_set lists m.group (slice_index_or lists m.group [] ++ m.member ∷ [])) ms

-- a group with its units and its members
abbrev pub filled_with : Group → List ℕ → List ℕ → Group
filled_with group units members = record group { units = units; members = members }

-- .. and several
abbrev pub filled_by : List Group → List (List ℕ) → List (List ℕ) → List Group
filled_by [] units members = []
filled_by (group ∷ groups) [] members = []
filled_by (group ∷ groups) (own ∷ units) [] = []
filled_by (group ∷ groups) (own ∷ units) (held ∷ members) = filled_with group own held ∷ filled_by groups units members

-- .. by the units and the memberships of a whole loading
abbrev pub filled_groups_of : List Group → List LoadedUnit → List Membership → List Group
filled_groups_of groups units memberships = map (λ at.
    filled_with at.1 (numbers_of (λ unit. unit.group == at.0) units) (members_among memberships at.0))
    (enumerate_from 0 groups)

-- the number of an owner
abbrev pub owner_number : Owned → ℕ
owner_number (owned.One owner) = owner
owner_number _ = 0

-- groups with their owners
abbrev pub owned_by : List Group → List Owned → List Group
owned_by [] owners = []
owned_by (group ∷ groups) [] = []
owned_by (group ∷ groups) (known ∷ owners) = record group { owner = owner_number known } ∷ owned_by groups owners
