-- What holds of what was loaded so far, and of all of it when the loading of ROOT ended.
use Rattle.std.specs.Prelude.{◌≡◌, ◌<◌, ◌≤◌, ℕ, None, length, All, Contains}
use Rattle.cm_description.specs.WellFormed.{IsItemBelow, StandsAt, AllDiffer}
use Rattle.cm_description.specs.declared.loaded.Group.{Group}
use Rattle.project_checks.specs.declared.limits.TheConstants.{UNITS}
use Rattle.project_checks.specs.declared.progress.Membership.{Membership}
use Rattle.project_checks.specs.declared.progress.Progress.{Progress}

-- a group that was read from a description: its lines number its entries
pub record IsRead (group : Group) : Type 0 where
  pub plain : group.thawed ≡ None
  pub items : All (λ line. IsItemBelow (length group.entries) line.body) group.export_lines

-- Units and memberships are of groups that are there; a member is a group whose loading ended, before that of the group
-- that has it; and a group ended once.
pub record IsSound (p : Progress) : Type 0 where
  pub read : All IsRead p.groups
  pub homes : All (λ unit. unit.group < length p.groups) p.units
  pub holders : All (λ membership. membership.group < length p.groups) p.memberships
  pub members : All (λ membership. Contains p.finished membership.member) p.memberships
  pub ended : All (λ number. number < length p.groups) p.finished
  pub once : AllDiffer p.finished
  pub members_first : (i : ℕ) (membership : Membership) → Contains p.memberships membership
      → StandsAt p.finished i membership.group → (j : ℕ) × (j < i) × StandsAt p.finished j membership.member

-- a group whose loading goes on
pub record IsOpen (p : Progress) (number : ℕ) : Type 0 where
  pub known : number < length p.groups
  pub goes_on : Contains p.finished number → ⊥

-- more was loaded: each new group ended, and no other group did
pub record Descends (old new : Progress) : Type 0 where
  pub grows : length old.groups ≤ length new.groups
  pub stays : (number : ℕ) → Contains old.finished number → Contains new.finished number
  pub ended : (number : ℕ) → length old.groups ≤ number → number < length new.groups → Contains new.finished number
  pub others : (number : ℕ) → number < length old.groups → Contains new.finished number → Contains old.finished number

-- all groups ended
pub record IsWhole (p : Progress) : Type 0 where
  pub sound : IsSound p
  pub all : (number : ℕ) → number < length p.groups → Contains p.finished number
  pub few : length p.units ≤ UNITS
