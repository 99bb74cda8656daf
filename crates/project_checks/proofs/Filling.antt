-- Units and members are dealt to their groups: what the lists by number have is what filters of all have.
use Rattle.std.proofs.Common.{◌≡◌, ◌∙◌, ℕ, zero, suc, ◌+◌, ◌<◌, ◌≤◌, List, [], ◌∷◌, ◌++◌, length, map, Bool, true, false, Option, Some, None, option_map, refl, ap, ap₂, sym, arith, if◌then◌else◌}
use Rattle.std.specs.Prelude.{◌==◌, slice_get, filter}
use Rattle.std.specs.List.{enumerate_from, range_with_len}
use Rattle.cm_description.specs.declared.loaded.Group.{Group}
use Rattle.cm_description.specs.declared.loaded.Unit.{Unit as LoadedUnit}
use Rattle.project_checks.specs.Assembly.{filled_by, filled_groups_of, filled_with, home_of, homes_of}
use Rattle.project_checks.specs.Owners.{numbers_from, numbers_of}
use Rattle.project_checks.specs.Checks.{filled_groups, members_among}
use Rattle.project_checks.specs.declared.progress.Membership.{Membership}
use Rattle.project_checks.specs.declared.progress.Progress.{Progress}

-- ---- items with their numbers

pub numbered_at : {A B : Type 0} (f : ℕ → A → B) (xs : List A) (start n : ℕ)
    → slice_get (map (λ (at : ℕ × A). f at.0 at.1) (enumerate_from start xs)) n
    ≡ option_map (f (start + n)) (slice_get xs n)
numbered_at f [] start n = refl
numbered_at f (x ∷ xs) start zero = ap (λ (k : ℕ). Some (f k x)) (omega arith)
numbered_at f (x ∷ xs) start (suc n) =
    numbered_at f xs (start + 1) n ∙ ap (λ (k : ℕ). option_map (f k) (slice_get xs n)) (omega arith)

pub numbered_length : {A B : Type 0} (f : ℕ → A → B) (xs : List A) (start : ℕ)
    → length (map (λ (at : ℕ × A). f at.0 at.1) (enumerate_from start xs)) ≡ length xs
numbered_length f [] start = refl
numbered_length f (x ∷ xs) start = ap suc (numbered_length f xs (start + 1))

-- ---- homes

-- one home more, in the group or in another
home_by : (b : Bool) (group number : ℕ) (homes : List Membership) (numbers : List ℕ)
    → map (λ (m : Membership). m.member) homes ≡ numbers
    → map (λ (m : Membership). m.member) (if b then record { group = group; member = number } ∷ homes else homes)
    ≡ (if b then number ∷ numbers else numbers)
home_by true group number homes numbers same = ap (λ (xs : List ℕ). number ∷ xs) same
home_by false group number homes numbers same = same

pub homes_among : (units : List LoadedUnit) (start group : ℕ)
    → members_among (map (λ (at : ℕ × LoadedUnit). home_of at.0 at.1) (enumerate_from start units)) group
    ≡ numbers_from (λ (unit : LoadedUnit). unit.group == group) start units
homes_among [] start group = refl
homes_among (unit ∷ units) start group =
    home_by (unit.group == group) unit.group start
    (filter (λ (m : Membership). m.group == group)
    (map (λ (at : ℕ × LoadedUnit). home_of at.0 at.1) (enumerate_from (start + 1) units)))
    (numbers_from (λ (unit : LoadedUnit). unit.group == group) (start + 1) units)
    (homes_among units (start + 1) group)

-- ---- groups

module _ (units : List LoadedUnit) (memberships : List Membership) where
  filled_from : (groups : List Group) (start : ℕ)
      → filled_by groups (map (members_among (homes_of units)) (range_with_len start (length groups)))
      (map (members_among memberships) (range_with_len start (length groups)))
      ≡ map (λ (at : ℕ × Group). filled_with at.1 (numbers_of (λ (unit : LoadedUnit). unit.group == at.0) units)
      (members_among memberships at.0)) (enumerate_from start groups)
  filled_from [] start = refl
  filled_from (group ∷ groups) start =
      ap₂ (λ (first : Group) (rest : List Group). first ∷ rest)
      (ap (λ (own : List ℕ). filled_with group own (members_among memberships start)) (homes_among units 0 start))
      (filled_from groups (start + 1))

  pub all_filled : (groups : List Group)
      → filled_by groups (map (members_among (homes_of units)) (range_with_len 0 (length groups)))
      (map (members_among memberships) (range_with_len 0 (length groups)))
      ≡ filled_groups_of groups units memberships
  all_filled groups = filled_from groups 0

pub filled_whole : (p : Progress) → filled_groups_of p.groups p.units p.memberships ≡ filled_groups p
filled_whole p = refl
