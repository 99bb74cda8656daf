-- Which loaded projects are well formed.
use Rattle.std.specs.Prelude.{◌≡◌, ◌<◌, ℕ, List, Option, Some, None, length, map, slice_get, All, Contains}
use Rattle.cm_conditions.specs.declared.line.LineBody.{LineBody}
use Rattle.cm_conditions.specs.declared.line.LineBody.TheVariants as body
use Rattle.cm_description.specs.declared.loaded.Export.{Export}
use Rattle.cm_description.specs.declared.loaded.Group.{Group}
use Rattle.cm_description.specs.declared.loaded.Project.{Project}
use Rattle.cm_description.specs.declared.loaded.Unit.{Unit as ProjectUnit}

-- the item of a line, if it is one, is below this number
abbrev pub IsItemBelow : ℕ → LineBody → Type 0
IsItemBelow n (body.Item number) = number < n
IsItemBelow n _ = Unit {0}

-- the exports that a frozen library records are of units below this number
abbrev pub AreBelow : ℕ → Option (List Export) → Type 0
AreBelow units None = Unit {0}
AreBelow units (Some exports) = All (λ export. export.unit < units) exports

-- the numbers of a group are those of its entries, and of so many groups and units
pub record IsGroupWithin (groups units : ℕ) (group : Group) : Type 0 where
  pub owner : group.owner < groups
  pub members : All (λ member. member < groups) group.members
  pub units_below : All (λ unit. unit < units) group.units
  pub items : All (λ line. IsItemBelow (length group.entries) line.body) group.export_lines
  pub thawed : AreBelow units group.thawed

-- what stands at a place of a list
abbrev pub StandsAt : {A : Type 0} → List A → ℕ → A → Type 0
StandsAt xs at x = slice_get xs at ≡ Some x

-- nothing stands at two places
abbrev pub AllDiffer : {A : Type 0} → List A → Type 0
AllDiffer {A} xs = (i j : ℕ) (x : A) → StandsAt xs i x → StandsAt xs j x → i ≡ j

-- Numbers of groups, units and entries are below the lengths of their lists; no two units have one name; a unit stands
-- once in the units of its group, and in no other group's; and each group is finished once, after its members.
pub record IsWellFormed (p : Project) : Type 0 where
  pub groups : All (IsGroupWithin (length p.groups) (length p.units)) p.groups
  pub owned : All (λ unit. unit.group < length p.groups) p.units
  pub names : AllDiffer (map (λ unit. unit.name) p.units)
  pub home : (n g : ℕ) (unit : ProjectUnit) (group : Group) → StandsAt p.units n unit → StandsAt p.groups g group
      → Contains group.units n → g ≡ unit.group
  pub at_home : (n : ℕ) (unit : ProjectUnit) (group : Group) → StandsAt p.units n unit
      → StandsAt p.groups unit.group group → Contains group.units n
  pub once : All (λ group. AllDiffer group.units) p.groups
  pub finished_below : All (λ g. g < length p.groups) p.finished
  pub finished_all : (g : ℕ) → g < length p.groups → Contains p.finished g
  pub finished_once : AllDiffer p.finished
  pub members_first : (i g member : ℕ) (group : Group) → StandsAt p.finished i g → StandsAt p.groups g group
      → Contains group.members member → (j : ℕ) × (j < i) × StandsAt p.finished j member
