-- What more is known of each project that is loaded.
use Rattle.std.specs.Prelude.{◌<◌, ◌≤◌, ◌^◌, length, All}
use Rattle.cm_description.specs.declared.loaded.Project.{Project}
use Rattle.cm_description.specs.declared.loaded.UnitBody.{UnitBody}
use Rattle.cm_description.specs.declared.loaded.UnitBody.TheVariants as body
use Rattle.cm_description.specs.declared.loaded.Unit.{Unit as LoadedUnit}
use Rattle.project_checks.specs.declared.limits.TheConstants.{ALL_SOURCES, GROUPS, UNITS}

-- no more units and groups than the limits allow
pub record IsWithinLimits (p : Project) : Type 0 where
  pub units : length p.units ≤ UNITS
  pub groups : length p.groups ≤ GROUPS

-- a unit that was read from its source, and not from a frozen library; the source is no larger than all may be together
abbrev pub IsSourceBody : UnitBody → Type 0
IsSourceBody (body.Source options source) = length source ≤ ALL_SOURCES
IsSourceBody (body.Frozen imports interface code) = ⊥

-- .. and a name of fewer than 2^32 bytes
pub record IsSource (unit : LoadedUnit) : Type 0 where
  pub name : length unit.name < 2 ^ 32
  pub body : IsSourceBody unit.body

abbrev pub HasSources : Project → Type 0
HasSources p = All IsSource p.units
