-- What a build asks for, so that the store's formats can hold its units.
use Rattle.std.specs.Prelude.{◌<◌, ◌^◌, List, length, All}
use Rattle.cm_description.specs.declared.loaded.Unit.{Unit as ProjectUnit}
use Rattle.cm_description.specs.declared.loaded.UnitBody.{UnitBody}
use Rattle.cm_description.specs.declared.loaded.UnitBody.TheVariants as body
use Rattle.cm_description.specs.declared.loaded.Wanted.{Wanted}

-- fewer than 2^32 wanted names, each of fewer than 2^32 bytes
pub record AreShortNames (wanted : List Wanted) : Type 0 where
  pub count : length wanted < 2 ^ 32
  pub each : All (λ w. length w.name.name < 2 ^ 32) wanted

-- a source of fewer than 2^32 bytes; a frozen unit has none
abbrev pub IsShortBody : UnitBody → Type 0
IsShortBody (body.Source options source) = length source < 2 ^ 32
IsShortBody (body.Frozen imports interface code) = Unit {0}

-- .. and a name of fewer
pub record IsShortUnit (unit : ProjectUnit) : Type 0 where
  pub name : length unit.name < 2 ^ 32
  pub body : IsShortBody unit.body
