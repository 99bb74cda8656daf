-- What the builder keeps of the units that are done.
use Rattle.std.specs.Prelude.{◌≡◌, ◌⊎◌, ◌++◌, ◌∷◌, [], nat_eq, List, Result, Ok, Err}
use Rattle.indexmap.specs.IndexMap.{get}
use lib.Pointwise.{pointwise}
use Rattle.cm_base.specs.declared.record.Built.{Built}
use Rattle.cm_base.specs.declared.record.BuiltUnit.{BuiltUnit}
use Rattle.bin_formats.specs.declared.bin.Bin.{Bin}
use Rattle.bin_formats.specs.Format.{IsShortBin}
use Rattle.cutoff_builder.specs.declared.builder.BuildFault.{BuildFault}
use Rattle.cutoff_builder.specs.declared.builder.BuildFault.TheVariants as stop
use Rattle.cutoff_builder.specs.declared.done.Done.{Done}
use Rattle.cutoff_builder.specs.declared.turn.UnitFault.{UnitFault}
use Rattle.cutoff_builder.specs.declared.turn.UnitFault.TheVariants as unit_stop
use Rattle.cutoff_builder.specs.Answers.{IsIndexed}
use Rattle.build_laws.specs.Inputs.{interface_bytes}

-- the table finds each unit, and the sum is that of the interfaces
pub record IsDone (done : Done) : Type 0 where
  pub indexed : IsIndexed (get (pointwise nat_eq) done.places) done.units
  pub bytes : done.interface_bytes ≡ interface_bytes done.units

-- a unit that is done has a binfile that the format can hold: one that was read, or that could be written
pub record HasShortBin (unit : BuiltUnit) : Type 0 where
  pub bin : Bin
  pub short : IsShortBin bin
  pub named : bin.unit ≡ unit.unit
  pub imports : bin.imports ≡ unit.imports
  pub code : bin.code ≡ unit.code

-- what the turns of the units of a number add to those that are done, in any folder: one with such a binfile, or none
abbrev pub StepAdds : Result (Unit {0}) UnitFault → List BuiltUnit → List BuiltUnit → Type 0
StepAdds (Ok done) before after =
    (after ≡ before) ⊎ ((unit : BuiltUnit) × HasShortBin unit × (after ≡ before ++ unit ∷ []))
StepAdds (Err (unit_stop.Diag diag)) before after = after ≡ before
StepAdds (Err unit_stop.Folder) before after = Unit {0}
StepAdds (Err unit_stop.NoMemory) before after = Unit {0}

-- the units that a build has done when it ends, with a diagnostic or without
abbrev pub done_units : Result Built BuildFault → List BuiltUnit
done_units (Ok built) = built.units
done_units (Err (stop.Stop diag done)) = done.units
done_units (Err stop.Folder) = []
done_units (Err stop.NoMemory) = []
