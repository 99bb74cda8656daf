use Rattle.std.proofs.Common.{take}
use Rattle.std.specs.Prelude.{All}
use Rattle.cutoff_builder.specs.Small.{IsShortUnit}
use Rattle.builder_cases.proofs.ordering.are_short_units.Given as goal

abbrev pub invariant-loop-unit : goal.invariant-loop-unit
invariant-loop-unit l = All IsShortUnit (take l.unit-index l.units)
