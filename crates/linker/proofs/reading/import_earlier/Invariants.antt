use Rattle.std.proofs.Common.{◌≡◌, drop}
use Rattle.linker.specs.Reading.{import_earlier}
use Rattle.linker.proofs.reading.import_earlier.Given as goal

-- what is left is to be looked at from its own place on
abbrev pub invariant-loop-unit : goal.invariant-loop-unit
invariant-loop-unit l =
    (l.place ≡ l.unit-index) × (import_earlier l.unit-index (drop l.unit-index l.units) ≡ import_earlier 0 l.units)
