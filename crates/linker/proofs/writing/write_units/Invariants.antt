use Rattle.std.proofs.Common.{◌≡◌, ◌++◌, drop}
use Rattle.std.specs.List.{flat_map}
use Rattle.cm_bytes.specs.Fields.{list_of}
use Rattle.linker.specs.Spelling.{linked_unit_of}
use Rattle.linker.proofs.writing.write_units.Given as goal

-- what is written and the spellings of the rest are the whole list
abbrev pub invariant-loop-unit : goal.invariant-loop-unit
invariant-loop-unit l =
    l.out ++ flat_map linked_unit_of (drop l.unit-index l.units) ≡ l.fn.out ++ list_of linked_unit_of l.units
