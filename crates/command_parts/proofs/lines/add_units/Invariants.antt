use Rattle.std.proofs.Common.{◌≡◌, ◌++◌, drop}
use Rattle.std.specs.List.{flat_map}
use Rattle.command_parts.specs.Lines.{unit_line}
use Rattle.command_parts.proofs.lines.add_units.Given as goal

abbrev pub invariant-loop-unit : goal.invariant-loop-unit
invariant-loop-unit l =
    l.out.items ++ flat_map unit_line (drop l.unit-index l.units) ≡ l.fn.out.items ++ flat_map unit_line l.units
