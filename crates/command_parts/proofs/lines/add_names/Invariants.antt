use Rattle.std.proofs.Common.{◌≡◌, ◌++◌, drop}
use Rattle.std.specs.List.{flat_map}
use Rattle.command_parts.specs.Lines.{spaced}
use Rattle.command_parts.proofs.lines.add_names.Given as goal

abbrev pub invariant-loop-name : goal.invariant-loop-name
invariant-loop-name l = l.out.items ++ flat_map spaced (drop l.name-index l.names) ≡ l.fn.out.items ++ flat_map spaced l.names
