use Rattle.std.proofs.Common.{◌≡◌, ◌++◌, filter, drop}
use Rattle.canonical_interfaces.specs.Fair.{is_other}
use Rattle.interface_restoring.proofs.names.other_names.Given as goal

abbrev pub invariant-loop-name : goal.invariant-loop-name
invariant-loop-name l =
    l.others ++ filter (is_other l.fn.home) (drop l.name-index l.fn.names) ≡ filter (is_other l.fn.home) l.fn.names
