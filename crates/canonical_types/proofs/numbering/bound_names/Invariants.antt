use Rattle.std.proofs.Common.{◌≡◌, ◌++◌, filter, drop}
use Rattle.realisation.specs.Canonical.{is_bound_name}
use Rattle.canonical_types.proofs.numbering.bound_names.Given as goal

abbrev pub invariant-loop-name : goal.invariant-loop-name
invariant-loop-name l =
    l.bound ++ filter is_bound_name (drop l.name-index l.fn.names) ≡ filter is_bound_name l.fn.names
