use Rattle.std.proofs.Common.{◌≡◌, ◌++◌, filter, drop}
use Rattle.realisation.specs.Canonical.{is_own}
use Rattle.canonical_types.proofs.numbering.own_names.Given as goal

abbrev pub invariant-loop-name : goal.invariant-loop-name
invariant-loop-name l =
    l.own ++ filter (is_own l.fn.home) (drop l.name-index l.fn.names) ≡ filter (is_own l.fn.home) l.fn.names
