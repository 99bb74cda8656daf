use Rattle.std.proofs.Common.{◌≡◌, ◌++◌, filter, drop}
use Rattle.canonical_types.specs.Orders.{is_of}
use Rattle.canonical_types.proofs.numbering.names_of.Given as goal

abbrev pub invariant-loop-name : goal.invariant-loop-name
invariant-loop-name l =
    l.of ++ filter (is_of l.fn.among l.fn.are) (drop l.name-index l.fn.names)
    ≡ filter (is_of l.fn.among l.fn.are) l.fn.names
