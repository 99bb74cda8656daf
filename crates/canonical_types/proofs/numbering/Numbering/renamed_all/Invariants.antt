use Rattle.std.proofs.Common.{◌≡◌, map, take}
use Rattle.canonical_types.specs.Orders.{by_order}
use Rattle.canonical_types.proofs.numbering.Numbering.renamed_all.Given as goal

abbrev pub invariant-loop-name : goal.invariant-loop-name
invariant-loop-name l = l.made ≡ map (by_order l.fn.self) (take l.name-index l.fn.names)
