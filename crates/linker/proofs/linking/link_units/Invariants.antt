use Rattle.std.proofs.Common.{◌≡◌, ◌++◌, drop, map, nat_eq}
use lib.Pointwise.{pointwise}
use Rattle.indexmap.specs.IndexMap.{get}
use Rattle.linker.specs.Linked.{with_places}
use Rattle.linker.proofs.linking.link_units.Given as goal

-- the units linked so far and the rest are all of them
abbrev pub invariant-loop-unit : goal.invariant-loop-unit
invariant-loop-unit l =
    let one = with_places (get (pointwise nat_eq) l.table) in
    l.linked.items ++ map one (drop l.unit-index l.units) ≡ map one l.units
