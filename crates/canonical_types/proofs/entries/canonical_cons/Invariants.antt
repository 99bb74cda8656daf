use Rattle.std.proofs.Common.{◌≡◌, map, take}
use Rattle.realisation.specs.Environments.{changed_con}
use Rattle.realisation.specs.Canonical.{to_canonical}
use Rattle.canonical_types.specs.Orders.{by_order}
use Rattle.canonical_types.proofs.entries.canonical_cons.Given as goal

abbrev pub invariant-loop-con : goal.invariant-loop-con
invariant-loop-con l = l.made ≡ map (changed_con (to_canonical (by_order l.fn.by))) (take l.con-index l.fn.cons)
