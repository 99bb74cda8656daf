use Rattle.std.proofs.Common.{ap}
use Rattle.std.specs.Map.{lookup}
use Rattle.name_trails.specs.Trails.{same}
use Rattle.name_trails.proofs.Placing.{none_told}
use Rattle.name_trails.proofs.trail.NameTrail.new.Goals as goal

pub invariant_of-result : goal.invariant_of-result
invariant_of-result g c =
    none_told c.new-3.result c.new.result.items c.new-2.result.items
    (λ name. ap (lookup (same name)) c.new-3.ensures.empty) c.new-2.ensures.items c.new.ensures.items
