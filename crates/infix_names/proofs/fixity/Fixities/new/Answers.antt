use Rattle.std.proofs.Common.{ap}
use Rattle.std.specs.Map.{lookup}
use Rattle.infix_names.specs.FixityTables.{same}
use Rattle.infix_names.proofs.FixityTables.{none_told}
use Rattle.infix_names.proofs.fixity.Fixities.new.Goals as goal

pub invariant_of-result : goal.invariant_of-result
invariant_of-result c =
    none_told c.new-3.result c.new.result.items c.new-2.result.items
    (λ name. ap (lookup (same name)) c.new-3.ensures.empty) c.new-2.ensures.items c.new.ensures.items
