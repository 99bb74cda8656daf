use Rattle.std.proofs.Common.{◌≡◌, take, map}
use Rattle.realisation.specs.Environments.{changed_con}
use Rattle.type_walks.specs.Replaced.{replacing}
use Rattle.type_walks.proofs.entries.replaced_cons.Given as goal

abbrev pub invariant-loop-con : goal.invariant-loop-con
invariant-loop-con l = l.made ≡ map (changed_con (replacing l.fn.by)) (take l.con-index l.fn.cons)
