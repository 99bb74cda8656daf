use Rattle.std.proofs.Common.{◌≡◌, take, map}
use Rattle.realisation.specs.Environments.{changed_con}
use Rattle.known_environments.specs.Known.{known_by}
use Rattle.known_environments.proofs.entries.known_cons.Given as goal

abbrev pub invariant-loop-con : goal.invariant-loop-con
invariant-loop-con l = l.made ≡ map (changed_con (known_by l.fn.by)) (take l.con-index l.fn.cons)
