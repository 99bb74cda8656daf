use Rattle.std.proofs.Common.{◌≡◌, drop, map}
use Rattle.realisation.specs.Environments.{changed_con}
use Rattle.type_walks.specs.Replaced.{replacing}
use Rattle.type_walks.proofs.entries.is_any_con_replaced.Given as goal

abbrev pub invariant-loop-con : goal.invariant-loop-con
invariant-loop-con l =
    map (changed_con (replacing l.fn.by)) (drop l.con-index l.fn.cons) ≡ drop l.con-index l.fn.cons
    → map (changed_con (replacing l.fn.by)) l.fn.cons ≡ l.fn.cons
