use Rattle.std.proofs.Common.{◌≡◌, drop}
use Rattle.cm_base.specs.Plans.{planned}
use Rattle.cm_base.proofs.mem_folder.named.Given as goal

-- no entry so far names the call
abbrev pub invariant-loop-entry : goal.invariant-loop-entry
invariant-loop-entry l = planned (drop l.entry-index l.plan) l.kind l.nth ≡ planned l.plan l.kind l.nth
