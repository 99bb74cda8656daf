use Rattle.std.proofs.Common.{◌≡◌, take}
use Rattle.env_parts.proofs.copies.copy_cons.Given as goal

abbrev pub invariant-loop-con : goal.invariant-loop-con
invariant-loop-con l = l.copy ≡ take l.con-index l.fn.cons
