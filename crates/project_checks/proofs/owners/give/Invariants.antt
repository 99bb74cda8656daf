use Rattle.std.proofs.Common.{take}
use Rattle.project_checks.specs.Owning.{Joins}
use Rattle.project_checks.proofs.owners.give.Given as goal

-- the members that were met have these owners too
abbrev pub invariant-loop-member : goal.invariant-loop-member
invariant-loop-member l = Joins (take l.member-index l.members) l.owned l.fn.owners l.owners
