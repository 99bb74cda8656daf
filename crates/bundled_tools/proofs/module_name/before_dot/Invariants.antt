use Rattle.std.proofs.Common.{◌≡◌, ◌-◌, ◌+◌, ◌≤◌, ◌==◌, length, drop}
use Rattle.std.specs.List.{position_or_len}
use Rattle.bundled_tools.proofs.Modules.{IsBeforeDots}
use Rattle.bundled_tools.proofs.module_name.before_dot.Given as goal

-- no dot stands before here
abbrev pub invariant-loop-end : goal.invariant-loop-end
invariant-loop-end l = IsBeforeDots l.end l.name

abbrev pub decreases-loop-end : goal.decreases-loop-end
decreases-loop-end l = length l.name - l.end
