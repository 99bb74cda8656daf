use Rattle.std.proofs.Common.{◌≡◌, ◌++◌, drop}
use Rattle.bare_forms.proofs.name.copy_longs.Given as goal

-- what is copied, and what is left
abbrev pub invariant-loop-long : goal.invariant-loop-long
invariant-loop-long l = l.copy ++ drop l.long-index l.longs ≡ l.longs
