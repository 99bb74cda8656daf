use Rattle.std.proofs.Common.{◌≡◌, drop, eqb}
use Rattle.std.specs.List.{list_any}
use Rattle.declaration_ends.proofs.made.any_holds.Given as goal

-- none so far holds
abbrev pub invariant-loop-fact : goal.invariant-loop-fact
invariant-loop-fact l = list_any (eqb 1) l.fn.flags ≡ list_any (eqb 1) (drop l.fact-index l.fn.flags)
