use Rattle.std.proofs.Common.{◌≡◌, take}
use Rattle.visibility.proofs.copies.exports_copied.Given as goal

-- the exports so far
abbrev pub invariant-loop-export : goal.invariant-loop-export
invariant-loop-export l = l.copies ≡ take l.export-index l.exports
