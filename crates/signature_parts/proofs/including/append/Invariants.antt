use Rattle.std.proofs.Common.{◌≡◌, ◌++◌}
use Rattle.signature_parts.proofs.including.append.Given as goal

-- what was added so far, and the names that are left
abbrev pub invariant-loop-name : goal.invariant-loop-name
invariant-loop-name l = l.bound ++ l.name-iterator.rest.items ≡ l.fn.bound ++ l.fn.names
