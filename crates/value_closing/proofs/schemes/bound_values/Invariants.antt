use Rattle.std.specs.Prelude.{IsTrue}
use Rattle.value_closing.proofs.Bounding.{BoundSoFar}
use Rattle.value_closing.proofs.schemes.bound_values.Given as goal

-- what was bound so far, and the values that are left
abbrev pub invariant-loop-named : goal.invariant-loop-named
invariant-loop-named l = BoundSoFar (IsTrue l.fn.with_schemes) l.fn.t l.fn.values l.t l.bounds l.named-iterator.rest.items
