use Rattle.std.proofs.Common.{◌≡◌, ◌++◌, drop, nat_lt}
use Rattle.std.specs.Prelude.{filter}
use Rattle.infix_names.proofs.fixity.open_after.Given as goal

-- What was kept and what is to be kept of the rest is all that is kept.
abbrev pub invariant-loop-op : goal.invariant-loop-op
invariant-loop-op l =
    l.all ++ filter (λ op. nat_lt op.strength l.f.strength) (drop l.op-index l.ops)
    ≡ filter (λ op. nat_lt op.strength l.f.strength) l.ops
