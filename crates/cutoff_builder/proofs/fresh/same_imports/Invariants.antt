use Rattle.std.proofs.Common.{◌≡◌, drop, length}
use Rattle.build_laws.specs.Stale.{same_imports}
use Rattle.cutoff_builder.proofs.fresh.same_imports.Given as goal

-- the lists have one length, and the rests compare as the whole lists do
abbrev pub invariant-loop-at : goal.invariant-loop-at
invariant-loop-at l = record {
  long : length l.a ≡ length l.b;
  rest : same_imports (drop l.at l.a) (drop l.at l.b) ≡ same_imports l.a l.b;
}
