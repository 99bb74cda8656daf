use Rattle.declaration_ends.specs.Sizes.{AreAll}
use Rattle.declaration_ends.proofs.sizes.repeated.Given as goal

abbrev pub invariant-loop : goal.invariant-loop
invariant-loop l = AreAll l.fn.id l.ids
