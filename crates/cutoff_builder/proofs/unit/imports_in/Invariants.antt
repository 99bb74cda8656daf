use Rattle.std.proofs.Common.{◌≡◌, ◌++◌, drop}
use Rattle.build_laws.specs.Inputs.{imports_in}
use Rattle.cutoff_builder.proofs.unit.imports_in.Given as goal

abbrev pub invariant-loop-given : goal.invariant-loop-given
invariant-loop-given l = l.imports ++ imports_in (drop l.given-index l.givens) ≡ imports_in l.givens
