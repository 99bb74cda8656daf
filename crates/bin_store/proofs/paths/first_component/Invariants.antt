use Rattle.std.proofs.Common.{take}
use Rattle.bin_store.proofs.Parts.{NoSlash}
use Rattle.bin_store.proofs.paths.first_component.Given as goal

-- no byte before this one is a slash
abbrev pub invariant-loop-at : goal.invariant-loop-at
invariant-loop-at l = NoSlash (take l.at l.name)
