use Rattle.std.proofs.Common.{◌≡◌, take}
use Rattle.unification.proofs.plain.+copied.Given as goal

abbrev pub invariant-copy_all-loop-ty : goal.invariant-copy_all-loop-ty
invariant-copy_all-loop-ty l = l.copy ≡ take l.ty-index l.types
