use Rattle.std.proofs.Common.{◌≡◌, take}
use Rattle.module_semantics.specs.SignatureNames.{bound_names}
use Rattle.functor_closing.proofs.names.bound_names.Given as goal

abbrev pub invariant-loop-old : goal.invariant-loop-old
invariant-loop-old l = l.names ≡ bound_names l.fn.first (take l.old-index l.fn.olds)
