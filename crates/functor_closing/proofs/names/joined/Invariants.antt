use Rattle.std.proofs.Common.{◌≡◌, ◌++◌, take}
use Rattle.functor_closing.proofs.names.joined.Given as goal

abbrev pub invariant-loop-name : goal.invariant-loop-name
invariant-loop-name l = l.names ≡ l.fn.front ++ take l.name-index l.fn.back
