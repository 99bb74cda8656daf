use Rattle.std.proofs.Common.{◌≡◌, ◌++◌, drop}
use Rattle.type_schemes.proofs.young.add_all.Given as goal

abbrev pub invariant-loop-part : goal.invariant-loop-part
invariant-loop-part l = l.ids ++ drop l.part-index l.fn.parts ≡ l.fn.ids ++ l.fn.parts
