use Rattle.std.proofs.Common.{◌≡◌, ◌++◌, drop, map}
use Rattle.table_schemes.specs.declared.scheme.OpenPart.TheVariants as part
use Rattle.table_schemes.proofs.enters.closed_parts.Given as goal

abbrev pub invariant-loop-part : goal.invariant-loop-part
invariant-loop-part l = map part.Closed l.ids ++ drop l.part-index l.fn.parts ≡ l.fn.parts
