use Rattle.std.proofs.Common.{◌≡◌, length}
use Rattle.type_schemes.specs.Flattening.{AreFlat}
use Rattle.type_schemes.proofs.flat.flat_nodes.Given as goal

abbrev pub invariant-loop-id : goal.invariant-loop-id
invariant-loop-id l = record {
  counted : length l.flat.places ≡ l.id-index;
  flat : AreFlat l.fn.table l.fn.numbers.variables l.fn.reached.ids l.flat;
}
