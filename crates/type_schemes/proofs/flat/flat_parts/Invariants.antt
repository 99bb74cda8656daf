use Rattle.std.proofs.Common.{◌≡◌, ◌++◌, drop, length}
use Rattle.semantic_objects.specs.Nodes.{trees_at, unfolded, AreBelow}
use Rattle.type_schemes.specs.Flattening.{closed_all}
use Rattle.type_schemes.proofs.flat.flat_parts.Given as goal

abbrev pub invariant-loop-part : goal.invariant-loop-part
invariant-loop-part l = record {
  below : AreBelow (length l.fn.flat.nodes) l.places;
  trees : trees_at (unfolded l.fn.flat.nodes) l.places ++ closed_all l.fn.table l.fn.numbers.variables (drop l.part-index l.fn.parts)
      ≡ closed_all l.fn.table l.fn.numbers.variables l.fn.parts;
}
