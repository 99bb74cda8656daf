use Rattle.std.proofs.Common.{◌≡◌, take}
use Rattle.structure_matching.specs.Found.{specified_rows, AreFound}
use Rattle.structure_matching.proofs.parts.components.Given as goal

abbrev pub invariant-loop-at : goal.invariant-loop-at
invariant-loop-at l = record {
  rows : specified_rows l.made ≡ take l.at l.specified;
  found : AreFound l.found l.made;
}
