use Rattle.std.proofs.Common.{◌≡◌, ◌++◌, drop, map}
use Rattle.std.specs.List.{zip}
use Rattle.interface_nodes.specs.Images.{pair_of}
use Rattle.interface_nodes.proofs.trees.fields_of.Given as goal

abbrev pub invariant-loop-at : goal.invariant-loop-at
invariant-loop-at l =
    map pair_of l.fields ++ zip (drop l.at l.fn.labels) (drop l.at l.fn.places) ≡ zip l.fn.labels l.fn.places
