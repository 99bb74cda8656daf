use Rattle.std.proofs.Common.{◌≡◌, ◌+◌, drop}
use Rattle.std.specs.Prelude.{◌↔◌}
use Rattle.unit_laws.specs.Parts.{AreBoundFrom}
use Rattle.given_tops.proofs.names.are_bound_from.Given as goal

abbrev pub invariant-loop-name : goal.invariant-loop-name
invariant-loop-name l = record {
  number : l.number ≡ l.fn.first + l.name-index;
  left : AreBoundFrom l.number (drop l.name-index l.fn.names) ↔ AreBoundFrom l.fn.first l.fn.names;
}
