use Rattle.std.proofs.Common.{◌≡◌}
use Rattle.std.specs.List.{list_any}
use Rattle.type_nodes.specs.Tables.{state}
use Rattle.declaration_ends.specs.Structures.{large_at, IsWalk}
use Rattle.declaration_ends.proofs.structures.any_place_large.Given as goal

abbrev pub invariant-loop : goal.invariant-loop
invariant-loop l = record {
  same : l.t ≡ l.fn.t;
  walk : IsWalk (large_at (state l.fn.t).stands l.fn.g.items)
      (list_any (large_at (state l.fn.t).stands l.fn.g.items) l.fn.places) l.done l.steps;
}
