use Rattle.std.proofs.Common.{◌≡◌, [], drop}
use Rattle.semantic_objects.specs.Tables.{with_all}
use Rattle.type_nodes.specs.Tables.{state}
use Rattle.declaration_ends.proofs.Sizing.{type_flags}
use Rattle.declaration_ends.proofs.made.any_type_large.Given as goal

-- what was noted so far, and the types that are left
abbrev pub invariant-loop-named : goal.invariant-loop-named
invariant-loop-named l = record {
  same : l.t ≡ l.fn.t;
  rows : with_all (type_flags (state l.fn.t).stands (drop l.named-index l.fn.types)) l.rows
      ≡ with_all (type_flags (state l.fn.t).stands l.fn.types) [];
}
