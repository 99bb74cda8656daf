use Rattle.std.proofs.Common.{◌≡◌, drop}
use Rattle.type_nodes.specs.Tables.{state}
use Rattle.static_semantics.specs.Inferring.{con_bodies}
use Rattle.declaration_ends.specs.Sizes.{any_large, large_type}
use Rattle.declaration_ends.proofs.sizes.is_large_type.Given as goal

-- no type so far is too large
abbrev pub invariant-loop-con : goal.invariant-loop-con
invariant-loop-con l = record {
  same : l.t ≡ l.fn.t;
  left : large_type (state l.fn.t).stands l.fn.entry
      ≡ any_large (state l.fn.t).stands (con_bodies (drop l.con-index l.fn.entry.cons));
}
