use Rattle.std.proofs.Common.{◌≡◌}
use Rattle.semantic_objects.specs.Tables.{with_all}
use Rattle.sml_modules.specs.Items.{at, as_type, IsType, map_rows}
use Rattle.sml_modules.specs.Graphs.{type_rows}
use Rattle.sml_modules.specs.Nodes.{AreAll}
use Rattle.sml_modules.specs.Adding.{Extends}
use Rattle.sml_modules.proofs.graph.EnvGraph.keep_types.Given as goal

-- the entries that are left over those set so far are all over the first ones
abbrev pub invariant-loop-named : goal.invariant-loop-named
invariant-loop-named l = record {
  extends : Extends l.fn.self l.self;
  are : AreAll IsType l.self.items l.rows;
  rest : with_all (type_rows l.named-iterator.rest.items) (map_rows (λ p. as_type (at l.self.items p)) l.rows)
      ≡ with_all (type_rows l.fn.types) (map_rows (λ p. as_type (at l.fn.self.items p)) l.fn.rows);
}
