use Rattle.sml_modules.specs.Adding.{Extends}
use Rattle.realisation.specs.Canonical.{to_canonical}
use Rattle.environment_walks.specs.Changing.{AreChanged}
use Rattle.canonical_types.specs.Orders.{by_order}
use Rattle.canonical_walks.specs.Binders.{AreCanon}
use Rattle.canonical_walks.proofs.binders.note_binders.Given as goal

abbrev pub invariant-loop-place : goal.invariant-loop-place
invariant-loop-place l = record {
  extends : Extends l.fn.graph l.graph;
  changed : AreChanged (to_canonical (by_order l.fn.own)) l.graph.items l.images;
  canon : AreCanon l.fn.own l.graph.items l.made;
}
