use Rattle.sml_modules.specs.Adding.{Extends}
use Rattle.environment_walks.specs.Changing.{AreChanged}
use Rattle.environment_walks.proofs.changing.walk.Given as goal

abbrev pub invariant-loop : goal.invariant-loop
invariant-loop g l = record {
  extends : Extends l.fn.graph l.graph;
  changed : AreChanged (g.C.TypeChanges.change l.fn.by) l.graph.items l.images;
}
