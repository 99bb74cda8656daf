use Rattle.std.proofs.Common.{arith, ap, refl}
use Rattle.std.proofs.lemmas.List.{get_or-set_same}
use Rattle.dependency_graph.specs.Search.{is_new}
use Rattle.dependency_graph.specs.declared.ranks.Mark.TheVariants.{New, Open}
use Rattle.dependency_graph.proofs.Visits.{begun, keeps_set}
use Rattle.dependency_graph.proofs.ranks.visit.Goals as goal

-- the unit is open, alone on its way
pub loop-frame-init : goal.loop-frame-init
loop-frame-init c = record {
  visiting =
      rw (c.in_ok-push.ensures.items, c.new-stack.ensures.items)
      (begun c.args.edges.now c.args.marks.now c.args.ranks.now c.args.unit c.requires.noted c.requires.none
      c.requires.known);
  keeps = keeps_set c.args.marks.now c.args.unit Open refl;
  met = ap is_new (get_or-set_same c.args.marks.now c.args.unit Open New (omega (arith, c.requires.noted.marked)));
}
