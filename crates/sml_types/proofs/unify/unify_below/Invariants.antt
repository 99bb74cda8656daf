use Rattle.std.proofs.Common.{◌≡◌}
use Rattle.unification.specs.Unification.{unify_in}
use Rattle.type_nodes.specs.Tables.{state, type_of}
use Rattle.sml_types.specs.Unifying.{Grown}
use Rattle.sml_types.specs.Pairs.{unify_left, ArePairs, AreOne, no_exception}
use Rattle.sml_types.proofs.unify.unify_below.Given as goal

abbrev pub invariant-loop-pair : goal.invariant-loop-pair
invariant-loop-pair l = record {
  grown : Grown l.fn.table l.table;
  answer : unify_in l.fn.depth (type_of l.fn.table l.fn.left) (type_of l.fn.table l.fn.right) (state l.fn.table)
      ≡ unify_left l.table l.pairs (state l.table);
  pairs : ArePairs l.table (state l.table) no_exception l.pairs;
  one : AreOne l.table (state l.table) l.same;
}

abbrev pub decreases-loop-pair : goal.decreases-loop-pair
decreases-loop-pair l = l.steps
