use Rattle.std.proofs.Common.{◌≡◌, drop, length}
use Rattle.semantic_objects.specs.Trees.{trees_of}
use Rattle.semantic_objects.specs.Nodes.{unfolded, trees_at}
use Rattle.unification.specs.Generality.{same_trees}
use Rattle.module_semantics.specs.SignatureNames.{variables_from}
use Rattle.function_forms.proofs.flexible.are_variables.Given as goal

abbrev pub invariant-loop-place : goal.invariant-loop-place
invariant-loop-place l = record {
  number : l.number ≡ l.place-index;
  rest : same_trees (trees_of (trees_at (unfolded l.nodes) (drop l.place-index l.places)))
      (variables_from (length (drop l.place-index l.places)) l.number)
      ≡ same_trees (trees_of (trees_at (unfolded l.nodes) l.places)) (variables_from (length l.places) 0);
}
