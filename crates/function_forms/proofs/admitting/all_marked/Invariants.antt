use Rattle.std.proofs.Common.{◌≡◌, drop, List}
use Rattle.semantic_objects.specs.Trees.{Tree}
use Rattle.unification.specs.Types.{Marks}
use Rattle.function_forms.specs.Admitting.{Knows, parts_admit}
use Rattle.function_forms.proofs.admitting.all_marked.Given as goal

abbrev pub invariant-loop-place : goal.invariant-loop-place
invariant-loop-place l = (trees : List Tree) → Knows trees l.marked → (q : Marks)
    → parts_admit q trees (drop l.place-index l.places) ≡ parts_admit q trees l.places
