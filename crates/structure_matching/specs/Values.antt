-- Nodes in which no other variables of a table stand than it has. Only private functions cite this file.
use Rattle.std.specs.Prelude.{◌≡◌, ◌<◌, Bool, true}
use Rattle.semantic_objects.specs.declared.node.TypeNode.{TypeNode}
use Rattle.semantic_objects.specs.declared.node.TypeNode.TheVariants as node
use Rattle.unification.specs.Types.{State}

abbrev pub IsNodeOf : State → TypeNode → Bool → Type 0
IsNodeOf s (node.Bound i) is = Unit {0}
IsNodeOf s (node.Free n) is = is ≡ true → n < s.next
IsNodeOf s (node.Made c places) is = Unit {0}
