use Rattle.std.proofs.Common.{◌≡◌, take}
use Rattle.type_nodes.specs.Facts.{facts_all}
use Rattle.type_nodes.specs.Nodes.{types_at}
use Rattle.type_nodes.proofs.nodes.TypeNodes.facts_of_parts.Given as goal

abbrev pub invariant-loop-part : goal.invariant-loop-part
invariant-loop-part l =
    l.facts ≡ facts_all l.fn.self.births (types_at l.fn.self (take l.part-index l.fn.parts))
