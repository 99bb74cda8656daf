use Rattle.node_tables.specs.Tables.{HasParts}
use Rattle.node_cases.proofs.scene.items_of.Given as goal

abbrev pub invariant-loop-word : goal.invariant-loop-word
invariant-loop-word l = HasParts l.fn.count l.items
