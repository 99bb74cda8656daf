use Rattle.type_schemes.specs.Schemes.{HaveAll}
use Rattle.table_cases.proofs.scene.ids_of.Given as goal

abbrev pub invariant-loop-word : goal.invariant-loop-word
invariant-loop-word l = HaveAll l.fn.table l.found
