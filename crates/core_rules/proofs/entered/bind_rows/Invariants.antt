use Rattle.core_rules.proofs.Entering.{EnteredSoFar}
use Rattle.core_rules.proofs.entered.bind_rows.Given as goal

abbrev pub invariant-loop-row : goal.invariant-loop-row
invariant-loop-row l = EnteredSoFar l.rows l.row-index l.fn.scope l.scope
