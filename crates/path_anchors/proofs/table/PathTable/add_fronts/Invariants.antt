use Rattle.path_anchors.proofs.TableLemmas.{Adding}
use Rattle.path_anchors.proofs.table.PathTable.add_fronts.Given as goal

-- the table has the fronts so far
abbrev pub invariant-loop-at : goal.invariant-loop-at
invariant-loop-at l = Adding l.fn.self l.self l.path l.at
