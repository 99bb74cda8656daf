use Rattle.path_anchors.proofs.TableLemmas.{Seeking}
use Rattle.path_anchors.proofs.table.PathTable.has_front.Given as goal

-- no front so far is in the table
abbrev pub invariant-loop-at : goal.invariant-loop-at
invariant-loop-at l = Seeking l.self l.path l.at
