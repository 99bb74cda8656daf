use Rattle.unification.specs.Types.{size_all}
use Rattle.type_nodes.specs.Tables.{whole_all}
use Rattle.type_schemes.specs.Ages.{IsWalk}
use Rattle.type_schemes.specs.Heads.{AreHeads}
use Rattle.type_schemes.proofs.young.Young.meet.Given as goal

abbrev pub invariant-loop-next : goal.invariant-loop-next
invariant-loop-next l = record {
  walk : IsWalk l.fn.table l.fn.id l.fn.self l.self l.ids;
  heads : AreHeads l.fn.table l.heads;
}

abbrev pub decreases-loop-next : goal.decreases-loop-next
decreases-loop-next l = size_all (whole_all l.fn.table l.ids)
