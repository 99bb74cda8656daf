use Rattle.type_schemes.specs.Ages.{MetEntries}
use Rattle.type_schemes.specs.Heads.{AreHeads}
use Rattle.type_schemes.proofs.young.Young.meet_entries.Given as goal

abbrev pub invariant-loop-at : goal.invariant-loop-at
invariant-loop-at l = record {
  met : MetEntries l.fn.table l.fn.from l.at l.fn.self l.self;
  heads : AreHeads l.fn.table l.heads;
}
