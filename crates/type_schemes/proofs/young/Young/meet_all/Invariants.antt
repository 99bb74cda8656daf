use Rattle.type_schemes.specs.Ages.{HaveMet}
use Rattle.type_schemes.specs.Heads.{AreHeads}
use Rattle.type_schemes.proofs.young.Young.meet_all.Given as goal

abbrev pub invariant-loop-id : goal.invariant-loop-id
invariant-loop-id l = record {
  met : HaveMet l.fn.table l.fn.ids l.id-index l.fn.self l.self;
  heads : AreHeads l.fn.table l.heads;
}
