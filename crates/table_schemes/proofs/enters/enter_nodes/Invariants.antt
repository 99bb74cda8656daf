use Rattle.std.proofs.Common.{◌≡◌, length}
use Rattle.type_nodes.specs.Tables.{state}
use Rattle.type_schemes.specs.Instances.{Adds}
use Rattle.table_schemes.specs.Entering.{AreEntered}
use Rattle.table_schemes.proofs.enters.enter_nodes.Given as goal

abbrev pub invariant-loop-at : goal.invariant-loop-at
invariant-loop-at l = record {
  counted : length l.parts ≡ l.at;
  entered : AreEntered l.table l.fn.xs l.nodes l.parts;
  births : l.table.births ≡ l.fn.table.births;
  state : state l.table ≡ state l.fn.table;
  added : Adds l.fn.table l.table;
}
