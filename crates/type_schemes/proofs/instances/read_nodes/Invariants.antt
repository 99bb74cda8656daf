use Rattle.std.proofs.Common.{◌≡◌, length}
use Rattle.type_nodes.specs.Tables.{state}
use Rattle.type_schemes.specs.Instances.{Adds, AreRead}
use Rattle.type_schemes.proofs.instances.read_nodes.Given as goal

abbrev pub invariant-loop-at : goal.invariant-loop-at
invariant-loop-at l = record {
  counted : length l.ids ≡ l.at;
  read : AreRead l.table l.fn.base l.fn.nodes l.ids;
  births : l.table.births ≡ l.fn.table.births;
  state : state l.table ≡ state l.fn.table;
  added : Adds l.fn.table l.table;
}
