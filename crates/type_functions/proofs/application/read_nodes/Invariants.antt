use Rattle.std.proofs.Common.{◌≡◌, length, map}
use Rattle.type_nodes.specs.Tables.{state, type_of}
use Rattle.type_schemes.specs.Instances.{Adds}
use Rattle.type_functions.specs.Reading.{AreRead}
use Rattle.type_functions.proofs.application.read_nodes.Given as goal

abbrev pub invariant-loop-at : goal.invariant-loop-at
invariant-loop-at l = record {
  counted : length l.ids ≡ l.at;
  read : AreRead l.table (map (type_of l.fn.table) l.fn.args) l.fn.nodes l.ids;
  births : l.table.births ≡ l.fn.table.births;
  state : state l.table ≡ state l.fn.table;
  added : Adds l.fn.table l.table;
}
