use Rattle.std.proofs.Common.{◌≡◌, length}
use Rattle.type_nodes.specs.Tables.{state}
use Rattle.type_schemes.specs.Instances.{Adds}
use Rattle.table_schemes.specs.Meaning.{unfolded}
use Rattle.table_schemes.specs.Using.{AreMade}
use Rattle.table_schemes.proofs.uses.make_nodes.Given as goal

abbrev pub invariant-loop-node : goal.invariant-loop-node
invariant-loop-node l = record {
  counted : length l.ids ≡ l.node-index;
  made : AreMade l.table l.fn.base (unfolded l.fn.table l.fn.nodes) l.ids;
  births : l.table.births ≡ l.fn.table.births;
  state : state l.table ≡ state l.fn.table;
  added : Adds l.fn.table l.table;
}
