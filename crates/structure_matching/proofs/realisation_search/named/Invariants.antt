use Rattle.std.proofs.Common.{◌≡◌, take}
use Rattle.type_walks.specs.Tables.{AreTold}
use Rattle.structure_matching.proofs.realisation_search.named.Given as goal

abbrev pub invariant-loop-name : goal.invariant-loop-name
invariant-loop-name l = record {
  names : l.table.names ≡ take l.name-index l.names;
  told : AreTold l.table;
}
