use Rattle.std.proofs.Common.{◌≡◌, take}
use Rattle.type_walks.specs.Tables.{AreTold}
use Rattle.canonical_types.proofs.numbering.Numbering.new.Given as goal

abbrev pub invariant-loop-name : goal.invariant-loop-name
invariant-loop-name l = record {
  told : AreTold l.table;
  names : l.table.names ≡ take l.name-index l.fn.names;
}
