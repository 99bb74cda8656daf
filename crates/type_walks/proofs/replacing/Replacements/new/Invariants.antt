use Rattle.std.proofs.Common.{◌≡◌, map, take}
use Rattle.type_walks.specs.declared.replacing.Replace.{Replace}
use Rattle.type_walks.specs.Tables.{AreTold}
use Rattle.type_walks.proofs.replacing.Replacements.new.Given as goal

abbrev pub invariant-loop-replace : goal.invariant-loop-replace
invariant-loop-replace l = record {
  list : l.list ≡ take l.replace-index l.fn.by.list;
  told : AreTold l.table;
  names : l.table.names ≡ map (λ (r : Replace). r.name) l.list;
}
