use Rattle.std.proofs.Common.{◌≡◌, drop}
use Rattle.env_parts.specs.Types.{con_types}
use Rattle.realisation.specs.Names.{names_in_list, is_listed}
use Rattle.type_walks.specs.Tables.{AreTold}
use Rattle.name_walks.specs.Noting.{noted_all}
use Rattle.name_walks.proofs.names.note_cons.Given as goal

abbrev pub invariant-loop-con : goal.invariant-loop-con
invariant-loop-con l = record {
  told : AreTold l.table;
  names : noted_all is_listed l.table.names (names_in_list (con_types (drop l.con-index l.fn.cons)))
      ≡ noted_all is_listed l.fn.table.names (names_in_list (con_types l.fn.cons));
}
