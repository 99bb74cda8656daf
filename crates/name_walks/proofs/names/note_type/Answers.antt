use Rattle.env_parts.specs.Types.{con_types}
use Rattle.realisation.specs.Names.{names_in, names_in_list}
use Rattle.type_walks.proofs.Imaging.{on_ok}
use Rattle.name_walks.proofs.Going.{both_noted}
use Rattle.name_walks.proofs.names.note_type.Goals as goal

pub returns-clause-names : goal.returns-clause-names
returns-clause-names c = on_ok c.note_cons.result c.note_cons.ensures.names
    (λ h. both_noted c.args.table.now.names c.note_tree.new.table.names c.note_cons.new.table.names
    (names_in c.args.entry.now.function.body) (names_in_list (con_types c.args.entry.now.cons))
    c.in_ok-note_tree.ensures.names h)
