use Rattle.std.proofs.Common.{ap, ◌∙◌}
use Rattle.realisation.specs.Names.{names_in, is_listed}
use Rattle.type_walks.proofs.Imaging.{on_ok}
use Rattle.name_walks.specs.Noting.{noted_all}
use Rattle.name_walks.proofs.Going.{one_noted}
use Rattle.name_walks.proofs.names.note_value.Goals as goal

pub returns-clause-names : goal.returns-clause-names
returns-clause-names c = on_ok c.note_tree.result c.note_tree.ensures.names
    (λ h. one_noted c.args.table.now.names c.note_tree.new.table.names c.args.entry.now.scheme.body
    (h ∙ ap (λ t. noted_all is_listed c.args.table.now.names (names_in t)) c.body.ensures))
