use Rattle.semantic_objects.specs.Symbols.{same_name}
use Rattle.realisation.specs.Names.{is_listed}
use Rattle.type_walks.proofs.Imaging.{on_ok}
use Rattle.name_walks.specs.Places.{place_names}
use Rattle.name_walks.proofs.Notes.{whole_noted}
use Rattle.name_walks.proofs.Once.{tells_names}
use Rattle.name_walks.proofs.names.open.Goals as goal

pub returns-then-has_env-clause-goes : goal.returns-then-has_env-clause-goes
returns-then-has_env-clause-goes c = on_ok c.open_env.result c.open_env.ensures
    (λ h. h c.args.table.now.names c.args.done.now)

pub returns-in_ok-note_entry-clause-goes : goal.returns-in_ok-note_entry-clause-goes
returns-in_ok-note_entry-clause-goes c = on_ok c.set.result c.set.ensures
    (λ s. whole_noted same_name is_listed tells_names (place_names c.args.graph.now.items) c.args.table.now.names
    c.note_entry.new.table.names c.args.done.now c.set.new.self c.args.steps.now c.args.place c.args.place
    c.in_ok-note_entry.ensures.names s)
