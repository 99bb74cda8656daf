use Rattle.sml_modules.specs.Graphs.{top_at}
use Rattle.sml_modules.specs.Nodes.{top_of_tables}
use Rattle.import_reading.proofs.Using.{place_missing, names_missing, all_found}
use Rattle.import_reading.proofs.fitting.usable_place.Goals as goal

pub top_tables-requires : goal.top_tables-requires
top_tables-requires c = c.requires.restored.there

pub place_of-requires : goal.place_of-requires
place_of-requires c = c.in_ok-tables.ensures.are

pub returns-in_default-clause-finds : goal.returns-in_default-clause-finds
returns-in_default-clause-finds c =
    place_missing c.args.graph.now.items c.args.unit.now c.args.given.now.import.name
    (top_at c.args.graph.now c.args.found.now.top)
    (top_of_tables c.args.graph.now.items c.in_ok-tables.tables.now) c.args.known.now.names c.args.known.now.names
    c.in_ok-place.field-0 c.in_ok-tables.ensures.is c.in_ok-place.ensures (λ p e. c.in_default.not-Some p e)

pub returns-then-not-branch-clause-finds : goal.returns-then-not-branch-clause-finds
returns-then-not-branch-clause-finds c =
    names_missing c.args.graph.now.items c.args.unit.now c.args.given.now.import.name
    (top_at c.args.graph.now c.args.found.now.top) c.args.found.now.names c.args.known.now.names
    c.note_names.new.known.names c.in_ok-note_names.field-0 c.requires.restored.names c.in_ok-note_names.ensures.notes
    c.if-not-branch.true

pub returns-clause-finds : goal.returns-clause-finds
returns-clause-finds c =
    all_found c.args.graph.now.items c.args.unit.now c.args.given.now.import.name
    (top_at c.args.graph.now c.args.found.now.top)
    (top_of_tables c.args.graph.now.items c.in_ok-tables.tables.now) c.args.found.now.names c.args.known.now.names
    c.note_names.new.known.names c.in_ok-place.field-0 c.in-Some.place c.in_ok-note_names.field-0
    c.in_ok-tables.ensures.is c.in_ok-place.ensures c.in-Some.is c.requires.restored.names
    c.in_ok-note_names.ensures.notes c.if-not-branch.false
