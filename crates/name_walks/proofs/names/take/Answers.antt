use Rattle.std.proofs.Common.{sym, ◌∙◌, subst}
use Rattle.semantic_objects.specs.Symbols.{same_name}
use Rattle.realisation.specs.Names.{is_listed}
use Rattle.type_walks.proofs.Imaging.{on_ok}
use Rattle.name_walks.specs.Noting.{Goes}
use Rattle.name_walks.specs.Places.{place_names}
use Rattle.name_walks.proofs.Notes.{skipped, parts_done}
use Rattle.name_walks.proofs.Once.{tells_names}
use Rattle.name_walks.proofs.names.take.Goals as goal

pub returns-in-Some-clause-goes : goal.returns-in-Some-clause-goes
returns-in-Some-clause-goes c = subst (λ s. Goes is_listed (place_names c.args.graph.now.items) s
    c.args.table.now.names c.args.table.now.names c.args.done.now c.args.done.now c.args.steps.now c.args.steps.now)
    (sym c.in-Enter.is)
    (skipped same_name is_listed tells_names (place_names c.args.graph.now.items) c.args.table.now.names
    c.args.done.now c.args.steps.now c.in-Enter.place c.in-Some.field-0 (sym c.of.ensures ∙ c.in-Some.is))

pub returns-in-Leave-clause-goes : goal.returns-in-Leave-clause-goes
returns-in-Leave-clause-goes c = on_ok c.set.result c.set.ensures
    (λ h. subst (λ s. Goes is_listed (place_names c.args.graph.now.items) s c.args.table.now.names
    c.args.table.now.names c.args.done.now c.set.new.self c.args.steps.now c.args.steps.now) (sym c.in-Leave.is)
    (parts_done same_name is_listed tells_names (place_names c.args.graph.now.items) c.args.table.now.names
    c.args.done.now c.set.new.self c.args.steps.now c.in-Leave.place c.in-Leave.place h))
