use Rattle.std.proofs.Common.{nat_eq}
use Rattle.indexmap.specs.IndexMap.{get}
use Rattle.visibility.proofs.ListShown.{by_default, by_entries, empty_false, empty_true}
use Rattle.visibility.specs.Exports.{names_in}
use Rattle.visibility.specs.Projects.{sources}
use Rattle.visibility.specs.Tables.{behind_by, beneath_by, shown_below}
use Rattle.visibility.proofs.showing.chosen_exports.Goals as goal

pub returns-then-is_empty : goal.returns-then-is_empty
returns-then-is_empty c =
    let below = shown_below c.args.project.now (get nat_eq c.args.places.now) c.args.below.now c.args.group in
    by_default c.default_exports.result (behind_by c.args.names.now) (beneath_by c.args.names.now below)
    c.args.found.now (names_in c.args.skeletons.now (sources c.args.project.now c.args.group) below) c.args.numbers.now
    (empty_true c.is_empty.result c.args.found.now.entries c.is_empty.ensures c.if-is_empty.true)
    c.default_exports.ensures

pub returns-else-is_empty : goal.returns-else-is_empty
returns-else-is_empty c =
    let below = shown_below c.args.project.now (get nat_eq c.args.places.now) c.args.below.now c.args.group in
    by_entries c.entry_exports.result (behind_by c.args.names.now) (beneath_by c.args.names.now below)
    c.args.found.now (names_in c.args.skeletons.now (sources c.args.project.now c.args.group) below) c.args.numbers.now
    (empty_false c.is_empty.result c.args.found.now.entries c.is_empty.ensures c.if-is_empty.false)
    c.entry_exports.ensures
