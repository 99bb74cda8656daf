use Rattle.std.proofs.Common.{nat_eq, subst}
use Rattle.indexmap.specs.IndexMap.{get}
use Rattle.cm_base.specs.Calls.{Gives}
use Rattle.visibility.proofs.ListShown.{chosen_refused, chosen_shown}
use Rattle.visibility.specs.Tables.{behind_by, beneath_by, shown_below}
use Rattle.visibility.proofs.showing.shown.Goals as goal

pub returns-in_err-numbers : goal.returns-in_err-numbers
returns-in_err-numbers c =
    let below = shown_below c.args.project.now (get nat_eq c.args.places.now) c.args.below.now c.args.group in
    chosen_refused c.args.project.now c.args.skeletons.now c.args.defs.now (get nat_eq c.args.places.now)
    c.args.below.now (behind_by c.args.names.now) (beneath_by c.args.names.now below) c.args.group c.args.found.now
    c.in_ok-there.there c.sources-units.result.now c.members.result.now c.in_err-numbers.field-0.0
    c.from_residual-in_err-numbers.result c.in_ok-there.ensures c.sources-units.ensures c.members.ensures
    c.from_residual-in_err-numbers.ensures.1 c.in_err-numbers.ensures

pub returns : goal.returns
returns c =
    let below = shown_below c.args.project.now (get nat_eq c.args.places.now) c.args.below.now c.args.group in
    subst (Gives c.chosen_exports.result)
    (chosen_shown c.args.project.now c.args.skeletons.now c.args.defs.now (get nat_eq c.args.places.now)
    c.args.below.now (behind_by c.args.names.now) (beneath_by c.args.names.now below) c.args.group c.args.found.now
    c.in_ok-there.there c.sources-units.result.now c.members.result.now c.in_ok-numbers.numbers c.as_slice.result.now
    c.in_ok-there.ensures c.sources-units.ensures c.members.ensures c.in_ok-numbers.ensures c.as_slice.ensures)
    c.chosen_exports.ensures
