use Rattle.std.proofs.Common.{◌∙◌, ap, nat_eq, subst}
use Rattle.indexmap.specs.IndexMap.{get}
use Rattle.cm_base.specs.Calls.{Gives}
use Rattle.visibility.specs.Imports.{imports_in}
use Rattle.visibility.specs.Tables.{ArePlaces}
use Rattle.visibility.proofs.InProject.{imports_are, imports_tables}
use Rattle.visibility.proofs.calls.imports.Goals as goal

pub returns : goal.returns
returns c =
    let project = c.args.project.now in
    let skeletons = c.args.skeletons.now in
    let below = c.args.below.now in
    let places = get nat_eq c.in_ok-places.places in
    let group = c.group_of-group.result in
    let unit = c.args.unit in
    subst (Gives c.imports_by.result)
    (imports_tables project skeletons places below c.in_ok-names.names group unit c.in_ok-names.ensures
    ∙ imports_are project skeletons places below group unit
    (subst (ArePlaces places) c.as_slice.ensures c.in_ok-places.ensures)
    ∙ ap (λ g. imports_in project skeletons below g unit) c.group_of-group.ensures)
    c.imports_by.ensures
