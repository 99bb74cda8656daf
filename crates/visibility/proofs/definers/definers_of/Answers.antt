use Rattle.indexmap.specs.IndexMap.{get}
use Rattle.cm_conditions.specs.Tables.{same_name}
use Rattle.visibility.specs.Exports.{defined_spots}
use Rattle.visibility.proofs.Defining.{none_found}
use Rattle.visibility.proofs.UnitSpots.{all_added, unit_added, unit_refused}
use Rattle.visibility.proofs.definers.definers_of.Goals as goal

pub returns-in_err-add_source : goal.returns-in_err-add_source
returns-in_err-add_source c =
    unit_refused c.args.project.now c.args.skeletons.now c.args.units.now (get same_name c.loop-unit.table)
    (get same_name c.add_source.new.table) c.loop-unit.unit-index c.in_err-add_source.field-0.0 c.from_residual.result
    c.from_residual.ensures.1 c.loop-unit-test.true c.in_err-add_source.ensures c.loop-unit.invariant

pub loop-unit-preserved : goal.loop-unit-preserved
loop-unit-preserved c =
    unit_added c.args.project.now c.args.skeletons.now (get same_name c.loop-unit.table)
    (get same_name c.add_source.new.table) c.args.units.now c.loop-unit.unit-index none_found
    (defined_spots c.args.skeletons.now c.args.units.now) c.loop-unit-test.true c.in_ok-add_source.ensures
    c.loop-unit.invariant

pub returns : goal.returns
returns c =
    all_added c.args.skeletons.now (get same_name c.loop-unit.table) c.args.units.now c.loop-unit.unit-index
    c.loop-unit-test.false c.loop-unit.invariant
