use Rattle.std.proofs.Common.{◌∙◌, sym}
use Rattle.indexmap.specs.IndexMap.{get}
use Rattle.cm_conditions.specs.Tables.{same_name}
use Rattle.visibility.specs.Exports.{spots_in}
use Rattle.visibility.proofs.Defining.{spot_fits}
use Rattle.visibility.proofs.definers.add_spots.Goals as goal

pub loop-spot-preserved : goal.loop-spot-preserved
loop-spot-preserved c =
    spot_fits (get same_name c.loop-spot.table) (get same_name c.note.new.table) c.args.unit c.args.spots.now
    c.loop-spot.spot-index c.spot-item.result (get same_name c.args.table.now) (spots_in c.args.unit c.args.spots.now)
    c.loop-spot-test.true c.spot-item.is (sym c.in_ok-note.ensures.right ∙ c.if-not-branch.false)
    (c.in_ok-note.ensures.noted c.if-not-branch.false) c.loop-spot.invariant
