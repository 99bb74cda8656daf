use Rattle.std.proofs.Common.{◌∙◌, sym}
use Rattle.project_checks.proofs.Homes.{homes_more}
use Rattle.project_checks.proofs.assembling.homes_of.Goals as goal

pub loop-number-preserved : goal.loop-number-preserved
loop-number-preserved c =
    homes_more c.args.units.now c.loop-number.number c.index-units-number.result c.loop-number.homes.items
    c.push.new.self.items c.loop-number-test.true (sym c.index-units-number.is) c.loop-number.invariant
    c.in_ok-push.ensures.items
