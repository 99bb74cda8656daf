use Rattle.std.proofs.Common.{arith}
use Rattle.std.proofs.lemmas.Grind.{common_steps}
use Rattle.bin_formats.specs.Format.{IsSpot}
use Rattle.bin_formats.proofs.Items.{more_fit, all_fit}
use Rattle.bin_formats.proofs.write.write_spots.Goals as goal

pub loop-spot-preserved : goal.loop-spot-preserved
loop-spot-preserved c = record {
  written = grind (arith, common_steps);
  fit = more_fit IsSpot c.args.spots.now _ c.spot-item.result c.loop-spot-test.true c.spot-item.is
      c.loop-spot.invariant.fit c.in_ok-write_spot.ensures.fits;
}

pub returns-clause-fit : goal.returns-clause-fit
returns-clause-fit c = all_fit IsSpot c.args.spots.now _ c.loop-spot-test.false c.loop-spot.invariant.fit
