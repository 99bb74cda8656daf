use Rattle.std.proofs.Common.{arith}
use Rattle.std.proofs.lemmas.Grind.{common_steps}
use Rattle.bin_formats.specs.Format.{IsSpot}
use Rattle.bin_formats.proofs.Items.{more_fit, all_fit}
use Rattle.bin_formats.proofs.write.write_needs.Goals as goal

pub loop-need-preserved : goal.loop-need-preserved
loop-need-preserved c = record {
  written = grind (arith, common_steps);
  fit = more_fit (λ need. IsSpot need.spot) c.args.needs.now _ c.need-item.result c.loop-need-test.true
      c.need-item.is c.loop-need.invariant.fit c.in_ok-write_need.ensures.fits;
}

pub returns-clause-fit : goal.returns-clause-fit
returns-clause-fit c = all_fit
    (λ need. IsSpot need.spot) c.args.needs.now _ c.loop-need-test.false c.loop-need.invariant.fit
