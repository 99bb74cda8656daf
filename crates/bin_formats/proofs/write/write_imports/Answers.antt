use Rattle.std.proofs.Common.{arith}
use Rattle.std.proofs.lemmas.Grind.{common_steps}
use Rattle.bin_formats.specs.Format.{IsImport}
use Rattle.bin_formats.proofs.Items.{more_fit, all_fit}
use Rattle.bin_formats.proofs.write.write_imports.Goals as goal

pub loop-import-preserved : goal.loop-import-preserved
loop-import-preserved c = record {
  written = grind (arith, common_steps);
  fit = more_fit IsImport c.args.imports.now _ c.import-item.result c.loop-import-test.true c.import-item.is
      c.loop-import.invariant.fit c.in_ok-write_import.ensures.fits;
}

pub returns-clause-fit : goal.returns-clause-fit
returns-clause-fit c = all_fit IsImport c.args.imports.now _ c.loop-import-test.false c.loop-import.invariant.fit
