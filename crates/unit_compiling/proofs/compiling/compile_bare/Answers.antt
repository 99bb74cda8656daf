use Rattle.std.proofs.Common.{subst, sym}
use Rattle.sml_modules.specs.Graphs.{Graph}
use Rattle.import_reading.specs.Restored.{AreRestored}
use Rattle.import_reading.proofs.Standing.{are_cut}
use Rattle.unit_compiling.proofs.compiling.compile_bare.Goals as goal

pub compile_in-result-requires-clause-restored : goal.compile_in-result-requires-clause-restored
compile_in-result-requires-clause-restored c =
    subst (λ (g : Graph). AreRestored g.items c.args.restored.now) (sym c.in_ok-enter.ensures.ok) c.requires

pub returns-clause-restored : goal.returns-clause-restored
returns-clause-restored c =
    subst (λ (g : Graph). AreRestored g.items c.compile_in-result.new.restored) (sym c.cut.ensures)
    (are_cut c.compile_in-result.new.graph.items c.compile_in-result.new.restored c.compile_in-result.ensures.restored)
