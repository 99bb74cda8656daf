use Rattle.std.proofs.Common.{refl, subst, List}
use Rattle.cm_base.specs.declared.record.Given.{Given}
use Rattle.sml_modules.proofs.Keeping.{extends_then}
use Rattle.import_reading.specs.Reading.{AreAllRead}
use Rattle.import_reading.proofs.Following.{top_read}
use Rattle.import_reading.proofs.Standing.{are_still}
use Rattle.import_reading.proofs.reading.read_imports.Goals as goal

pub add_unit-requires : goal.add_unit-requires
add_unit-requires c = c.in_ok-read.ensures.reads.are.there

pub returns-clause-extends : goal.returns-clause-extends
returns-clause-extends c =
    extends_then c.args.graph.now c.read_all.new.graph c.add_unit.new.graph c.read_all.ensures.extends
    c.add_unit.ensures.extends

pub returns-clause-restored : goal.returns-clause-restored
returns-clause-restored c =
    are_still c.read_all.new.graph c.add_unit.new.graph c.read_all.new.restored c.add_unit.ensures.extends
    c.read_all.ensures.restored

pub returns-clause-reads : goal.returns-clause-reads
returns-clause-reads c =
    top_read c.args.unit.now c.args.imports.now c.read_all.new.graph c.add_unit.new.graph c.in_ok-read.read
    c.in_ok-read.read.tables c.in_ok-place.place
    (subst (λ (z : List Given). AreAllRead c.args.unit.now z c.read_all.new.graph.items c.in_ok-read.read)
    c.as_slice.ensures c.in_ok-read.ensures.reads)
    refl c.in_ok-place.ensures.adds

pub returns-in_err-place-clause-extends : goal.returns-in_err-place-clause-extends
returns-in_err-place-clause-extends c =
    extends_then c.args.graph.now c.read_all.new.graph c.add_unit.new.graph c.read_all.ensures.extends
    c.add_unit.ensures.extends

pub returns-in_err-place-clause-restored : goal.returns-in_err-place-clause-restored
returns-in_err-place-clause-restored c =
    are_still c.read_all.new.graph c.add_unit.new.graph c.read_all.new.restored c.add_unit.ensures.extends
    c.read_all.ensures.restored
