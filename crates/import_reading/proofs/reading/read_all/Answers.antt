use Rattle.std.proofs.Common.{refl, subst, List}
use Rattle.std.proofs.lemmas.List.{take_all}
use Rattle.cm_base.specs.declared.record.Given.{Given}
use Rattle.sml_modules.proofs.Keeping.{extends_self, extends_then}
use Rattle.imported_interfaces.specs.Imported.{no_imports}
use Rattle.import_reading.specs.Reading.{AreAllRead}
use Rattle.import_reading.proofs.Following.{all_more, refused_at}
use Rattle.import_reading.proofs.reading.read_all.Goals as goal

pub loop-given-init : goal.loop-given-init
loop-given-init c = record {
  extends = extends_self c.args.graph.now;
  restored = c.requires;
  reads = record { made = no_imports; is = refl; are = c.in_ok-read.ensures c.args.graph.now.items };
}

pub read_one-requires-clause-read : goal.read_one-requires-clause-read
read_one-requires-clause-read c = c.loop-given.invariant.reads.are.kept

pub loop-given-preserved : goal.loop-given-preserved
loop-given-preserved c = record {
  extends = extends_then c.args.graph.now c.loop-given.graph c.read_one.new.graph c.loop-given.invariant.extends
      c.read_one.ensures.extends;
  restored = c.read_one.ensures.restored;
  reads = all_more c.args.unit.now c.args.imports.now c.loop-given.given-index c.given-item.result c.given-item.result
      c.loop-given.graph.items c.read_one.new.graph.items c.loop-given.read c.read_one.new.read
      c.in_ok-read_one.field-0 c.given-item.is c.loop-given-test.true c.loop-given.invariant.reads
      c.in_ok-read_one.ensures.reads c.if-not-branch.false;
}

pub returns-then-not-branch-clause-extends : goal.returns-then-not-branch-clause-extends
returns-then-not-branch-clause-extends c =
    extends_then c.args.graph.now c.loop-given.graph c.read_one.new.graph c.loop-given.invariant.extends
    c.read_one.ensures.extends

pub returns-then-not-branch-clause-reads : goal.returns-then-not-branch-clause-reads
returns-then-not-branch-clause-reads c =
    refused_at c.args.unit.now c.args.imports.now c.loop-given.given-index c.given-item.result c.given-item.result
    c.loop-given.graph.items c.read_one.new.graph.items c.loop-given.read c.read_one.new.read c.in_ok-read_one.field-0
    c.in_ok-damaged.field-0 c.given-item.is c.loop-given-test.true c.loop-given.invariant.reads
    c.in_ok-read_one.ensures.reads c.if-not-branch.true c.in_ok-damaged.ensures

pub returns-clause-reads : goal.returns-clause-reads
returns-clause-reads c =
    subst (λ (z : List Given). AreAllRead c.args.unit.now z c.loop-given.graph.items c.loop-given.read)
    (take_all c.loop-given.given-index c.args.imports.now c.loop-given-test.false) c.loop-given.invariant.reads

pub returns-in_err-read_one-clause-extends : goal.returns-in_err-read_one-clause-extends
returns-in_err-read_one-clause-extends c =
    extends_then c.args.graph.now c.loop-given.graph c.read_one.new.graph c.loop-given.invariant.extends
    c.read_one.ensures.extends

pub returns-in_err-damaged-clause-extends : goal.returns-in_err-damaged-clause-extends
returns-in_err-damaged-clause-extends c =
    extends_then c.args.graph.now c.loop-given.graph c.read_one.new.graph c.loop-given.invariant.extends
    c.read_one.ensures.extends

pub returns-in_err-read-clause-extends : goal.returns-in_err-read-clause-extends
returns-in_err-read-clause-extends c = extends_self c.args.graph.now
