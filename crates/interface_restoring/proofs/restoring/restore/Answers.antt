use Rattle.std.proofs.Common.{refl, ◌∙◌}
use Rattle.sml_modules.specs.Graphs.{top_at}
use Rattle.sml_modules.proofs.Keeping.{keeps, cut_back, extends_self, extends_same}
use Rattle.interface_restoring.proofs.Reading.{refused}
use Rattle.interface_restoring.proofs.restoring.restore.Goals as goal

pub returns-in-Ok-clause-restores : goal.returns-in-Ok-clause-restores
returns-in-Ok-clause-restores c = record {
  top = top_at c.read.new.graph c.in-Ok.top;
  gives = record {
    there = c.in-Ok.ensures.reads.there;
    stands = refl;
    keeps = keeps c.args.graph.now c.read.new.graph c.read.ensures.extends;
    home = c.read.ensures.extends.home;
    made = c.read.ensures.extends.made;
  };
  is = c.in-Ok.ensures.reads.is;
}

pub returns-in-Err-clause-restores : goal.returns-in-Err-clause-restores
returns-in-Err-clause-restores c =
    refused c.args.home.now c.args.bytes.now c.args.graph.now c.read.new.graph c.cut.new.self c.in-Err.fault
    c.in-Err.ensures.reads
    (c.cut.ensures ∙ cut_back c.args.graph.now c.read.new.graph c.len-before.result c.read.ensures.extends
    c.len-before.ensures)

pub returns-in-Err-clause-extends : goal.returns-in-Err-clause-extends
returns-in-Err-clause-extends c =
    extends_same c.args.graph.now c.args.graph.now c.cut.new.self (extends_self c.args.graph.now)
    (c.cut.ensures ∙ cut_back c.args.graph.now c.read.new.graph c.len-before.result c.read.ensures.extends
    c.len-before.ensures)
