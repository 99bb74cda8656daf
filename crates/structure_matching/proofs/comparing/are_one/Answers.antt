use Rattle.variable_names.proofs.Naming.{closed_named, answers_named}
use Rattle.structure_matching.proofs.comparing.are_one.Goals as goal

pub compare-same-requires : goal.compare-same-requires
compare-same-requires c = record {
  left = closed_named c.in_ok-this.this.body c.args.left.now c.in_ok-this.ensures.body c.requires.left;
  right = closed_named c.in_ok-that.that.body c.args.right.now c.in_ok-that.ensures.body c.requires.right;
}

pub returns-clause-same : goal.returns-clause-same
returns-clause-same c =
    answers_named c.compare-same.result c.in_ok-this.this.body c.in_ok-that.that.body c.args.left.now c.args.right.now
    c.in_ok-this.ensures.body c.in_ok-that.ensures.body c.in_ok-this.ensures.apart c.in_ok-that.ensures.apart
    c.compare-same.ensures.same
