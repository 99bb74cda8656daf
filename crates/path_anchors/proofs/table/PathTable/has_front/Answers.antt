use Rattle.std.proofs.Common.{◌∙◌, arith}
use Rattle.path_anchors.proofs.TableLemmas.{seeking-found, seeking-on, seeking-end}
use Rattle.path_anchors.proofs.table.PathTable.has_front.Goals as goal

pub returns-then-has_before : goal.returns-then-has_before
returns-then-has_before c =
    seeking-found c.args.self.now c.args.path.now c.loop-at.at c.has_before.result (omega arith) c.if-has_before.true
    c.has_before.ensures c.loop-at.invariant

pub loop-at-preserved : goal.loop-at-preserved
loop-at-preserved c =
    seeking-on c.args.self.now c.args.path.now c.loop-at.at c.has_before.result (omega arith) c.if-has_before.false
    c.has_before.ensures c.loop-at.invariant

pub returns : goal.returns
returns c = c.has_quickly.ensures ∙ seeking-end c.args.self.now c.args.path.now c.loop-at.at (omega arith) c.loop-at.invariant
