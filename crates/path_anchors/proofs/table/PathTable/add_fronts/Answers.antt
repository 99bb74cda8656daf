use Rattle.std.proofs.Common.{arith, refl}
use Rattle.path_anchors.proofs.TableLemmas.{adding-on, adding-end, on_ok}
use Rattle.path_anchors.proofs.table.PathTable.add_fronts.Goals as goal

pub loop-at-init : goal.loop-at-init
loop-at-init c = λ found. refl

pub loop-at-preserved : goal.loop-at-preserved
loop-at-preserved c =
    adding-on c.args.self.now c.loop-at.self c.add_before.new.self c.args.path.now c.loop-at.at (omega arith)
    c.in_ok-add_before.ensures c.loop-at.invariant

pub returns : goal.returns
returns c =
    on_ok c.add.result
    (λ adds. adding-end c.args.self.now c.loop-at.self c.add.new.self c.args.path.now c.loop-at.at c.loop-at-test.false
    adds c.loop-at.invariant)
    c.add.ensures
