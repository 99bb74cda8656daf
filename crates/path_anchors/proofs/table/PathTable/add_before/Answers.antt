use Rattle.std.proofs.lemmas.Bool.{eq-eqb}
use Rattle.path_anchors.proofs.TableLemmas.{adds-here, on_ok}
use Rattle.path_anchors.proofs.table.PathTable.add_before.Goals as goal

pub returns : goal.returns
returns c =
    on_ok c.add.result
    (adds-here c.args.self.now c.add.new.self c.args.path.now c.args.at (eq-eqb _ _ c.if-path-at-ne47.false))
    c.add.ensures
