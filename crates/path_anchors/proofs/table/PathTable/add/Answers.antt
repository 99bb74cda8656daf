use Rattle.std.proofs.Common.{◌∙◌, ◌||◌, ap₂, nat_eq}
use Rattle.path_anchors.specs.Tables.{holds}
use Rattle.path_anchors.proofs.TableLemmas.{adds-key}
use Rattle.path_anchors.proofs.table.PathTable.add.Goals as goal
use lib.Pointwise.{pointwise}

pub returns : goal.returns
returns c = λ found.
    adds-key (λ path. path.items) c.self.inside.paths.keys c.insert-2.new.self.keys c.in_ok-path.path
    c.in_ok-insert-2.ensures.keys found
    ∙ ap₂ (λ table path. holds table found || pointwise nat_eq found path) c.self.view_is c.in_ok-path.ensures.items
