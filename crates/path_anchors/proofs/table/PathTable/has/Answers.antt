use Rattle.std.proofs.Common.{◌∙◌, ap}
use Rattle.path_anchors.specs.Tables.{holds}
use Rattle.path_anchors.proofs.TableLemmas.{holds-map}
use Rattle.path_anchors.proofs.table.PathTable.has.Goals as goal

pub returns : goal.returns
returns c =
    c.contains.ensures ∙ holds-map (λ path. path.items) c.self.inside.paths.keys c.args.path.now
    ∙ ap (λ table. holds table c.args.path.now) c.self.view_is
