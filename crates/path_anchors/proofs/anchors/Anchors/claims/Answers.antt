use Rattle.std.proofs.Common.{◌∙◌, ap}
use Rattle.std.specs.List.{list_any}
use Rattle.path_anchors.specs.Names.{begins_with, is_claimed, parts_of}
use Rattle.path_anchors.proofs.TableLemmas.{claimed}
use Rattle.path_anchors.proofs.anchors.Anchors.claims.Goals as goal

pub returns : goal.returns
returns c =
    let directories = c.self.inside.directories in
    c.has_front.ensures
    ∙ ap (λ path. list_any (λ front. begins_with (parts_of path) (parts_of front)) directories) c.as_bytes.ensures
    ∙ claimed c.self.inside.table.entries directories c.self.inside.fronts c.args.path.now c.self.invariant
    ∙ ap (λ anchors. is_claimed anchors c.args.path.now) c.self.view_is
