use Rattle.std.proofs.Common.{◌∙◌, ap, sym}
use Rattle.path_anchors.specs.Names.{is_claimed}
use Rattle.path_anchors.specs.Pathconfig.{is_nested}
use Rattle.path_anchors.specs.Tables.{holds}
use Rattle.path_anchors.proofs.TableLemmas.{nested-then, nested-else}
use Rattle.path_anchors.proofs.anchors.Anchors.touches.Goals as goal

pub returns-then-claims : goal.returns-then-claims
returns-then-claims c =
    c.if-claims.true
    ∙ nested-then c.self.inside.table.entries c.self.inside.directories c.self.inside.fronts c.args.path.now c.claims.result
    c.self.invariant c.if-claims.true
    (c.claims.ensures ∙ sym (ap (λ anchors. is_claimed anchors c.args.path.now) c.self.view_is))
    ∙ ap (λ anchors. is_nested anchors c.args.path.now) c.self.view_is

pub returns-else-claims : goal.returns-else-claims
returns-else-claims c =
    c.has.ensures ∙ ap (holds c.self.inside.fronts) c.as_bytes.ensures
    ∙ nested-else c.self.inside.table.entries c.self.inside.directories c.self.inside.fronts c.args.path.now c.claims.result
    c.self.invariant c.if-claims.false
    (c.claims.ensures ∙ sym (ap (λ anchors. is_claimed anchors c.args.path.now) c.self.view_is))
    ∙ ap (λ anchors. is_nested anchors c.args.path.now) c.self.view_is
