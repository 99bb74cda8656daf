use Rattle.std.proofs.Common.{◌∙◌, ℕ, List, Err, subst}
use Rattle.path_anchors.specs.Names.{Resolves, resolved}
use Rattle.path_anchors.specs.declared.fault.PathFault.{PathFault}
use Rattle.project_loading.proofs.BasisAnchor.{is_bound, is_unbound}
use Rattle.project_loading.proofs.found.is_basis_bound.Goals as goal

pub returns-in-Ok : goal.returns-in-Ok
returns-in-Ok c =
    is_bound c.args.anchors.now c.from_vec-top.result c.in_ok-path.path (c.from_vec-top.ensures ∙ c.new.ensures.items)
    c.in_ok-path.ensures c.in-Ok.field-0 c.in-Ok.ensures

pub returns-in-Err-Number : goal.returns-in-Err-Number
returns-in-Err-Number c =
    is_unbound c.args.anchors.now c.from_vec-top.result c.in_ok-path.path
    (c.from_vec-top.ensures ∙ c.new.ensures.items) c.in_ok-path.ensures c.in-Err-Number.field-0-0
    (subst (λ (e : PathFault). Resolves {A = List ℕ} (Err e)
    (resolved c.args.anchors.now c.from_vec-top.result c.in_ok-path.path)) c.in-Err-Number.field-0-is
    c.in-Err-Number.ensures)
