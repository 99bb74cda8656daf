use Rattle.loader_parts.proofs.Promises.{is_within, has_sources}
use Rattle.group_loader.proofs.Whole.{anchors_stop, checks_stop, groups_stop, project_done}
use Rattle.group_loader.proofs.project.load_project.Goals as goal

pub returns-in_err-anchors-clause-loads : goal.returns-in_err-anchors-clause-loads
returns-in_err-anchors-clause-loads g c =
    anchors_stop c.args.defs.now c.args.root.now c.args.freezing _ _ _ _ _ c.in_err-anchors.ensures.same
    c.from_residual.result c.in_err-anchors.field-0.0 c.from_residual.ensures.1 c.in_err-anchors.ensures.cause
    c.in_err-anchors.ensures.gives

pub returns-in_err-progress-clause-loads : goal.returns-in_err-progress-clause-loads
returns-in_err-progress-clause-loads g c =
    groups_stop c.args.defs.now c.args.root.now c.args.freezing _ _ _ _ _ c.in_ok-anchors.ensures.same
    c.in_ok-anchors.anchors c.in_ok-anchors.ensures.cause.later c.in_ok-anchors.ensures.gives
    c.from_residual-in_err-progress.result c.in_err-progress.field-0.0 _ c.from_residual-in_err-progress.ensures.1
    c.in_err-progress.ensures.loads

pub returns-in_err-checked-clause-loads : goal.returns-in_err-checked-clause-loads
returns-in_err-checked-clause-loads g c =
    checks_stop c.args.defs.now c.args.root.now c.args.freezing _ _ _ _ _ c.in_ok-anchors.ensures.same
    c.in_ok-anchors.anchors c.in_ok-anchors.ensures.cause.later c.in_ok-anchors.ensures.gives
    c.in_ok-progress.progress _ c.in_ok-progress.ensures.loads c.from_residual-in_err-checked.result
    c.in_err-checked.field-0.0 c.from_residual-in_err-checked.ensures.1 c.in_err-checked.ensures.gives

pub returns-clause-loads : goal.returns-clause-loads
returns-clause-loads g c =
    project_done c.args.defs.now c.args.root.now c.args.freezing _ _ _ _ _ c.in_ok-anchors.ensures.same
    c.in_ok-anchors.anchors c.in_ok-anchors.ensures.cause.later c.in_ok-anchors.ensures.gives
    c.in_ok-progress.progress _ c.in_ok-progress.ensures.loads c.in_ok-checked.field-0 c.in_ok-checked.ensures.gives

pub returns-clause-few : goal.returns-clause-few
returns-clause-few g c =
    is_within c.args.freezing c.in_ok-progress.progress c.in_ok-checked.field-0 c.in_ok-checked.ensures.gives
    c.in_ok-progress.ensures.whole.few c.in_ok-progress.ensures.few

pub returns-clause-sources : goal.returns-clause-sources
returns-clause-sources g c =
    has_sources c.args.freezing c.in_ok-progress.progress c.in_ok-checked.field-0 c.in_ok-checked.ensures.gives
    c.in_ok-progress.ensures.sources
