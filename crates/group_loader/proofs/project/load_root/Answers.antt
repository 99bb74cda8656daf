use Rattle.std.proofs.Common.{Ok, sym, subst}
use Rattle.project_checks.specs.Whole.{Descends, IsWhole}
use Rattle.project_checks.specs.declared.progress.Progress.{Progress}
use Rattle.project_checks.proofs.Sounding.{whole_from}
use Rattle.tool_loading.specs.Projects.{reached_from}
use Rattle.group_loader.specs.Loading.{setting_at}
use Rattle.group_loader.proofs.Ending.{value_is}
use Rattle.group_loader.proofs.Whole.{described_so, description_stops, members_stop, name_stops, place_stops}
use Rattle.loader_parts.proofs.NameLengths.{root_near}
use Rattle.group_loader.proofs.project.load_root.Goals as goal

pub load_described-requires-clause-near : goal.load_described-requires-clause-near
load_described-requires-clause-near g c =
    root_near c.args.context.now.anchors.now c.args.root.now c.in_ok-name.name c.in_ok-name.ensures

pub returns-in_err-name-clause-loads : goal.returns-in_err-name-clause-loads
returns-in_err-name-clause-loads g c =
    name_stops c.args.context.now.defs.now c.args.context.now.anchors.now c.args.root.now c.from_residual.result
    c.in_err-name.field-0.0 _ c.from_residual.ensures.1 c.in_err-name.ensures

pub returns-in_err-at-clause-loads : goal.returns-in_err-at-clause-loads
returns-in_err-at-clause-loads g c =
    place_stops c.args.context.now.defs.now c.args.context.now.anchors.now c.args.root.now
    c.from_residual-in_err-at.result _ c.from_residual-in_err-at.ensures.1

pub returns-in_err-description-clause-loads : goal.returns-in_err-description-clause-loads
returns-in_err-description-clause-loads g c =
    description_stops c.args.context.now.defs.now c.args.context.now.anchors.now c.args.root.now c.in_ok-name.name
    c.in_ok-at.at c.new-loader.result.progress c.in_ok-name.ensures c.in_ok-at.ensures c.new-loader.ensures.nothing
    _ _ _ _ _ c.in_err-description.ensures.same c.from_residual-in_err-description.result
    c.in_err-description.field-0.0 c.from_residual-in_err-description.ensures.1 c.in_err-description.ensures.cause
    c.in_err-description.ensures.gives

pub returns-in_err-load_described-clause-loads : goal.returns-in_err-load_described-clause-loads
returns-in_err-load_described-clause-loads g c =
    members_stop c.args.context.now.defs.now c.args.context.now.anchors.now c.args.root.now c.in_ok-name.name
    c.in_ok-at.at c.new-loader.result.progress c.in_ok-name.ensures c.in_ok-at.ensures c.new-loader.ensures.nothing
    _ _ _ _ _ c.in_ok-description.ensures.same c.in_ok-description.description
    c.in_ok-description.ensures.cause.later c.in_ok-description.ensures.gives
    c.from_residual-in_err-load_described.result c.in_err-load_described.field-0.0 _
    c.from_residual-in_err-load_described.ensures.1 c.in_err-load_described.ensures.loads

pub returns-clause-loads : goal.returns-clause-loads
returns-clause-loads g c =
    value_is c.load_described.new.loader.progress c.into_progress.result _ _
    (λ origin work. reached_from (setting_at origin c.args.context.now.defs.now c.args.context.now.anchors.now)
    c.args.root.now work) c.into_progress.ensures
    (described_so c.args.context.now.defs.now c.args.context.now.anchors.now c.args.root.now c.in_ok-name.name
    c.in_ok-at.at c.new-loader.result.progress c.in_ok-name.ensures c.in_ok-at.ensures c.new-loader.ensures.nothing
    _ _ _ _ _ c.in_ok-description.ensures.same c.in_ok-description.description
    c.in_ok-description.ensures.cause.later c.in_ok-description.ensures.gives
    (Ok c.load_described.new.loader.progress) _ c.in_ok-load_described.ensures.loads)

pub returns-clause-whole : goal.returns-clause-whole
returns-clause-whole g c =
    let now = c.load_described.new.loader.progress in
    let goes = c.in_ok-load_described.ensures.goes in
    subst IsWhole (sym c.into_progress.ensures)
    (whole_from now goes.ready.sound
    (subst (λ (p : Progress). Descends p now) c.new-loader.ensures.nothing goes.down) goes.ready.tables.units)
