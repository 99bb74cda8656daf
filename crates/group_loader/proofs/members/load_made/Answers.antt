use Rattle.std.proofs.Common.{Ok, Err}
use Rattle.cm_base.specs.Calls.{Gives}
use Rattle.project_checks.specs.declared.progress.Progress.{Progress}
use Rattle.project_loading.specs.Projects.{with_source}
use Rattle.tool_deriving.specs.Deriving.{tool_use}
use Rattle.member_deriving.specs.Sources.{source_by, texts_over_stores}
use Rattle.loader_parts.proofs.GoingOn.{source_goes}
use Rattle.tool_loading.specs.Projects.{without_options}
use Rattle.group_loader.specs.Answers.{of_member}
use Rattle.group_loader.proofs.Ending.{derives}
use Rattle.group_loader.proofs.Making.{added_stops, input_stops, left_gives, made, name_stops, rule_is, source_stops}
use Rattle.group_loader.proofs.Nearness.{tool_member_short}
use Rattle.group_loader.proofs.members.load_made.Goals as goal

pub add_source-requires-clause-named : goal.add_source-requires-clause-named
add_source-requires-clause-named g c =
    tool_member_short c.args.context.now.anchors.now c.args.holder.now.name.now c.args.member.now c.in_ok-name.name
    c.requires.near c.in_ok-name.ensures

pub returns-in_err-name-clause-loads : goal.returns-in_err-name-clause-loads
returns-in_err-name-clause-loads g c = λ rule named.
    name_stops c.args.context.now.defs.now c.args.context.now.anchors.now c.args.holder.now.number
    c.args.holder.now.name.now c.args.member.now c.args.maker.now.class.now rule c.args.loader.now.progress
    c.from_residual.result c.in_err-name.field-0.0 c.args.loader.now.progress _ c.from_residual.ensures.1
    c.in_err-name.ensures

pub returns-in_err-input-clause-loads : goal.returns-in_err-input-clause-loads
returns-in_err-input-clause-loads g c = λ rule named.
    input_stops c.args.context.now.defs.now c.args.context.now.anchors.now c.args.holder.now.number
    c.args.holder.now.name.now c.args.member.now c.args.maker.now.class.now rule c.args.loader.now.progress
    c.in_ok-name.name c.in_ok-name.ensures _ _ _ _ _ c.in_err-input.ensures.same
    c.from_residual-in_err-input.result c.in_err-input.field-0.0 c.args.loader.now.progress
    c.from_residual-in_err-input.ensures.1 c.in_err-input.ensures.cause c.in_err-input.ensures.gives

pub returns-in_err-source-clause-loads : goal.returns-in_err-source-clause-loads
returns-in_err-source-clause-loads g c = λ rule named.
    source_stops c.args.context.now.defs.now c.args.context.now.anchors.now c.args.holder.now.number
    c.args.holder.now.name.now c.args.member.now c.args.maker.now.class.now rule c.args.loader.now.progress
    c.in_ok-name.name c.in_ok-name.ensures _ _ _ _ _ c.in_ok-input.ensures.same c.in_ok-input.input
    c.in_ok-input.ensures.cause.later c.in_ok-input.ensures.gives
    c.from_residual-in_err-source.result (of_member c.in_err-source.field-0.0) c.args.loader.now.progress _
    c.from_residual-in_err-source.ensures.1
    (derives _ _ _ _ _ _
    (λ work. source_by texts_over_stores
    (tool_use c.args.maker.now.class.now rule c.in_ok-name.name c.in_ok-input.input) work)
    (Err c.in_err-source.field-0.0) c.in_err-source.ensures.folder c.in_err-source.ensures.tends
    (λ origin work here. c.in_err-source.ensures.steps origin work rule
    (rule_is g.T.Tool.class g.T.Tool.rule c.args.tools.now c.args.member.now c.args.maker.now.place
    c.args.maker.now.class.now rule c.requires.maker named) here))

pub returns-in_err-add_source-clause-loads : goal.returns-in_err-add_source-clause-loads
returns-in_err-add_source-clause-loads g c = λ rule named.
    let old = c.args.loader.now.progress in
    let stopped : Gives {A = Progress} (Err c.in_err-add_source.field-0.0)
    (with_source c.args.holder.now.number c.in_ok-name.name without_options c.in_ok-source.source old) =
    left_gives c.in_err-add_source.field-0.0 _ c.add_source.new.self.progress c.in_err-add_source.ensures.gives in
    added_stops c.args.context.now.defs.now c.args.context.now.anchors.now c.args.holder.now.number
    c.args.holder.now.name.now c.args.member.now c.args.maker.now.class.now rule c.args.loader.now.progress
    c.in_ok-name.name c.in_ok-name.ensures _ _ _ _ _ c.in_ok-input.ensures.same c.in_ok-input.input
    c.in_ok-input.ensures.cause.later c.in_ok-input.ensures.gives c.in_ok-source.source _
    (derives _ _ _ _ _ _
    (λ work. source_by texts_over_stores
    (tool_use c.args.maker.now.class.now rule c.in_ok-name.name c.in_ok-input.input) work)
    (Ok c.in_ok-source.source) c.in_ok-source.ensures.folder c.in_ok-source.ensures.tends
    (λ origin work here. c.in_ok-source.ensures.steps origin work rule
    (rule_is g.T.Tool.class g.T.Tool.rule c.args.tools.now c.args.member.now c.args.maker.now.place
    c.args.maker.now.class.now rule c.requires.maker named) here))
    c.from_residual-in_err-add_source.result c.in_err-add_source.field-0.0 c.add_source.new.self.progress
    c.from_residual-in_err-add_source.ensures.1 stopped

pub returns-clause-loads : goal.returns-clause-loads
returns-clause-loads g c = λ rule named.
    made c.args.context.now.defs.now c.args.context.now.anchors.now c.args.holder.now.number
    c.args.holder.now.name.now c.args.member.now c.args.maker.now.class.now rule c.args.loader.now.progress
    c.in_ok-name.name c.in_ok-name.ensures _ _ _ _ _ c.in_ok-input.ensures.same c.in_ok-input.input
    c.in_ok-input.ensures.cause.later c.in_ok-input.ensures.gives c.in_ok-source.source _
    (derives _ _ _ _ _ _
    (λ work. source_by texts_over_stores
    (tool_use c.args.maker.now.class.now rule c.in_ok-name.name c.in_ok-input.input) work)
    (Ok c.in_ok-source.source) c.in_ok-source.ensures.folder c.in_ok-source.ensures.tends
    (λ origin work here. c.in_ok-source.ensures.steps origin work rule
    (rule_is g.T.Tool.class g.T.Tool.rule c.args.tools.now c.args.member.now c.args.maker.now.place
    c.args.maker.now.class.now rule c.requires.maker named) here))
    c.add_source.new.self.progress c.in_ok-add_source.ensures.gives

pub returns-clause-goes : goal.returns-clause-goes
returns-clause-goes g c =
    source_goes c.args.loader.now c.add_source.new.self c.args.holder.now.number c.in_ok-name.name
    without_options c.in_ok-source.source c.requires.ready c.requires.going c.in_ok-add_source.ensures.tables
    c.in_ok-add_source.ensures.gives
