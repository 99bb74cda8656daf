use Rattle.std.proofs.Common.{refl}
use Rattle.tool_deriving.specs.Deriving.{tool_state}
use Rattle.member_deriving.proofs.Giving.{gives_text, reworded, stops_after, stops_before, stops_within, untouched, wants_memory}
use Rattle.member_deriving.proofs.sources.derive_source.Goals as goal

pub returns-in_err-within_source-clause-tool : goal.returns-in_err-within_source-clause-tool
returns-in_err-within_source-clause-tool g c =
    untouched c.args.at c.args.tools.now _ c.requires (λ tool.
    stops_before (tool_state (g.T.Tool.class tool) (g.T.Tool.rule tool) (g.T.Tool.ran tool) (g.T.Tool.faults tool))
    c.args.unit.now c.args.input.now c.from_residual.result c.in_err-within_source.field-0.0 _ _
    c.from_residual.ensures.1 c.in_err-within_source.ensures.gives refl)

pub returns-then-as_bytes-gt-SOURCE-clause-tool : goal.returns-then-as_bytes-gt-SOURCE-clause-tool
returns-then-as_bytes-gt-SOURCE-clause-tool g c =
    untouched c.args.at c.args.tools.now _ c.requires (λ tool.
    wants_memory (tool_state (g.T.Tool.class tool) (g.T.Tool.rule tool) (g.T.Tool.ran tool) (g.T.Tool.faults tool))
    c.args.unit.now c.args.input.now _ _ refl)

pub returns-in_err-source-clause-tool : goal.returns-in_err-source-clause-tool
returns-in_err-source-clause-tool g c =
    reworded c.args.at c.args.tools.now c.derive.new.tools _ _ c.in_err-source.ensures.tool (λ before after by.
    stops_within (tool_state (g.T.Tool.class before) (g.T.Tool.rule before) (g.T.Tool.ran before) (g.T.Tool.faults before))
    (tool_state (g.T.Tool.class after) (g.T.Tool.rule after) (g.T.Tool.ran after) (g.T.Tool.faults after))
    c.args.unit.now c.args.input.now _ _ c.from_residual-in_err-source.result c.in_err-source.field-0.0
    c.from_residual-in_err-source.ensures.1 c.in_ok-within_source.ensures.gives by)

pub returns-in_err-within_source-2-clause-tool : goal.returns-in_err-within_source-2-clause-tool
returns-in_err-within_source-2-clause-tool g c =
    reworded c.args.at c.args.tools.now c.derive.new.tools _ _ c.in_ok-source.ensures.tool (λ before after by.
    stops_after (tool_state (g.T.Tool.class before) (g.T.Tool.rule before) (g.T.Tool.ran before) (g.T.Tool.faults before))
    (tool_state (g.T.Tool.class after) (g.T.Tool.rule after) (g.T.Tool.ran after) (g.T.Tool.faults after))
    c.args.unit.now c.args.input.now _ _ c.in_ok-source.source c.from_residual-in_err-within_source-2.result
    c.in_err-within_source-2.field-0.0 c.from_residual-in_err-within_source-2.ensures.1
    c.in_ok-within_source.ensures.gives by c.in_err-within_source-2.ensures.gives)

pub returns-clause-tool : goal.returns-clause-tool
returns-clause-tool g c =
    reworded c.args.at c.args.tools.now c.derive.new.tools _ _ c.in_ok-source.ensures.tool (λ before after by.
    gives_text (tool_state (g.T.Tool.class before) (g.T.Tool.rule before) (g.T.Tool.ran before) (g.T.Tool.faults before))
    (tool_state (g.T.Tool.class after) (g.T.Tool.rule after) (g.T.Tool.ran after) (g.T.Tool.faults after))
    c.args.unit.now c.args.input.now _ _ c.in_ok-source.source c.in_ok-within_source.ensures.gives by
    c.in_ok-within_source-2.ensures.gives)
