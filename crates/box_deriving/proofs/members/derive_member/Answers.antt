use Rattle.tool_deriving.specs.Deriving.{tool_state}
use Rattle.box_deriving.proofs.Places.{within}
use Rattle.box_deriving.proofs.Stepping.{steps, tends}
use Rattle.box_deriving.proofs.members.derive_member.Goals as goal

pub derive_source-requires : goal.derive_source-requires
derive_source-requires g c = within c.args.at c.args.tools.now c.requires.place.tool c.requires.place.there

pub returns-clause-tends : goal.returns-clause-tends
returns-clause-tends g c =
    tends (λ tool. tool_state (g.T.Tool.class tool) (g.T.Tool.rule tool) (g.T.Tool.ran tool) (g.T.Tool.faults tool))
    c.args.at c.args.tools.now c.derive_source.new.tools c.args.unit.now c.args.input.now c.derive_source.result _ _
    c.derive_source.ensures.tool

pub returns-clause-steps : goal.returns-clause-steps
returns-clause-steps g c = λ origin work rule named here.
    steps (λ tool. tool_state (g.T.Tool.class tool) (g.T.Tool.rule tool) (g.T.Tool.ran tool) (g.T.Tool.faults tool))
    c.args.at c.args.tools.now c.derive_source.new.tools c.args.unit.now c.args.input.now c.derive_source.result _ _
    c.derive_source.ensures.tool c.args.class.now rule c.requires named origin work here
