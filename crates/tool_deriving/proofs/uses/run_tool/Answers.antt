use Rattle.std.proofs.Common.{◌∙◌}
use Rattle.tool_deriving.proofs.Runs.{made_fits}
use Rattle.tool_deriving.proofs.uses.run_tool.Goals as goal

pub put_record-requires : goal.put_record-requires
put_record-requires g c =
    made_fits c.class.result.now c.args.rule.now c.args.unit.now c.args.input.now c.in_ok-output.output
    (g.T.Tool.class c.args.tool.now) (g.T.Tool.rule c.args.tool.now) c.in_ok-run.run' c.requires.small
    (c.class.ensures.value ∙ c.in_ok-output.ensures.same_class) c.requires.rule c.in_ok-output.ensures.made.0
    c.in_ok-run.ensures
