use Rattle.std.proofs.Common.{◌≤◌, subst, ℕ, List, length, Some, None}
use Rattle.tool_deriving.proofs.Runs.{answer_so, by_record, by_run}
use Rattle.tool_deriving.proofs.uses.derive_by.Goals as goal

pub returns-in-Some-clause-tool : goal.returns-in-Some-clause-tool
returns-in-Some-clause-tool g c =
    by_record _ c.args.unit.now c.args.input.now c.in-Some.output _ _ c.in_ok-stored.ensures.same
    (answer_so c.args.unit.now c.args.input.now _ _ _ _ c.in_ok-stored.stored (Some c.in-Some.output) _
    c.class.ensures.value c.in_ok-rule.ensures.value (cc (c.in-Some.is)) c.in_ok-stored.ensures.found)

pub returns-clause-tool : goal.returns-clause-tool
returns-clause-tool g c =
    by_run _ _ c.args.unit.now c.args.input.now c.run_tool.result _ _ _ c.run_tool.ensures.tool c.run_tool.ensures.class
    c.run_tool.ensures.same_rule c.in_ok-stored.ensures.same
    (answer_so c.args.unit.now c.args.input.now _ _ _ _ c.in_ok-stored.stored None _
    c.class.ensures.value c.in_ok-rule.ensures.value (cc (c.in-None.is)) c.in_ok-stored.ensures.found)
    (record {
      unit = c.requires.unit;
      class = subst (λ (class : List ℕ). length class ≤ 1048581) c.class.ensures.value c.class.ensures.most;
      rule = subst (λ (rule : List ℕ). length rule ≤ 1048581) c.in_ok-rule.ensures.value c.in_ok-rule.ensures.most;
      input = c.requires.input;
    })
    c.run_tool.ensures.once
