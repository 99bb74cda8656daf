use Rattle.std.proofs.Common.{ap, ◌∙◌, drop}
use Rattle.value_closing.proofs.Grouping.{group_added}
use Rattle.value_closing.proofs.group.add_group.Goals as goal

pub returns-clause-ok : goal.returns-clause-ok
returns-clause-ok c =
    group_added c.args.groups.now c.add.new.self
    (record { closes = c.args.closes; variables = c.in_ok-variables.variables }) c.args.start c.args.bound.now
    c.in_ok-add.ensures.ok
    (c.in_ok-variables.ensures ∙ c.rows_since.ensures ∙ ap (drop c.args.start) c.rows.ensures)
