use Rattle.row_entries.proofs.Numbered.{met_before, met_next, met_late}
use Rattle.row_entries.proofs.variables.next_after.Goals as goal

pub returns-then-place-count : goal.returns-then-place-count
returns-then-place-count c = met_before c.args.count c.args.variable c.if-place-count.true

pub returns-then-place-count-2 : goal.returns-then-place-count-2
returns-then-place-count-2 c =
    met_late c.args.count c.args.variable c.if-place-count.false c.if-place-count-2.true

pub returns : goal.returns
returns c = met_next c.args.count c.args.variable c.if-place-count-2.false
