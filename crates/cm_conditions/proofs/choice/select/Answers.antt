use Rattle.cm_conditions.proofs.SelectAnswers.{Taken, lines_refused, lines_chosen, no_table}
use Rattle.cm_conditions.proofs.choice.select.Goals as goal

pub returns-in_err-names : goal.returns-in_err-names
returns-in_err-names c =
    no_table c.args.defs.now c.args.exports.now c.args.lines.now c.from_residual.result c.from_residual.ensures.1

pub returns-in_err-items : goal.returns-in_err-items
returns-in_err-items c =
    let names = c.in_ok-names.names in
    let whole = c.split_at.result.0.now in
    let rest = c.split_at.result.1.now in
    let count = rw c.as_slice-lines.ensures at c.whole_len.ensures in
    let front = rw c.as_slice-lines.ensures at c.split_at.ensures.front in
    let back = rw c.as_slice-lines.ensures at c.split_at.ensures.back in
    let taken : Taken names c.args.defs.now c.args.exports.now c.args.lines.now whole rest = record {
      are = rw (c.as_slice.ensures, c.as_slice-2.ensures) at c.in_ok-names.ensures;
      cut = (c.whole_len.result, count, front, back);
    } in
    lines_refused names c.args.defs.now c.args.exports.now c.args.lines.now whole rest c.in_err-items.field-0.0
    c.from_residual-in_err-items.result taken c.in_err-items.ensures c.from_residual-in_err-items.ensures.1

pub returns : goal.returns
returns c =
    let names = c.in_ok-names.names in
    let whole = c.split_at.result.0.now in
    let rest = c.split_at.result.1.now in
    let count = rw c.as_slice-lines.ensures at c.whole_len.ensures in
    let front = rw c.as_slice-lines.ensures at c.split_at.ensures.front in
    let back = rw c.as_slice-lines.ensures at c.split_at.ensures.back in
    let taken : Taken names c.args.defs.now c.args.exports.now c.args.lines.now whole rest = record {
      are = rw (c.as_slice.ensures, c.as_slice-2.ensures) at c.in_ok-names.ensures;
      cut = (c.whole_len.result, count, front, back);
    } in
    lines_chosen names c.args.defs.now c.args.exports.now c.args.lines.now whole rest c.in_ok-items.items c.ended.result
    taken c.in_ok-items.ensures c.ended.ensures
