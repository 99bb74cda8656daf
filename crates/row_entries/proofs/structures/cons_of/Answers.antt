use Rattle.std.proofs.Common.{take, subst}
use Rattle.std.proofs.lemmas.List.{take_all}
use Rattle.row_entries.specs.Told.{ToldAt}
use Rattle.row_entries.proofs.Cons.{told_some, con_more, con_lacks, cons_whole}
use Rattle.row_entries.proofs.structures.cons_of.Goals as goal

pub loop-row-preserved : goal.loop-row-preserved
loop-row-preserved c = λ home made told.
    con_more home made c.args.rows.now c.args.table.now c.loop-row.row-index c.row-item.result c.row-item.result
    c.loop-row.cons c.add.new.self (record { name = c.in_ok-name-in-Some.name; scheme = c.in_ok-scheme-in-Some.scheme }) c.row-item.is
    c.loop-row-test.true told
    (told_some c.args.rows.now.schemes c.row-item.result.place c.in_ok-scheme.field-0.now c.in-Some.scheme
    c.in_ok-scheme-in-Some.scheme c.in_ok-scheme.ensures c.in-Some.is c.in_ok-scheme-in-Some.ensures)
    c.in_ok-name-in-Some.ensures c.in_ok-add-in-Some.ensures.ok (c.loop-row.invariant home made told)

pub returns-in-None : goal.returns-in-None
returns-in-None c =
    con_lacks c.args.rows.now c.args.table.now c.loop-row.row-index c.row-item.result c.row-item.result c.row-item.is
    c.loop-row-test.true
    (subst (ToldAt c.args.rows.now.schemes c.row-item.result.place) c.in-None.is c.in_ok-scheme.ensures)

pub returns : goal.returns
returns c =
    cons_whole c.args.rows.now c.args.table.now (take c.loop-row.row-index c.args.table.now) c.loop-row.cons
    (take_all c.loop-row.row-index c.args.table.now c.loop-row-test.false) c.loop-row.invariant
