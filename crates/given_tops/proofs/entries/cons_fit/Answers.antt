use Rattle.std.proofs.Common.{◌+◌, drop}
use Rattle.given_tops.specs.Names.{nodes_of}
use Rattle.given_tops.proofs.Looping.{left_at}
use Rattle.given_tops.proofs.Constructors.{con_next, con_fails, cons_end}
use Rattle.given_tops.proofs.entries.cons_fit.Goals as goal

pub loop-con-preserved : goal.loop-con-preserved
loop-con-preserved c =
    let cons = c.args.cons.now in
    let i = c.loop-con.con-index in
    con_next (nodes_of c.args.limits.now) (drop i cons) (drop (i + 1) cons) cons c.con-item.result _
    (left_at cons c.as_slice-con-items.result.now i c.con-item.result c.as_slice-con-items.ensures
    c.loop-con-test.true c.con-item.is)
    c.in_ok-scheme_fits.ensures c.if-not-branch.false c.loop-con.invariant

pub returns-then-not-branch : goal.returns-then-not-branch
returns-then-not-branch c =
    let cons = c.args.cons.now in
    let i = c.loop-con.con-index in
    con_fails (nodes_of c.args.limits.now) (drop i cons) (drop (i + 1) cons) cons c.con-item.result _
    (left_at cons c.as_slice-con-items.result.now i c.con-item.result c.as_slice-con-items.ensures
    c.loop-con-test.true c.con-item.is)
    c.in_ok-scheme_fits.ensures c.if-not-branch.true c.loop-con.invariant

pub returns : goal.returns
returns c = cons_end (nodes_of c.args.limits.now) c.args.cons.now c.as_slice-con-items.result.now
    c.loop-con.con-index c.as_slice-con-items.ensures c.loop-con-test.false c.loop-con.invariant
