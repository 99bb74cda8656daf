use Rattle.std.proofs.Common.{◌+◌, drop}
use Rattle.type_phrases.proofs.PartsRead.{drop_item, drop_end}
use Rattle.datatype_elab.specs.Wants.{need_in}
use Rattle.datatype_elab.specs.Choosing.{cons_wanted}
use Rattle.datatype_elab.proofs.Choosing.{wants_more, wants_all}
use Rattle.datatype_elab.proofs.choice.wants_of.Goals as goal

pub loop-con-preserved : goal.loop-con-preserved
loop-con-preserved c =
    let cons = c.args.cons.now in
    let i = c.loop-con.con-index in
    wants_more (need_in c.args.new.now) (cons_wanted (need_in c.args.new.now) cons) (drop i cons) (drop (i + 1) cons)
    c.con-item.result c.loop-con.found c.add_argument.new.found c.loop-con.invariant
    (drop_item cons i c.con-item.result c.loop-con-test.true c.con-item.is) c.in_ok-add_argument.ensures

pub returns : goal.returns
returns c =
    wants_all (need_in c.args.new.now) (cons_wanted (need_in c.args.new.now) c.args.cons.now)
    (drop c.loop-con.con-index c.args.cons.now) c.loop-con.found c.loop-con.invariant
    (drop_end c.args.cons.now c.loop-con.con-index c.loop-con-test.false)
