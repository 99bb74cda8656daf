use Rattle.std.proofs.Common.{◌+◌, drop, map}
use Rattle.bare_phrases.specs.PhraseOf.{con_phrase}
use Rattle.type_phrases.proofs.PartsRead.{drop_item, drop_end}
use Rattle.type_phrases.proofs.Keeping.{makes_later}
use Rattle.datatype_elab.proofs.Consing.{cons_none, cons_more, cons_refused, cons_no_memory, cons_all}
use Rattle.datatype_elab.proofs.cons.read_cons.Goals as goal

pub loop-con-init : goal.loop-con-init
loop-con-init g c =
    cons_none c.args.g.now c.args.t.now c.args.scope.now c.args.refused.now c.args.names.now c.args.variables
    c.args.cons.now c.new-made.result c.requires.scope c.requires.alone c.new-made.ensures

pub loop-con-preserved : goal.loop-con-preserved
loop-con-preserved g c =
    let cons = c.args.cons.now in
    let i = c.loop-con.con-index in
    cons_more c.args.g.now c.args.t.now c.loop-con.t c.read_con.new.t c.args.scope.now c.args.refused.now
    c.args.names.now c.loop-con.names c.read_con.new.names c.args.variables cons (drop i cons) (drop (i + 1) cons)
    c.con-item.result c.loop-con.made c.add.new.self c.in_ok-next.next c.loop-con.invariant
    (drop_item cons i c.con-item.result c.loop-con-test.true c.con-item.is) c.in_ok-next.ensures
    c.in_ok-add.ensures.ok c.requires.scope.written

pub returns-in_err-next : goal.returns-in_err-next
returns-in_err-next g c =
    let cons = c.args.cons.now in
    let i = c.loop-con.con-index in
    cons_refused c.args.g.now c.args.t.now c.loop-con.t c.read_con.new.t c.args.scope.now c.args.refused.now
    c.args.names.now c.loop-con.names c.read_con.new.names c.args.variables cons (drop i cons) (drop (i + 1) cons)
    c.con-item.result c.loop-con.made c.in_err-next.field-0.0 c.from_residual.result c.loop-con.invariant
    c.from_residual.ensures.1 (drop_item cons i c.con-item.result c.loop-con-test.true c.con-item.is)
    c.in_err-next.ensures c.requires.scope.written

pub returns-in_err-add : goal.returns-in_err-add
returns-in_err-add g c =
    cons_no_memory c.args.g.now c.args.t.now c.read_con.new.t c.args.scope.now c.args.refused.now c.args.names.now
    c.read_con.new.names c.args.variables (map con_phrase c.args.cons.now) c.from_residual-in_err-add.result
    c.from_residual-in_err-add.ensures.1
    (makes_later c.args.t.now c.loop-con.t c.read_con.new.t c.loop-con.invariant.makes c.in_ok-next.ensures.makes)

pub returns : goal.returns
returns g c =
    cons_all c.args.g.now c.args.t.now c.loop-con.t c.args.scope.now c.args.refused.now c.args.names.now
    c.loop-con.names c.args.variables c.args.cons.now (drop c.loop-con.con-index c.args.cons.now) c.loop-con.made
    c.loop-con.invariant (drop_end c.args.cons.now c.loop-con.con-index c.loop-con-test.false)
