use Rattle.std.proofs.Common.{◌+◌, drop}
use Rattle.type_phrases.proofs.PartsRead.{drop_item}
use Rattle.datatype_elab.proofs.Naming.{one_found, one_other}
use Rattle.datatype_elab.proofs.checks.is_one_of.Goals as goal

pub returns-then-eq : goal.returns-then-eq
returns-then-eq c =
    let names = c.args.names.now in
    let i = c.loop-other.other-index in
    one_found names (drop i names) (drop (i + 1) names) c.other-item.result c.args.name.now c.loop-other.invariant
    (drop_item names i c.other-item.result c.loop-other-test.true c.other-item.is) c.eq.result c.eq.ensures
    c.if-eq.true

pub loop-other-preserved : goal.loop-other-preserved
loop-other-preserved c =
    let names = c.args.names.now in
    let i = c.loop-other.other-index in
    one_other names (drop i names) (drop (i + 1) names) c.other-item.result c.args.name.now c.loop-other.invariant
    (drop_item names i c.other-item.result c.loop-other-test.true c.other-item.is) c.eq.result c.eq.ensures
    c.if-eq.false
