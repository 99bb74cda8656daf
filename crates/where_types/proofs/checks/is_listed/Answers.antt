use Rattle.std.proofs.Common.{◌+◌, drop, sym, ◌∙◌}
use Rattle.type_phrases.proofs.PartsRead.{drop_item, drop_end}
use Rattle.where_types.proofs.Names.{listed_next, listed_here, listed_none}
use Rattle.where_types.proofs.checks.is_listed.Goals as goal

pub returns-then-is_name : goal.returns-then-is_name
returns-then-is_name c =
    let names = c.args.names.now in
    let i = c.loop-other.other-index in
    listed_here c.args.name.now names (drop i names) (drop (i + 1) names) c.other-item.result
    (drop_item names i c.other-item.result c.loop-other-test.true c.other-item.is)
    (sym c.is_name.ensures ∙ c.if-is_name.true) c.loop-other.invariant

pub loop-other-preserved : goal.loop-other-preserved
loop-other-preserved c =
    let names = c.args.names.now in
    let i = c.loop-other.other-index in
    listed_next c.args.name.now names (drop i names) (drop (i + 1) names) c.other-item.result
    (drop_item names i c.other-item.result c.loop-other-test.true c.other-item.is)
    (sym c.is_name.ensures ∙ c.if-is_name.false) c.loop-other.invariant

pub returns : goal.returns
returns c =
    listed_none c.args.name.now c.args.names.now (drop c.loop-other.other-index c.args.names.now)
    (drop_end c.args.names.now c.loop-other.other-index c.loop-other-test.false) c.loop-other.invariant
