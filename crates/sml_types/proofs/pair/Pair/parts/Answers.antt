use Rattle.std.proofs.Common.{sym}
use Rattle.sml_types.proofs.Pairing.{next_pair, no_pair}
use Rattle.sml_types.proofs.pair.Pair.parts.Goals as goal

pub returns-in-Some-Some : goal.returns-in-Some-Some
returns-in-Some-Some c = next_pair c.args.table.now c.args.self c.node-left.result.now c.node-right.result.now
    c.in-Some-Some.this.now c.in-Some-Some.that.now c.is_kept.ensures.kept.made c.node-left.ensures c.node-right.ensures
    (sym c.in-Some-Some.ensures.item) (sym c.in-Some-Some.ensures'.item)

pub returns-in-None-None : goal.returns-in-None-None
returns-in-None-None c = no_pair c.args.table.now c.args.self c.node-left.result.now c.node-right.result.now
    c.node-left.ensures c.node-right.ensures c.in-None-None.ensures.item c.in-None-None.ensures'.item
