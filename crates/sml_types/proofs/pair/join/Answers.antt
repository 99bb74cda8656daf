use Rattle.std.proofs.Common.{sym}
use Rattle.type_nodes.specs.Tables.{state}
use Rattle.sml_types.proofs.Pairing.{one_noted, one_made}
use Rattle.sml_types.proofs.pair.join.Goals as goal

pub returns-in_ok-set : goal.returns-in_ok-set
returns-in_ok-set c = one_noted c.args.table.now (state c.args.table.now) c.args.same.now c.set.new.self c.root-right.result
    c.root-left.result c.requires.one c.if-left-right.true c.root-right.ensures.within
    (one_made c.args.table.now (state c.args.table.now) c.root-left.result c.root-right.result c.args.left c.args.right
    c.root-left.ensures.one c.root-right.ensures.one c.requires.made) c.in_ok-set.ensures

pub returns-in_ok-set-2 : goal.returns-in_ok-set-2
returns-in_ok-set-2 c = one_noted c.args.table.now (state c.args.table.now) c.args.same.now c.set-then-right-left.new.self
    c.root-left.result c.root-right.result c.requires.one c.if-right-left.true c.root-left.ensures.within
    (sym (one_made c.args.table.now (state c.args.table.now) c.root-left.result c.root-right.result c.args.left c.args.right
    c.root-left.ensures.one c.root-right.ensures.one c.requires.made)) c.in_ok-set-2.ensures
