use Rattle.std.proofs.Common.{sym}
use Rattle.sml_types.proofs.Frames.{next_some, next_none}
use Rattle.sml_types.proofs.frame.Frame.part.Goals as goal

pub returns-in-Some : goal.returns-in-Some
returns-in-Some c = next_some c.args.table.now c.args.self c.node.result.now c.in-Some.part.now c.is_kept.ensures.kept.made
    c.node.ensures (sym c.in-Some.ensures.item)

pub returns-in-None : goal.returns-in-None
returns-in-None c = next_none c.args.table.now c.args.self c.node.result.now c.node.ensures c.in-None.ensures.item
