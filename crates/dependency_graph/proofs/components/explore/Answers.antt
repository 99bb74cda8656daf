use Rattle.std.proofs.Common.{◌≡◌, [], arith}
use Rattle.std.proofs.lemmas.Grind.{common_steps}
use Rattle.std.proofs.lemmas.List.{nil_from_length}
use Rattle.dependency_graph.proofs.Stepping.{hold_ended}
use Rattle.dependency_graph.proofs.components.explore.Goals as goal

-- the way is empty, so no unit is held
pub returns-clause-held : goal.returns-clause-held
returns-clause-held c =
    let none : c.loop-top.path.items ≡ [] = nil_from_length c.loop-top.path.items
    (grind (arith, common_steps, c.in_default.ensures.cases)) in
    hold_ended c.args.edges.now c.loop-top.marks c.loop-top.places c.loop-top.left c.loop-top.flags
    c.loop-top.held.items c.loop-top.path.items c.loop-top.starts.items c.loop-top.invariant.held none
