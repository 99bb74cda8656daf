use Rattle.std.proofs.lemmas.List.{take_rest}
use Rattle.dependency_graph.proofs.Searching.{closed_from}
use Rattle.dependency_graph.proofs.components.close.Goals as goal

-- the units held from the place on are done
pub returns-clause-closed : goal.returns-clause-closed
returns-clause-closed c =
    let marked = rw c.deref.ensures.value at c.mark_all.ensures.marked in
    closed_from _ _ _ _ _ _ _ (rw (take_rest c.args.held.now.items c.args.top) at marked) c.requires.top
