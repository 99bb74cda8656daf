use Rattle.dependency_graph.proofs.Finishing.{top_held, top_known}
use Rattle.dependency_graph.proofs.components.take_step.Goals as goal

-- the last place is held
pub held_at-unit-requires : goal.held_at-unit-requires
held_at-unit-requires c =
    rw c.deref.ensures.value
    (top_held c.args.edges.now c.args.marks.now c.args.places.now c.args.left.now c.args.flags.now
    c.args.held.now.items c.args.path.now.items c.args.top c.args.starts.now.items
    c.requires.held)

-- its unit is a unit
pub bounds-left-unit : goal.bounds-left-unit
bounds-left-unit c =
    let known = top_known c.args.edges.now c.args.marks.now c.args.places.now c.args.left.now c.args.flags.now
    c.args.held.now.items c.args.path.now.items c.args.top c.args.starts.now.items c.requires.held in
    rw (c.held_at-unit.ensures, c.deref.ensures.value, c.requires.held.lefts) known
