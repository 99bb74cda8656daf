use Rattle.dependency_graph.proofs.Stepping.{step_done, step_held, step_new}
use Rattle.dependency_graph.proofs.components.go_over.Goals as goal

-- an edge to a unit that is done
pub returns-in-Done-clause-held : goal.returns-in-Done-clause-held
returns-in-Done-clause-held c =
    step_done c.args.edges.now c.args.marks.now c.args.places.now c.args.left.now c.args.flags.now
    c.args.held.now.items c.args.path.now.items c.args.top c.args.starts.now.items
    c.args.unit c.providers_of-list.result.now _ c.requires.held c.requires.unit c.requires.known c.requires.some
    c.providers_of-list.ensures c.in_ok-push.ensures.items c.in-Done.is

-- an edge back to a held unit
pub returns-in_ok-cut-in-Open-clause-held : goal.returns-in_ok-cut-in-Open-clause-held
returns-in_ok-cut-in-Open-clause-held c =
    step_held c.args.edges.now c.args.marks.now c.args.places.now c.args.left.now c.args.flags.now
    c.args.held.now.items c.args.path.now.items c.args.top c.args.starts.now.items
    c.args.unit c.providers_of-list.result.now c.push.new.self.items c.cut.new.starts.items c.requires.held
    c.requires.unit c.requires.known c.requires.some
    c.providers_of-list.ensures c.in_ok-push.ensures.items c.in-Open.is c.in_ok-cut-in-Open.ensures.cut
    c.in_ok-cut-in-Open.ensures.low

-- an edge to a new unit
pub returns-in_ok-hold-in-New-clause-held : goal.returns-in_ok-hold-in-New-clause-held
returns-in_ok-hold-in-New-clause-held c =
    rw (
      c.hold.ensures.marks,
      c.hold.ensures.places,
      c.in_ok-hold-in-New.ensures.held,
      c.in_ok-hold-in-New.ensures.path,
      c.in_ok-hold-in-New.ensures.starts,
    )
    (step_new c.args.edges.now c.args.marks.now c.args.places.now c.args.left.now c.args.flags.now
    c.args.held.now.items c.args.path.now.items c.args.top c.args.starts.now.items
    c.args.unit c.providers_of-list.result.now _ c.requires.held c.requires.units c.requires.unit c.requires.known
    c.requires.some c.providers_of-list.ensures c.in_ok-push.ensures.items c.in-New.is)
