use Rattle.std.proofs.Common.{◌≡◌, arith, sym, ◌∙◌, length}
use Rattle.std.proofs.lemmas.Grind.{common_steps}
use Rattle.std.proofs.lemmas.List.{append-nil}
use Rattle.dependency_graph.proofs.Finishing.{top_held, top_known, held_known, left_inner, left_group, not_start, no_start}
use Rattle.dependency_graph.proofs.components.finish.Goals as goal

-- the last place is held
pub is_looped-flag-requires-clause-top : goal.is_looped-flag-requires-clause-top
is_looped-flag-requires-clause-top c =
    rw c.deref.ensures.value
    (top_held c.args.edges.now c.args.marks.now c.args.places.now c.args.left.now c.args.flags.now
    c.args.held.now.items c.args.path.now c.args.top c.args.starts.now.items
    c.requires.held)

-- its unit is a unit
pub is_looped-flag-requires-clause-known : goal.is_looped-flag-requires-clause-known
is_looped-flag-requires-clause-known c =
    rw c.deref.ensures.value
    (top_known c.args.edges.now c.args.marks.now c.args.places.now c.args.left.now c.args.flags.now
    c.args.held.now.items c.args.path.now c.args.top c.args.starts.now.items
    c.requires.held)

-- each held unit is a unit
pub close-requires-clause-marked : goal.close-requires-clause-marked
close-requires-clause-marked c = held_known _ _ c.requires.held

-- the last place is held
pub close-requires-clause-top : goal.close-requires-clause-top
close-requires-clause-top c =
    top_held c.args.edges.now c.args.marks.now c.args.places.now c.args.left.now c.args.flags.now
    c.args.held.now.items c.args.path.now c.args.top c.args.starts.now.items
    c.requires.held

-- there is no start
pub returns-in-None-clause-held : goal.returns-in-None-clause-held
returns-in-None-clause-held c =
    let same = c.in-None.ensures.items ∙ append-nil c.pop.new.self.items in
    let none : length c.args.starts.now.items ≡ 0 = grind (arith, common_steps, c.in-None.ensures.cases) in
    rw (sym same)
    (left_inner c.args.edges.now c.args.marks.now c.args.places.now c.args.left.now c.args.flags.now
    c.args.held.now.items c.args.path.now c.args.top c.args.starts.now.items
    c.requires.held c.requires.all (no_start c.args.starts.now.items c.args.top none))

-- the group is closed
pub returns-then-start-top-clause-held : goal.returns-then-start-top-clause-held
returns-then-start-top-clause-held c =
    let same = rw c.if-start-top.true at c.in-Some.ensures.items in
    let looped = rw c.deref.ensures.value at c.is_looped-flag.ensures in
    rw c.close.ensures.held
    (left_group c.args.edges.now c.args.marks.now c.args.places.now c.args.left.now c.args.flags.now
    c.args.held.now.items c.args.path.now c.args.top c.args.starts.now.items
    c.pop.new.self.items _ _ _ c.requires.held same c.requires.all looped c.close.ensures.closed)

-- the unit isn't the first of its group
pub returns-in_ok-push-in-Some-clause-held : goal.returns-in_ok-push-in-Some-clause-held
returns-in_ok-push-in-Some-clause-held c =
    let same = c.in_ok-push-in-Some.ensures.items ∙ sym c.in-Some.ensures.items in
    rw same
    (left_inner c.args.edges.now c.args.marks.now c.args.places.now c.args.left.now c.args.flags.now
    c.args.held.now.items c.args.path.now c.args.top c.args.starts.now.items
    c.requires.held c.requires.all
    (not_start c.args.edges.now c.args.marks.now c.args.places.now c.args.left.now c.args.flags.now
    c.args.held.now.items c.args.path.now c.args.top c.args.starts.now.items
    c.pop.new.self.items c.in-Some.start c.requires.held c.in-Some.ensures.items c.if-start-top.false))
