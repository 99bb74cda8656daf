use Rattle.std.proofs.Common.{◌≡◌, arith, [], subst, List, ℕ}
use Rattle.std.proofs.lemmas.Grind.{common_steps}
use Rattle.std.proofs.lemmas.List.{nil_from_length}
use Rattle.dependency_graph.specs.Distances.{IsLevel}
use Rattle.dependency_graph.proofs.Levels.{users_units, level_known, level_more, levels_end}
use Rattle.dependency_graph.proofs.distances.spread_from.Goals as goal

-- users are units
pub widen-requires-clause-units : goal.widen-requires-clause-units
widen-requires-clause-units c = users_units c.args.edges.now c.args.users.now c.requires.users

-- a level's units are units
pub widen-requires-clause-known : goal.widen-requires-clause-known
widen-requires-clause-known c =
    rw c.deref.ensures.value (level_known _ _ _ _ _ _ c.levels.invariant c.requires.users.counted)

-- the next level
pub levels-preserved : goal.levels-preserved
levels-preserved c =
    let spreads = rw (c.in_ok-steps.ensures, c.deref.ensures.value, c.new-next.ensures.items) at c.in_ok-widen.ensures
    in
    rw c.in_ok-steps.ensures (level_more _ _ _ _ _ _ _ _ c.requires.users c.levels.invariant spreads)

-- the last level is empty
pub returns : goal.returns
returns c =
    let none : c.levels.now.items ≡ [] = nil_from_length c.levels.now.items (grind (arith, common_steps)) in
    let last = subst (λ (l : List ℕ). IsLevel c.args.edges.now c.args.goal c.levels.steps c.levels.distances l) none
    c.levels.invariant in
    levels_end _ _ _ _ last
