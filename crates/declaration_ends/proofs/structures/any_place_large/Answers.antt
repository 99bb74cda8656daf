use Rattle.std.proofs.Common.{refl, ap, ◌++◌, ◌∙◌, subst}
use Rattle.std.specs.List.{list_any}
use Rattle.type_nodes.specs.Tables.{state}
use Rattle.environment_walks.specs.Stepping.{entered}
use Rattle.declaration_ends.specs.Structures.{large_at, IsTaken}
use Rattle.declaration_ends.proofs.Meeting.{begins, ends, goes_on, finds}
use Rattle.declaration_ends.proofs.structures.any_place_large.Goals as goal

pub loop-init : goal.loop-init
loop-init c = record {
  same = refl;
  walk = begins (large_at (state c.args.t.now).stands c.args.g.now.items) c.new-done.result c.enter_all.new.steps
      c.args.places.now (λ p. c.new-done.ensures p)
      (c.in_ok-enter_all.ensures ∙ ap (λ z. z ++ entered c.args.places.now) c.new-steps.ensures);
}

pub loop-preserved : goal.loop-preserved
loop-preserved c =
    let large = large_at (state c.args.t.now).stands c.args.g.now.items in
    record {
      same = c.in_ok-found-in-Some.ensures.same ∙ c.loop.invariant.same;
      walk = goes_on large (list_any large c.args.places.now) c.in_ok-found-in-Some.found c.loop.done c.take.new.done
          c.loop.steps c.pop.new.self c.take.new.steps c.in-Some.step c.in-Some.ensures
          (subst (λ t. IsTaken (large_at (state t).stands c.args.g.now.items) c.in-Some.step c.loop.done
          c.take.new.done c.pop.new.self c.take.new.steps c.in_ok-found-in-Some.found) c.loop.invariant.same
          c.in_ok-found-in-Some.ensures.taken) c.if-found.false c.loop.invariant.walk;
    }

pub returns-then-found-clause-large : goal.returns-then-found-clause-large
returns-then-found-clause-large c =
    let large = large_at (state c.args.t.now).stands c.args.g.now.items in
    finds large (list_any large c.args.places.now) c.in_ok-found-in-Some.found c.loop.done c.take.new.done
    c.loop.steps c.pop.new.self c.take.new.steps c.in-Some.step c.in-Some.ensures
    (subst (λ t. IsTaken (large_at (state t).stands c.args.g.now.items) c.in-Some.step c.loop.done
    c.take.new.done c.pop.new.self c.take.new.steps c.in_ok-found-in-Some.found) c.loop.invariant.same
    c.in_ok-found-in-Some.ensures.taken) c.if-found.true c.loop.invariant.walk

pub returns-in-None-clause-large : goal.returns-in-None-clause-large
returns-in-None-clause-large c =
    let large = large_at (state c.args.t.now).stands c.args.g.now.items in
    ends large (list_any large c.args.places.now) c.loop.done c.loop.steps c.in-None.ensures.0 c.loop.invariant.walk
