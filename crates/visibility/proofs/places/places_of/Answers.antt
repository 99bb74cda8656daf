use Rattle.std.proofs.Common.{◌∷◌, length, nat_eq, refl}
use Rattle.indexmap.specs.IndexMap.{get}
use Rattle.cm_conditions.proofs.TableSteps.{one_back}
use Rattle.visibility.proofs.Placed.{place_more}
use Rattle.visibility.proofs.places.places_of.Goals as goal

pub loop-group-preserved : goal.loop-group-preserved
loop-group-preserved c =
    let group = c.in-Some.group.now in
    let before = c.in-Some.before.now in
    let behind = c.loop-group.invariant.0 in
    let last = c.in-Some.ensures.cases in (
      group ∷ behind,
      one_back c.args.finished.now c.loop-group.rest.now before behind group c.loop-group.invariant.1 last.0,
      λ g. place_more c.loop-group.rest.now before behind group g (length before)
          (get nat_eq c.loop-group.places g) (get nat_eq c.insert.new.self g) last.0 refl
          (c.in_ok-insert.ensures.updates.0 g) (c.loop-group.invariant.2 g),
    )
