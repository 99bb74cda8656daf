use Rattle.std.proofs.Common.{ap, sym, cond, true, [], ◌∷◌, ◌++◌, ◌∙◌, ◌≡◌, false, append-nil}
use Rattle.indexmap.specs.IndexSet.{contains}
use Rattle.skeletons.specs.Scopes.{same_name}
use Rattle.skeletons.specs.Skeletons.{firsts}
use Rattle.skeletons.proofs.FirstLemmas.{among, if_new, firsts-more, among-append, one_more}
use Rattle.skeletons.proofs.first_places.firsts.Goals as goal

pub loop-spot-preserved-in_ok-add : goal.loop-spot-preserved-in_ok-add
loop-spot-preserved-in_ok-add c =
    let spot = c.in-Some.spot in
    let before = c.loop-spot.yielded in
    let found = c.loop-spot.found in
    let new : among found spot.name ≡ false =
    sym (c.loop-spot.invariant.seen spot.name) ∙ sym c.contains.ensures ∙ c.if-not-contains.true in
    record {
      found =
          c.in_ok-add.ensures.ok
          ∙ ap (λ l. l ++ spot ∷ []) c.loop-spot.invariant.found
          ∙ sym (firsts-more before spot
          ∙ ap (λ b. firsts before ++ if_new b spot) (ap (λ l. among l spot.name) (sym c.loop-spot.invariant.found) ∙ new));
      seen = λ name.
          c.in_ok-insert.ensures.updates.0 name
          ∙ ap (λ k. cond (same_name k name) true (contains same_name c.loop-spot.seen name)) c.in_ok-copied.ensures
          ∙ ap (cond (same_name spot.name name) true) (c.loop-spot.invariant.seen name)
          ∙ one_more (same_name spot.name name) (among found name)
          ∙ sym (ap (λ l. among l name) c.in_ok-add.ensures.ok ∙ among-append found (spot ∷ []) name);
    }

pub loop-spot-preserved : goal.loop-spot-preserved
loop-spot-preserved c =
    let spot = c.in-Some.spot in
    let before = c.loop-spot.yielded in
    let old : among c.loop-spot.found spot.name ≡ true =
    sym (c.loop-spot.invariant.seen spot.name) ∙ sym c.contains.ensures ∙ c.if-not-contains.false in
    record {
      found =
          c.loop-spot.invariant.found
          ∙ sym (firsts-more before spot
          ∙ ap (λ b. firsts before ++ if_new b spot) (ap (λ l. among l spot.name) (sym c.loop-spot.invariant.found) ∙ old)
          ∙ append-nil (firsts before));
      seen = c.loop-spot.invariant.seen;
    }
