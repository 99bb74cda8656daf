use Rattle.std.proofs.Common.{[], ◌+◌, ◌≤◌, length, drop, refl, sym, ap, ◌∙◌, arith}
use Rattle.std.proofs.lemmas.List.{at_drop_all}
use Rattle.semantic_objects.specs.declared.name.TyId.TheVariants as id
use Rattle.unification.specs.Closing.{found_in_all}
use Rattle.type_nodes.specs.Tables.{whole_all}
use Rattle.type_schemes.specs.Reaching.{found, variables_of, noticed_all}
use Rattle.type_schemes.proofs.Items.{rest_at, item_at}
use Rattle.type_schemes.proofs.reach.reach.Goals as goal

pub loop-id-init : goal.loop-id-init
loop-id-init c = record {
  reached = c.new-reached.ensures.reached c.args.table.now;
  found = λ kept. ap (λ z. found_in_all kept (whole_all c.args.table.now c.args.ids.now) (noticed_all kept (variables_of z) []))
      c.new-reached.ensures.none;
}

pub reach_one-requires-clause-has : goal.reach_one-requires-clause-has
reach_one-requires-clause-has c = c.requires c.loop-id.id-index _
    (item_at c.args.ids.now c.args.ids.now c.loop-id.id-index (id.Variable 0) refl c.loop-id-test.true)

pub loop-id-preserved : goal.loop-id-preserved
loop-id-preserved c =
    let t = c.args.table.now in
    let ids = c.args.ids.now in
    let i = c.loop-id.id-index in
    record {
      reached = c.in_ok-reach_one.ensures.reached;
      found = λ kept. ap (found_in_all kept (whole_all t (drop (i + 1) ids))) (c.in_ok-reach_one.ensures.found kept)
          ∙ sym (ap (λ z. found_in_all kept (whole_all t z) (found kept c.loop-id.reached))
          (rest_at ids ids i (id.Variable 0) refl c.loop-id-test.true))
          ∙ c.loop-id.invariant.found kept;
    }

pub returns-clause-found : goal.returns-clause-found
returns-clause-found c =
    let k : length c.args.ids.now ≤ c.loop-id.id-index = (let k = c.loop-id-test.false in omega (arith, k)) in
    λ kept. sym (at_drop_all (λ z. found_in_all kept (whole_all c.args.table.now z) (found kept c.loop-id.reached)) c.args.ids.now
    c.loop-id.id-index k) ∙ c.loop-id.invariant.found kept
