use Rattle.std.proofs.Common.{◌≡◌, ◌+◌, sym, subst, drop}
use Rattle.semantic_objects.specs.Trees.{Tree, Trees}
use Rattle.env_parts.specs.Types.{facts_of_tree}
use Rattle.env_parts.specs.TypeSteps.{over_all, facts_at}
use Rattle.env_parts.proofs.Facting.{over_next}
use Rattle.env_parts.proofs.entry_facts.made_facts.Goals as goal

pub loop-place-preserved : goal.loop-place-preserved
loop-place-preserved c =
    subst (λ f. over_all f (facts_at c.args.made.now (drop (c.loop-place.place-index + 1) c.args.places.now))
    ≡ over_all (facts_of_tree (Tree.Made c.args.symbol.now Trees.Nil)) (facts_at c.args.made.now c.args.places.now))
    (sym c.over-facts.ensures)
    (over_next c.args.made.now c.args.places.now c.as_slice-place-items.result.now c.loop-place.place-index
    c.loop-place.facts c.in-Some.part.now _ c.as_slice-place-items.ensures c.loop-place-test.true
    c.in-Some.ensures.item c.loop-place.invariant)
