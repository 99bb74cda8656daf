use Rattle.std.proofs.Common.{◌++◌, ◌∷◌, [], ◌∙◌, ap, ap₂, sym, map, rules, tests}
use Rattle.std.proofs.lemmas.List.{map-append}
use Rattle.std.proofs.lemmas.Iterator.Consumers.{YieldsList-end}
use Rattle.std.proofs.lemmas.Iterator.Splits.{YieldsList-from_slice_split}
use Rattle.initial_basis.specs.Phrases.{applied, is_star}
use Rattle.initial_basis.proofs.Splitting.{map_now, product_is}
use Rattle.initial_basis.proofs.phrases.product.Goals as goal

pub returns : goal.returns
returns c =
    product_is c.args.names.now c.args.words.now c.loop-part.parts c.tuple.result
    (c.loop-part.invariant ∙ map_now c.args.names.now c.loop-part.yielded
    ∙ ap (map (applied c.args.names.now))
    (YieldsList-end (YieldsList-from_slice_split _ is_star c.args.words.now
    (cc (c.into_iter-part-iterator.ensures.into_iter_gives, c.split-part-items.ensures.rest))
    (cc (c.into_iter-part-iterator.ensures.into_iter_gives, c.split-part-items.ensures.done))
    (cc (c.into_iter-part-iterator.ensures.into_iter_gives, c.split-part-items.ensures.closure))
    (λ x b q k. search (rules, tests)))
    c.loop-part.yielded _ c.loop-part.yielded_by _ _ c.in-None.is c.next.ensures.steps).0)
    c.tuple.ensures

pub loop-part-preserved : goal.loop-part-preserved
loop-part-preserved c =
    c.in_ok-add.ensures.ok
    ∙ ap₂ (λ ps p. ps ++ p ∷ []) c.loop-part.invariant c.in_ok-applied.ensures
    ∙ sym (map-append (λ part. applied c.args.names.now part.now) c.loop-part.yielded (c.in-Some.part ∷ []))
