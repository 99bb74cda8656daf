use Rattle.std.proofs.Common.{◌++◌, ◌∷◌, [], ◌∙◌, ap₂, sym, rules, tests}
use Rattle.std.specs.Prelude.{◌==◌}
use Rattle.std.proofs.lemmas.List.{map-append}
use Rattle.std.proofs.lemmas.Iterator.Consumers.{YieldsList-end}
use Rattle.std.proofs.lemmas.Iterator.Splits.{YieldsList-from_slice_split}
use Rattle.path_anchors.proofs.parts.parts_of.Goals as goal

pub returns : goal.returns
returns c =
    c.loop-part.invariant
    ∙ (YieldsList-end (YieldsList-from_slice_split _ (λ byte. byte == 47) c.args.path.now
    (cc (c.into_iter-part-iterator.ensures.into_iter_gives, c.split-part-items.ensures.rest))
    (cc (c.into_iter-part-iterator.ensures.into_iter_gives, c.split-part-items.ensures.done))
    (cc (c.into_iter-part-iterator.ensures.into_iter_gives, c.split-part-items.ensures.closure))
    (λ x b q k. search (rules, tests)))
    c.loop-part.yielded _ c.loop-part.yielded_by _ _ c.in-None.is c.next.ensures.steps).0

pub loop-part-preserved : goal.loop-part-preserved
loop-part-preserved c =
    c.in_ok-add.ensures.ok
    ∙ ap₂ (λ ps p. ps ++ p ∷ []) c.loop-part.invariant c.in_ok-from_bytes.ensures
    ∙ sym (map-append (λ part. part.now) c.loop-part.yielded (c.in-Some.part ∷ []))
