use Rattle.std.proofs.Common.{◌++◌, ◌∷◌, [], ◌∙◌, ap₂, sym, rules, tests}
use Rattle.std.specs.Prelude.{◌==◌}
use Rattle.std.proofs.lemmas.List.{map-append}
use Rattle.std.proofs.lemmas.Iterator.Consumers.{YieldsList-end}
use Rattle.std.proofs.lemmas.Iterator.Splits.{YieldsList-from_slice_split}
use Rattle.session_scripts.proofs.line.words_of.Goals as goal

pub returns : goal.returns
returns c =
    c.loop-word.invariant
    ∙ (YieldsList-end (YieldsList-from_slice_split _ (λ byte. byte == 32) c.args.text.now
    (cc (c.into_iter-word-iterator.ensures.into_iter_gives, c.split-word-items.ensures.rest))
    (cc (c.into_iter-word-iterator.ensures.into_iter_gives, c.split-word-items.ensures.done))
    (cc (c.into_iter-word-iterator.ensures.into_iter_gives, c.split-word-items.ensures.closure))
    (λ x b q k. search (rules, tests)))
    c.loop-word.yielded _ c.loop-word.yielded_by _ _ c.in-None.is c.next.ensures.steps).0

pub loop-word-preserved : goal.loop-word-preserved
loop-word-preserved c =
    c.in_ok-add.ensures.ok
    ∙ ap₂ (λ ws w. ws ++ w ∷ []) c.loop-word.invariant c.in_ok-from_bytes.ensures
    ∙ sym (map-append (λ word. word.now) c.loop-word.yielded (c.in-Some.word ∷ []))
