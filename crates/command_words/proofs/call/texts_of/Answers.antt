use Rattle.std.proofs.Common.{◌∙◌, ◌+◌, ◌++◌, ◌∷◌, [], ap, sym, append_assoc, drop, map, append-nil}
use Rattle.std.proofs.lemmas.List.{drop_all, drop_more}
use Rattle.std.specs.Prelude.{string_bytes}
use Rattle.command_words.proofs.call.texts_of.Goals as goal

pub loop-word-preserved : goal.loop-word-preserved
loop-word-preserved c =
    let i = c.loop-word.word-index in
    let more = map string_bytes (drop (i + 1) c.args.words.now) in
    ap (λ ts. ts ++ more) (c.in_ok-add.ensures.ok ∙ ap (λ w. c.loop-word.texts ++ w ∷ [])
    (c.in_ok-from_bytes.ensures ∙ c.as_bytes.ensures.value))
    ∙ append_assoc c.loop-word.texts (string_bytes c.word-item.result ∷ []) more
    ∙ ap (λ ws. c.loop-word.texts ++ ws) (sym (ap (map string_bytes) (drop_more c.args.words.now i c.word-item.result c.loop-word-test.true
    ∙ ap (λ w. w ∷ drop (i + 1) c.args.words.now) (sym c.word-item.is))))
    ∙ c.loop-word.invariant

pub returns : goal.returns
returns c =
    let i = c.loop-word.word-index in
    sym (append-nil c.loop-word.texts)
    ∙ ap (λ ws. c.loop-word.texts ++ map string_bytes ws) (sym (drop_all i c.args.words.now c.loop-word-test.false))
    ∙ c.loop-word.invariant
