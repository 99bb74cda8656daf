use Rattle.std.proofs.Common.{◌∙◌, ap, sym, ◌+◌, ◌∷◌, drop}
use Rattle.std.proofs.lemmas.List.{drop_more}
use Rattle.command_words.specs.Reading.{going_on}
use Rattle.command_words.specs.Words.{arguments}
use Rattle.command_words.proofs.Joining.{one_more}
use Rattle.command_words.proofs.arguments.read_arguments.Goals as goal

pub returns-in-None : goal.returns-in-None
returns-in-None c =
    let i = c.loop-word.word-index in
    let more = drop (i + 1) c.args.words.now in
    let next = (drop_more c.args.words.now i c.word-item.result c.loop-word-test.true
    ∙ ap (λ w. w ∷ more) (sym c.word-item.is))
    ∙ ap (λ b. b ∷ more) (sym c.as_bytes.ensures) in
    sym (ap (λ o. going_on c.args.takes c.read_word.new.found o more) c.in-None.is)
    ∙ one_more c.args.takes c.loop-word.due c.loop-word.found c.read_word.new.found c.as_bytes.result.now
    (drop i c.args.words.now) more c.in_ok-next.field-0
    (arguments c.args.takes c.args.words.now) next (c.in_ok-next.ensures more) c.loop-word.invariant

pub loop-word-preserved : goal.loop-word-preserved
loop-word-preserved c =
    let i = c.loop-word.word-index in
    let more = drop (i + 1) c.args.words.now in
    let next = (drop_more c.args.words.now i c.word-item.result c.loop-word-test.true
    ∙ ap (λ w. w ∷ more) (sym c.word-item.is))
    ∙ ap (λ b. b ∷ more) (sym c.as_bytes.ensures) in
    sym (ap (λ o. going_on c.args.takes c.read_word.new.found o more) c.in-Some.is)
    ∙ one_more c.args.takes c.loop-word.due c.loop-word.found c.read_word.new.found c.as_bytes.result.now
    (drop i c.args.words.now) more c.in_ok-next.field-0
    (arguments c.args.takes c.args.words.now) next (c.in_ok-next.ensures more) c.loop-word.invariant
