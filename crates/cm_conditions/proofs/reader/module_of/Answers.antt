use Rattle.std.proofs.Common.{◌≡◌, Some, None, true, option_and_then, drop}
use Rattle.grammars.specs.Grammar.{head_or}
use Rattle.cm_conditions.specs.Grammar.{word_of, closed, module_of}
use Rattle.cm_conditions.proofs.ReadingSteps.{module_go, reads_same, provided}
use Rattle.cm_conditions.proofs.reader.module_of.Goals as goal

pub returns : goal.returns
returns c =
    let rest = c.args.cursor.now.rest.now in
    let word = c.in-Some-word.word.now in
    let found : option_and_then (word_of (λ _. true)) (head_or rest None) ≡ Some word = cc in
    let is = rw (c.take.ensures, c.in_ok-name.ensures) at c.closed.ensures in
    rw c.in-Some.is
    (reads_same (module_of (Some c.in-Some.space)) (closed (provided c.in-Some.space word)) rest (drop 1 rest)
    c.closed.result c.closed.new.cursor.rest.now (module_go c.in-Some.space word rest found) is)
