use Rattle.std.proofs.Common.{◌≡◌, drop, false}
use Rattle.command_words.specs.Words.{arguments_from}
use Rattle.command_words.specs.Reading.{joined}
use Rattle.command_words.proofs.arguments.read_arguments.Given as goal

-- what was found, before what the words that are left are, is what all words are
abbrev pub invariant-loop-word : goal.invariant-loop-word
invariant-loop-word l =
    joined l.found (arguments_from l.takes l.due (drop l.word-index l.words))
    ≡ arguments_from l.takes false l.words
