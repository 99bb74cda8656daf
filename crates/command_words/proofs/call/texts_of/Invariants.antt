use Rattle.std.proofs.Common.{◌≡◌, ◌++◌, drop, map}
use Rattle.std.specs.Prelude.{string_bytes}
use Rattle.command_words.proofs.call.texts_of.Given as goal

-- the texts so far, and then those of the words that are left, are those of all words
abbrev pub invariant-loop-word : goal.invariant-loop-word
invariant-loop-word l = l.texts ++ map string_bytes (drop l.word-index l.words) ≡ map string_bytes l.words
