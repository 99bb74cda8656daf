use Rattle.std.specs.Prelude.{◌≡◌, ◌++◌, map, drop}
use Rattle.test_compilers.specs.LetterSkeletons.{letter_need}
use Rattle.test_compilers.proofs.skeletons.letter_needs.Given as goal

-- the uses so far and those of the letters that are left are the uses of all letters
abbrev pub invariant-loop-letter : goal.invariant-loop-letter
invariant-loop-letter l =
    l.needs ++ map letter_need (drop l.letter-index l.letters) ≡ map letter_need l.letters
