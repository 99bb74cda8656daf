use Rattle.std.proofs.Common.{◌≡◌, map}
use Rattle.session_scripts.proofs.line.words_of.Given as goal

-- the words so far are those that were yielded
abbrev pub invariant-loop-word : goal.invariant-loop-word
invariant-loop-word l = l.words ≡ map (λ word. word.now) l.yielded
