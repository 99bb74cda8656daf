use Rattle.std.proofs.Common.{◌≡◌, length}
use Rattle.initial_basis.specs.Phrases.{known}
use Rattle.initial_basis.proofs.type_names.known.Given as goal

-- no name so far is that of the word
abbrev pub invariant-loop-names : goal.invariant-loop-names
invariant-loop-names l = known l.names l.word ≡ known l.initial.names l.word

abbrev pub decreases-loop-names : goal.decreases-loop-names
decreases-loop-names l = length l.names
