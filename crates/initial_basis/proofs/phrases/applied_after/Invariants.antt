use Rattle.std.proofs.Common.{◌≡◌, ◌∷◌, [], drop}
use Rattle.std.specs.List.{fold}
use Rattle.initial_basis.specs.Phrases.{named}
use Rattle.initial_basis.proofs.phrases.applied_after.Given as goal

abbrev pub invariant-loop-word : goal.invariant-loop-word
invariant-loop-word l =
    fold (λ tree name. named l.names name (tree ∷ [])) l.whole (drop l.word-index l.words)
    ≡ fold (λ tree name. named l.names name (tree ∷ [])) l.fn.tree l.words
