use Rattle.std.proofs.Common.{◌≡◌, ◌++◌, drop}
use Rattle.bare_forms.proofs.name.copy_texts.Given as goal

-- what is copied, and what is left
abbrev pub invariant-loop-text : goal.invariant-loop-text
invariant-loop-text l = l.copy ++ drop l.text-index l.texts ≡ l.texts
