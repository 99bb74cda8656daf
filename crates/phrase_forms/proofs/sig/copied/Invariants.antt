use Rattle.std.proofs.Common.{◌≡◌, ◌++◌, drop}
use Rattle.phrase_forms.proofs.sig.copied.Given as goal

-- what is made, and those that are left
abbrev pub invariant-loop-desc : goal.invariant-loop-desc
invariant-loop-desc l = l.made ++ drop l.desc-index l.descs ≡ l.descs
