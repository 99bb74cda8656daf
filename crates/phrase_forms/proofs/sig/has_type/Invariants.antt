use Rattle.std.proofs.Common.{◌≡◌, drop}
use Rattle.bare_forms.specs.Signatures.{has_type}
use Rattle.phrase_forms.proofs.sig.has_type.Given as goal

-- none so far
abbrev pub invariant-loop-desc : goal.invariant-loop-desc
invariant-loop-desc l = has_type (drop l.desc-index l.descs) ≡ has_type l.descs
