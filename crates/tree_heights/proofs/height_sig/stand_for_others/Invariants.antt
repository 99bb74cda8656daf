use Rattle.std.proofs.Common.{◌≡◌, drop}
use Rattle.bare_forms.specs.Signatures.{has_type}
use Rattle.tree_heights.proofs.height_sig.stand_for_others.Given as goal

-- none so far
abbrev pub invariant-loop-desc : goal.invariant-loop-desc
invariant-loop-desc l = has_type (drop l.desc-index l.descs) ≡ has_type l.descs
