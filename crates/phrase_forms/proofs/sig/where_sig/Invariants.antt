use Rattle.std.proofs.Common.{◌≡◌, drop}
use Rattle.bare_forms.specs.Signatures.{where_sig}
use Rattle.phrase_forms.proofs.sig.where_sig.Given as goal

-- what is made, and the types that are left
abbrev pub invariant-loop-each : goal.invariant-loop-each
invariant-loop-each l = where_sig l.at l.made (drop l.each-index l.wheres) ≡ where_sig l.at l.initial.made l.wheres
