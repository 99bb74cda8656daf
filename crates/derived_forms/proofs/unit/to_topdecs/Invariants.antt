use Rattle.std.proofs.Common.{◌≡◌, ◌++◌, drop, map}
use Rattle.bare_forms.specs.Units.{bare_topdec}
use Rattle.derived_forms.proofs.unit.to_topdecs.Given as goal

-- what is made, and the items that are left
abbrev pub invariant-loop-topdec : goal.invariant-loop-topdec
invariant-loop-topdec l = l.made ++ map bare_topdec (drop l.topdec-index l.topdecs) ≡ map bare_topdec l.topdecs
