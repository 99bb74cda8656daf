use Rattle.std.proofs.Common.{◌≡◌, ◌++◌, drop, map}
use Rattle.bare_forms.specs.Signatures.{single_of}
use Rattle.phrase_forms.proofs.sig.single_specs.Given as goal

-- what is made, and the types that are left
abbrev pub invariant-loop-desc : goal.invariant-loop-desc
invariant-loop-desc l = l.made ++ map (single_of l.at) (drop l.desc-index l.descs) ≡ map (single_of l.at) l.descs
