use Rattle.std.proofs.Common.{◌≡◌, ◌++◌, drop, map}
use Rattle.bare_forms.specs.Signatures.{other_include}
use Rattle.phrase_forms.proofs.sig.includes.Given as goal

-- what is made, and the names that are left
abbrev pub invariant-loop-name : goal.invariant-loop-name
invariant-loop-name l =
    l.made ++ map other_include (drop l.name-index l.others) ≡ l.initial.made ++ map other_include l.others
