use Rattle.std.proofs.Common.{◌≡◌, ◌++◌, drop}
use Rattle.bare_forms.proofs.name.copy_names.Given as goal

-- what is copied, and what is left
abbrev pub invariant-loop-name : goal.invariant-loop-name
invariant-loop-name l = l.copy ++ drop l.name-index l.names ≡ l.names
