use Rattle.std.proofs.Common.{◌≡◌, ◌++◌}
use Rattle.signature_specs.specs.Variables.{texts_of}
use Rattle.signature_specs.proofs.variables.as_names.Given as goal

-- the names so far, and the texts that are left
abbrev pub invariant-loop-text : goal.invariant-loop-text
invariant-loop-text l = texts_of l.names ++ l.text-iterator.rest.items ≡ l.fn.texts
