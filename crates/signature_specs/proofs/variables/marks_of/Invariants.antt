use Rattle.std.proofs.Common.{◌≡◌, take}
use Rattle.signature_specs.specs.Variables.{marks_of}
use Rattle.signature_specs.proofs.variables.marks_of.Given as goal

abbrev pub invariant-loop-row : goal.invariant-loop-row
invariant-loop-row l = l.marks ≡ marks_of (take l.row-index l.list)
