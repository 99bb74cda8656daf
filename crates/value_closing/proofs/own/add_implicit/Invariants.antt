use Rattle.std.proofs.Common.{drop}
use Rattle.value_closing.specs.OwnVariables.{written_in_scope}
use Rattle.value_closing.proofs.Entering.{AddedSoFar}
use Rattle.value_closing.proofs.own.add_implicit.Given as goal

-- what was made so far, and the texts that are left
abbrev pub invariant-loop-text : goal.invariant-loop-text
invariant-loop-text l =
    AddedSoFar (written_in_scope l.scope) l.fn.t l.fn.rows l.texts (drop l.text-index l.texts) l.t l.rows
