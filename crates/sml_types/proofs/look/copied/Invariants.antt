use Rattle.std.proofs.Common.{◌≡◌, ◌++◌, drop}
use Rattle.sml_types.proofs.look.copied.Given as goal

abbrev pub invariant-loop-id : goal.invariant-loop-id
invariant-loop-id l = l.copy ++ drop l.id-index l.fn.ids ≡ l.fn.ids
