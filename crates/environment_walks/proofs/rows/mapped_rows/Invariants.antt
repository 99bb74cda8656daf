use Rattle.std.proofs.Common.{take}
use Rattle.environment_walks.specs.Changing.{AreMapped}
use Rattle.environment_walks.proofs.rows.mapped_rows.Given as goal

abbrev pub invariant-loop-at : goal.invariant-loop-at
invariant-loop-at l = AreMapped l.fn.images (take l.at l.fn.rows) l.made
