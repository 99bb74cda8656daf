use Rattle.std.proofs.Common.{ℕ, ◌<◌}
use Rattle.semantic_objects.specs.declared.name.TyId.TheVariants as id
use Rattle.given_tops.specs.Names.{nodes_of}
use Rattle.given_tops.specs.Knowing.{IsSure}
use Rattle.given_tops.proofs.table.variables_hold.Given as goal

abbrev pub invariant-loop-at : goal.invariant-loop-at
invariant-loop-at l = (v : ℕ) → v < l.at → IsSure l.fn.t (nodes_of l.fn.limits) (id.Variable v)
