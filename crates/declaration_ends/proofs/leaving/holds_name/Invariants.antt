use Rattle.unification.specs.Types.{size_all}
use Rattle.type_nodes.specs.Tables.{whole_all}
use Rattle.declaration_ends.specs.Leaving.{IsWalk}
use Rattle.declaration_ends.proofs.leaving.holds_name.Given as goal

abbrev pub invariant-loop-next : goal.invariant-loop-next
invariant-loop-next l = IsWalk l.fn.t l.fn.home l.fn.from l.fn.to l.fn.id l.passed l.ids

abbrev pub decreases-loop-next : goal.decreases-loop-next
decreases-loop-next l = size_all (whole_all l.fn.t l.ids)
