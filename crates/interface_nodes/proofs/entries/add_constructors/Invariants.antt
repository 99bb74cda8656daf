use Rattle.std.proofs.Common.{drop}
use Rattle.interface_nodes.proofs.Entering.{Constructors}
use Rattle.interface_nodes.proofs.entries.add_constructors.Given as goal

abbrev pub invariant-loop-con : goal.invariant-loop-con
invariant-loop-con l = Constructors l.fn.home l.fn.cons (drop l.con-index l.fn.cons) l.fn.table l.table l.rows
