use Rattle.std.proofs.Common.{◌≡◌, drop}
use Rattle.listed_types.specs.Firm.{any_free}
use Rattle.listed_types.proofs.firm.has_no_free.Given as goal

abbrev pub invariant-loop-node : goal.invariant-loop-node
invariant-loop-node l = any_free (drop l.node-index l.nodes) ≡ any_free l.nodes
