use Rattle.std.proofs.Common.{Bool, drop}
use Rattle.given_tops.specs.Names.{nodes_of}
use Rattle.given_tops.specs.Knowing.{SaysAll}
use Rattle.given_tops.proofs.table.args_hold.Given as goal

-- what is said of the arguments that are left is said of all
abbrev pub invariant-loop-part : goal.invariant-loop-part
invariant-loop-part l = (b : Bool) → SaysAll l.fn.t (nodes_of l.fn.limits) (drop l.part-index l.fn.args) b
    → SaysAll l.fn.t (nodes_of l.fn.limits) l.fn.args b
