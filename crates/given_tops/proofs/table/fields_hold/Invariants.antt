use Rattle.std.proofs.Common.{Bool, drop}
use Rattle.sml_types.specs.Looking.{ids_of}
use Rattle.given_tops.specs.Names.{nodes_of}
use Rattle.given_tops.specs.Knowing.{SaysAll}
use Rattle.given_tops.proofs.table.fields_hold.Given as goal

-- what is said of the fields that are left is said of all
abbrev pub invariant-loop-field : goal.invariant-loop-field
invariant-loop-field l = (b : Bool) → SaysAll l.fn.t (nodes_of l.fn.limits) (ids_of (drop l.field-index l.fn.fields)) b
    → SaysAll l.fn.t (nodes_of l.fn.limits) (ids_of l.fn.fields) b
