use Rattle.std.proofs.Common.{◌≡◌, ◌++◌, ℕ, List, length, nat_eq}
use Rattle.indexmap.specs.IndexMap.{get}
use Rattle.cm_base.specs.declared.record.Def.{Def}
use Rattle.cm_conditions.specs.Values.{def_of}
use Rattle.cm_conditions.proofs.names.defs_of.Given as goal
use lib.Pointwise.{pointwise}

-- the table finds what the definitions behind those that are left have
abbrev pub invariant-loop-def : goal.invariant-loop-def
invariant-loop-def l =
    (behind : List Def) × (l.fn.defs ≡ l.rest ++ behind)
    × ((name : List ℕ) → get (pointwise nat_eq) l.table name ≡ def_of behind name)

abbrev pub decreases-loop-def : goal.decreases-loop-def
decreases-loop-def l = length l.rest
