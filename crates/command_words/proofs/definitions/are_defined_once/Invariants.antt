use Rattle.std.proofs.Common.{◌≡◌, ◌++◌, ℕ, List, length, map, nat_eq, true}
use Rattle.std.specs.List.{list_any}
use lib.Pointwise.{pointwise}
use Rattle.cm_base.specs.declared.record.Def.{Def}
use Rattle.command_words.specs.Words.{defined_once}
use Rattle.command_words.proofs.definitions.are_defined_once.Given as goal

-- no name is defined twice behind the definitions that are left, and the table has the names there
abbrev pub invariant-loop-def : goal.invariant-loop-def
invariant-loop-def l =
    (after : List Def) × (l.fn.defs ≡ l.rest ++ after) × (defined_once after ≡ true)
    × ((name : List ℕ) → list_any (pointwise nat_eq name) l.behind.keys
    ≡ list_any (pointwise nat_eq name) (map (λ (def : Def). def.name) after))

abbrev pub decreases-loop-def : goal.decreases-loop-def
decreases-loop-def l = length l.rest
