use Rattle.std.proofs.Common.{◌≡◌, length}
use Rattle.bare_forms.specs.Patterns.{items_pat}
use Rattle.phrase_forms.proofs.pat.list_pat.Given as goal

-- the items that are left before what is made
abbrev pub invariant-loop-item : goal.invariant-loop-item
invariant-loop-item l = items_pat l.at l.items.items l.rest ≡ items_pat l.at l.initial.items.items l.initial.rest

abbrev pub decreases-loop-item : goal.decreases-loop-item
decreases-loop-item l = length l.items.items
