use Rattle.std.proofs.Common.{◌≡◌, ◌++◌, drop, map}
use Rattle.phrase_forms.proofs.bare.to_list.Given as goal

-- what is made, and the items that are left
abbrev pub invariant-loop-item : goal.invariant-loop-item
invariant-loop-item g l = l.made ++ map g.T.Full.bare (drop l.item-index l.items) ≡ map g.T.Full.bare l.items
