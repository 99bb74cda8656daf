use Rattle.std.proofs.Common.{◌≡◌, map, drop}
use Rattle.repeated_names.specs.Repeats.{earliest_with, all_repeats}
use Rattle.repeated_names.proofs.find.find_all.Given as goal

-- what is found, and what is left
abbrev pub invariant-loop-item : goal.invariant-loop-item
invariant-loop-item g l =
    earliest_with l.finder (all_repeats (map g.T.Searched.repeats (drop l.item-index l.items)))
    ≡ earliest_with l.fn.finder (all_repeats (map g.T.Searched.repeats l.items))
