use Rattle.std.proofs.Common.{◌≡◌, map, drop}
use Rattle.repeated_names.specs.Repeats.{earliest_with}
use Rattle.repeated_names.specs.Finding.{found_behind, names_behind}
use Rattle.repeated_names.proofs.find.find_behind.Given as goal

-- what is found and seen, and the members that are left
abbrev pub invariant-loop-item : goal.invariant-loop-item
invariant-loop-item g l =
    let left = map g.T.Listed.listed (drop l.item-index l.items) in
    let whole = map g.T.Listed.listed l.items in
    record {
      first : earliest_with l.finder (found_behind l.seen.keys left)
          ≡ earliest_with l.fn.finder (found_behind l.fn.seen.keys whole);
      names : names_behind l.seen.keys left ≡ names_behind l.fn.seen.keys whole;
    }
