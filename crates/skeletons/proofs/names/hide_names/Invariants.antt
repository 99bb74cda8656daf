use Rattle.std.proofs.Common.{◌≡◌, ◌-◌, ◌≤◌}
use Rattle.skeletons.specs.Counting.{IsCounted, hide_at}
use Rattle.skeletons.proofs.names.hide_names.Given as goal

-- the bindings up to here are hidden and aren't counted
abbrev pub invariant-loop-at : goal.invariant-loop-at
invariant-loop-at l = record {
  counted : IsCounted l.counts l.names.items;
  hidden : l.names.items ≡ hide_at l.fn.from (l.at - l.fn.from) l.fn.names.items;
  order : l.fn.from ≤ l.at;
}
