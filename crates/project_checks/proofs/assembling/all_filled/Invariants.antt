use Rattle.std.proofs.Common.{◌≡◌, ◌+◌, ◌++◌, length, drop}
use Rattle.std.specs.Vec.Iter.{into_iter_items, into_iter_len}
use Rattle.project_checks.specs.Assembly.{filled_by}
use Rattle.project_checks.proofs.assembling.all_filled.Given as goal

-- the groups that were met, with their units and members, and those that are left are all groups with theirs
abbrev pub invariant-loop-group : goal.invariant-loop-group
invariant-loop-group l = record {
  left : into_iter_len l.group-iterator ≡ length (into_iter_items l.group-iterator);
  units_room : length l.list + length (into_iter_items l.group-iterator) ≡ length l.units;
  members_room : length l.list + length (into_iter_items l.group-iterator) ≡ length l.members;
  made : l.list ++ filled_by (into_iter_items l.group-iterator) (drop (length l.list) l.units)
      (drop (length l.list) l.members)
      ≡ filled_by (into_iter_items l.initial.group-iterator) l.units l.members;
}
