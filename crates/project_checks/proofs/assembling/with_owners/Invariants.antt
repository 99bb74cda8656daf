use Rattle.std.proofs.Common.{◌≡◌, ◌+◌, ◌++◌, length, drop}
use Rattle.std.specs.Vec.Iter.{into_iter_items, into_iter_len}
use Rattle.project_checks.specs.Assembly.{owned_by}
use Rattle.project_checks.proofs.assembling.with_owners.Given as goal

-- the groups that were met, with their owners, and those that are left are all groups with their owners
abbrev pub invariant-loop-group : goal.invariant-loop-group
invariant-loop-group l = record {
  left : into_iter_len l.group-iterator ≡ length (into_iter_items l.group-iterator);
  room : length l.list + length (into_iter_items l.group-iterator) ≡ length l.owners;
  made : l.list ++ owned_by (into_iter_items l.group-iterator) (drop (length l.list) l.owners)
      ≡ owned_by (into_iter_items l.initial.group-iterator) l.owners;
}
