use Rattle.std.proofs.Common.{◌≡◌, drop}
use Rattle.visibility.specs.Naming.{names, with_groups, names_of}
use Rattle.visibility.proofs.naming.all_names.Given as goal

-- the names so far and those of the groups that are left are those of all
abbrev pub invariant-loop-group : goal.invariant-loop-group
invariant-loop-group l =
    with_groups l.project l.skeletons l.defs (drop l.group-index l.project.finished) (names l.exports l.wanted.items)
    ≡ names_of l.project l.skeletons l.defs
