use Rattle.std.proofs.Common.{◌≡◌, ◌++◌, drop, not}
use Rattle.std.specs.Prelude.{filter}
use Rattle.visibility.specs.Exports.{subgroups}
use Rattle.visibility.specs.Projects.{is_library}
use Rattle.visibility.proofs.defaults.subgroups_of.Given as goal

-- the subgroups so far and those that are left
abbrev pub invariant-loop-member : goal.invariant-loop-member
invariant-loop-member l =
    l.subgroups.items ++ filter (λ m. not (is_library l.project m)) (drop l.member-index l.members)
    ≡ subgroups l.project l.group
