use Rattle.std.proofs.Common.{◌≡◌, ◌+◌, ◌-◌, ◌++◌, map}
use Rattle.std.specs.List.{range_with_len}
use Rattle.generated_projects.specs.Generating.{numbers, write_source}
use Rattle.generated_projects.proofs.project.add_sources.Given as goal

-- the steps so far, and those of the numbers that are left
abbrev pub invariant-loop-k : goal.invariant-loop-k
invariant-loop-k l =
    l.steps ++ map write_source (range_with_len l.k ((l.n + 1) - l.k)) ≡ l.initial.steps ++ map write_source (numbers l.n)
