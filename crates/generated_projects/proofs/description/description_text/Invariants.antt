use Rattle.std.proofs.Common.{◌≡◌, ◌+◌, ◌-◌, ◌++◌}
use Rattle.std.specs.List.{flat_map, range_with_len}
use Rattle.generated_projects.specs.Generating.{member_line, description_text}
use Rattle.generated_projects.proofs.description.description_text.Given as goal

-- the lines so far, and those of the numbers that are left
abbrev pub invariant-loop-k : goal.invariant-loop-k
invariant-loop-k l = l.text.items ++ flat_map member_line (range_with_len l.k ((l.n + 1) - l.k)) ≡ description_text l.n
