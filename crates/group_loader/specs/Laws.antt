-- How often the tools of a box ran, said of each of them.
use Rattle.std.specs.Prelude.{ℕ, ◌≡◌, nat_eq, filter, length, List, Some, slice_get}
use Rattle.std.specs.Cmp.Lexicographic.{pointwise}
use Rattle.tool_deriving.specs.Deriving.{ToolUse}
use Rattle.tool_deriving.specs.Toolboxes.{IsPlaceOf}
use Rattle.member_deriving.specs.Uses.{ran_more}
use Rattle.box_deriving.specs.Boxes.{Counts, after_runs}

-- how many of these uses are of a class
abbrev pub uses_of_class : List ℕ → List ToolUse → ℕ
uses_of_class class jobs = length (filter (λ job. pointwise nat_eq class job.class) jobs)

-- after uses that each ran its tool, the tool of a class ran once more for each of them that is of the class
abbrev pub ToolsRunByClass : Type 0
ToolsRunByClass = (jobs : List ToolUse) (counts : Counts) (at : ℕ) (class : List ℕ)
    → (place : IsPlaceOf (λ (count : List ℕ × ℕ). count.0) class counts at)
    → slice_get (after_runs jobs counts) at ≡ Some (class, ran_more (uses_of_class class jobs) place.tool.1)
