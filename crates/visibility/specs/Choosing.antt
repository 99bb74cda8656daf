-- The items that the lines of a list choose, as a function of them. There is one way to nest for each list of lines, so
-- this is the answer that `Selects` speaks of.
use Rattle.std.specs.Prelude.{ℕ, List, ◌++◌, Result}
use Rattle.cm_base.specs.declared.diag.Diag.{Diag}
use Rattle.cm_base.specs.declared.record.Def.{Def}
use Rattle.cm_base.specs.declared.record.ModName.{ModName}
use Rattle.cm_conditions.specs.Chosen.{selected}
use Rattle.cm_conditions.specs.Nesting.{Part, branch_lines}
use Rattle.cm_conditions.specs.Splitting.{Tail, tail_lines, split_of}
use Rattle.cm_conditions.specs.Values.{condition_value}
use Rattle.cm_conditions.specs.declared.line.Line.{Line}

-- lines as a tree, and the lines behind it, of which the first fits into none
pub record Nest : Type 0 where
  pub part : Part
  pub rest : List Line

-- the first tree of lines that fit together so, and all lines behind it
abbrev pub first_tree : Tail → List Line → Nest
first_tree (Tail.stop part) rest = record { part = part; rest = rest }
first_tree (Tail.closes part branches tail) rest =
    record { part = part; rest = branch_lines branches ++ (tail_lines tail ++ rest) }

-- how lines nest
unfoldable pub nest_of : List Line → Nest
nest_of lines = first_tree (split_of lines).tail (split_of lines).rest

-- the numbers of the items that lines choose, in their order, or the first refusal: 3 or 4
abbrev pub chosen_items : List Def → List ModName → List Line → Result (List ℕ) Diag
chosen_items defs there lines = selected (condition_value defs there) (nest_of lines).part (nest_of lines).rest
