-- What a list of lines chooses, as a function: that of the one way in which its lines nest.
use Rattle.std.specs.Prelude.{ℕ, List, ◌++◌, Result}
use Rattle.cm_base.specs.Calls.{Gives}
use Rattle.cm_base.specs.declared.diag.Diag.{Diag}
use Rattle.cm_base.specs.declared.fault.Fault.{Fault}
use Rattle.cm_base.specs.declared.record.Def.{Def}
use Rattle.cm_base.specs.declared.record.ModName.{ModName}
use Rattle.cm_conditions.specs.Chosen.{selected, Selects}
use Rattle.cm_conditions.specs.Nesting.{Part, branch_lines}
use Rattle.cm_conditions.specs.Splitting.{Tail, tail_lines, split_of}
use Rattle.cm_conditions.specs.Values.{condition_value}
use Rattle.cm_conditions.specs.declared.line.Line.{Line}

-- the first tree of lines that are split
abbrev pub first_tree : Tail → Part
first_tree (Tail.stop part) = part
first_tree (Tail.closes part branches tail) = part

-- the lines behind it, of which the first is misplaced
abbrev pub behind_first : Tail → List Line → List Line
behind_first (Tail.stop part) rest = rest
behind_first (Tail.closes part branches tail) rest = branch_lines branches ++ (tail_lines tail ++ rest)

-- the tree that lines are, as far as they fit together, and what stands behind it
abbrev pub tree_of : List Line → Part
tree_of lines = first_tree (split_of lines).tail

abbrev pub misplaced_of : List Line → List Line
misplaced_of lines = behind_first (split_of lines).tail (split_of lines).rest

-- the numbers of the items that lines choose under these definitions, where these modules are there, or the first
-- refusal
unfoldable pub chosen_items : List Def → List ModName → List Line → Result (List ℕ) Diag
chosen_items defs modules lines = selected (condition_value defs modules) (tree_of lines) (misplaced_of lines)

-- whoever selects answers this
abbrev pub ChoosesItems : Type 0
ChoosesItems = (defs : List Def) (modules : List ModName) (lines : List Line) (r : Result (List ℕ) Fault)
    → Selects defs modules lines r → Gives r (chosen_items defs modules lines)
