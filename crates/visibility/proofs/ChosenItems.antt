-- The items that lines choose, as a function of them, are those of `select`.
use Rattle.std.proofs.Common.{◌≡◌, ◌∙◌, sym, ap, ap₂, refl, subst, ℕ, List, [], ◌++◌, append_assoc, Result}
use Rattle.cm_base.specs.Calls.{Gives}
use Rattle.cm_base.specs.declared.fault.Fault.{Fault}
use Rattle.cm_base.specs.declared.record.Def.{Def}
use Rattle.cm_base.specs.declared.record.ModName.{ModName}
use Rattle.cm_conditions.proofs.NestsOnce.{in_one_way}
use Rattle.cm_conditions.proofs.Splits.{split_lines, split_ends, misplaced}
use Rattle.cm_conditions.specs.Chosen.{selected, Selects}
use Rattle.cm_conditions.specs.Nesting.{Part, Branches, lines_of, branch_lines, IsNested, Ends}
use Rattle.cm_conditions.specs.Splitting.{Tail, tail_lines, split_of}
use Rattle.cm_conditions.specs.Values.{condition_value}
use Rattle.cm_conditions.specs.declared.line.Line.{Line}
use Rattle.visibility.specs.Choosing.{Nest, first_tree, nest_of, chosen_items}
use Rattle.visibility.specs.Laws.{ChosenAreSelected}

-- the first tree of lines that fit together so stands before the others
first_nests : (lines : List Line) (tail : Tail) (rest : List Line) → lines ≡ tail_lines tail ++ rest → Ends rest
    → IsNested lines (first_tree tail rest).part (first_tree tail rest).rest
first_nests lines (Tail.stop part) rest is ends = record { spelled = is; ends = ends }
first_nests lines (Tail.closes part branches tail) rest is ends = record {
  spelled =
      is ∙ append_assoc (lines_of part) (branch_lines branches ++ tail_lines tail) rest
      ∙ ap (λ more. lines_of part ++ more) (append_assoc (branch_lines branches) (tail_lines tail) rest);
  ends = misplaced branches (tail_lines tail ++ rest);
}

-- lines nest as the function says
nests : (lines : List Line) → IsNested lines (nest_of lines).part (nest_of lines).rest
unfolding nest_of
nests lines = first_nests lines (split_of lines).tail (split_of lines).rest (sym (split_lines lines)) (split_ends lines)

pub chosen_selected : ChosenAreSelected
chosen_selected defs there lines result h =
    let same = in_one_way lines h.0 (nest_of lines).part h.1 (nest_of lines).rest h.2 (nests lines) in
    subst (Gives result) (ap₂ (selected (condition_value defs there)) same.0 same.1) h.3

-- the answer of a call of `select`
pub selected_is : (defs : List Def) (there : List ModName) (lines : List Line) (result : Result (List ℕ) Fault)
    → Selects defs there lines result → Gives result (chosen_items defs there lines)
selected_is defs there lines result h = chosen_selected defs there lines result h
