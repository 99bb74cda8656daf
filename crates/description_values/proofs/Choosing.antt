-- What lines choose is what those of their one tree do.
use Rattle.std.proofs.Common.{◌≡◌, ℕ, List, ◌++◌, Result, ap, ap₂, subst, sym, ◌∙◌, append_assoc}
use Rattle.cm_base.specs.Calls.{Gives}
use Rattle.cm_base.specs.declared.diag.Diag.{Diag}
use Rattle.cm_base.specs.declared.record.Def.{Def}
use Rattle.cm_base.specs.declared.record.ModName.{ModName}
use Rattle.cm_conditions.specs.Chosen.{selected}
use Rattle.cm_conditions.specs.Nesting.{Part, lines_of, branch_lines, Ends, IsNested}
use Rattle.cm_conditions.specs.Splitting.{Tail, tail_lines, split_of}
use Rattle.cm_conditions.specs.Values.{condition_value}
use Rattle.cm_conditions.specs.declared.line.Line.{Line}
use Rattle.cm_conditions.proofs.NestsOnce.{in_one_way}
use Rattle.cm_conditions.proofs.Splits.{split_lines, split_ends, misplaced}
use Rattle.description_values.specs.Choice.{first_tree, behind_first, tree_of, misplaced_of, chosen_items, ChoosesItems}

regrouped : (xs ys zs ws : List Line) → (xs ++ (ys ++ zs)) ++ ws ≡ xs ++ (ys ++ (zs ++ ws))
regrouped xs ys zs ws = append_assoc xs (ys ++ zs) ws ∙ ap (λ more. xs ++ more) (append_assoc ys zs ws)

first_nested : (lines : List Line) (t : Tail) (rest : List Line) → lines ≡ tail_lines t ++ rest → Ends rest
    → IsNested lines (first_tree t) (behind_first t rest)
first_nested lines (Tail.stop p) rest is ends = record { spelled = is; ends = ends }
first_nested lines (Tail.closes p b t) rest is ends = record {
  spelled = is ∙ regrouped (lines_of p) (branch_lines b) (tail_lines t) rest;
  ends = misplaced b (tail_lines t ++ rest);
}

nested : (lines : List Line) → IsNested lines (tree_of lines) (misplaced_of lines)
nested lines =
    first_nested lines (split_of lines).tail (split_of lines).rest (sym (split_lines lines)) (split_ends lines)

selected_once : (defs : List Def) (modules : List ModName) (lines : List Line) (part : Part) (rest : List Line)
    → IsNested lines part rest
    → selected (condition_value defs modules) part rest
    ≡ selected (condition_value defs modules) (tree_of lines) (misplaced_of lines)
selected_once defs modules lines part rest is =
    let one = in_one_way lines part (tree_of lines) rest (misplaced_of lines) is (nested lines) in
    ap₂ (λ (tree : Part) (more : List Line). selected (condition_value defs modules) tree more) one.0 one.1

pub chooses_items : ChoosesItems
unfolding chosen_items
chooses_items defs modules lines r (part, rest, is, gives) =
    subst (λ (m : Result (List ℕ) Diag). Gives r m) (selected_once defs modules lines part rest is) gives
