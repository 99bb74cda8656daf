use Rattle.std.proofs.Common.{◌≡◌, ◌++◌, map, drop}
use Rattle.tree_heights.specs.Heights.{highest_with, highest}
use Rattle.tree_heights.specs.NodeHeights.{joined_pat_height, applied_pat_height, missing_pat_height}
use Rattle.tree_heights.specs.FullHeights.{height_of_pat, full_pat_field, full_pat_item}
use Rattle.bare_forms.specs.Runs.{run_from, run_of}
use Rattle.tree_heights.proofs.height_pat.+pat_height.Given as goal

-- in each loop: what is made, and the items that are left
abbrev pub invariant-pat_heights-loop-pat : goal.invariant-pat_heights-loop-pat
invariant-pat_heights-loop-pat l = l.made.items ++ map height_of_pat (drop l.pat-index l.pats) ≡ map height_of_pat l.pats

abbrev pub invariant-highest_pat-loop-pat : goal.invariant-highest_pat-loop-pat
invariant-highest_pat-loop-pat l =
    highest_with l.made (map height_of_pat (drop l.pat-index l.pats)) ≡ highest (map height_of_pat l.pats)

abbrev pub invariant-pat_fields_height-loop-field : goal.invariant-pat_fields_height-loop-field
invariant-pat_fields_height-loop-field l =
    highest_with l.made (map full_pat_field (drop l.field-index l.fields)) ≡ highest (map full_pat_field l.fields)

abbrev pub invariant-pat_run_height-loop-item : goal.invariant-pat_run_height-loop-item
invariant-pat_run_height-loop-item l =
    run_from joined_pat_height applied_pat_height missing_pat_height l.before.items l.begun
    (map full_pat_item (drop l.item-index l.items))
    ≡ run_of joined_pat_height applied_pat_height missing_pat_height (map full_pat_item l.items)
