use Rattle.std.proofs.Common.{◌+◌, ◌-◌, ◌*◌}
use Rattle.cm_bytes.specs.Fields.{items_at}
use Rattle.cm_bytes.proofs.Items.{HasRead}
use Rattle.sml_syntax.specs.ReadingPat.{pat_steps, pat_field_at}
use Rattle.sml_syntax.proofs.read_pat.+read_pat.Given as goal

-- each level takes four calls at most: of the node, its parts, a list, and an item of the list
abbrev pub decreases-read_pat : goal.decreases-read_pat
decreases-read_pat l = 4 * l.depth

abbrev pub decreases-read_boxed_pat : goal.decreases-read_boxed_pat
decreases-read_boxed_pat l = 4 * l.depth + 1

abbrev pub decreases-read_pat_field : goal.decreases-read_pat_field
decreases-read_pat_field l = 4 * l.depth + 1

abbrev pub decreases-read_pat_fields : goal.decreases-read_pat_fields
decreases-read_pat_fields l = 4 * l.depth + 2

abbrev pub decreases-read_pat_parts : goal.decreases-read_pat_parts
decreases-read_pat_parts l = 4 * l.depth + 3

-- in each loop: the items so far, and those that are left
abbrev pub invariant-read_pat_fields-loop : goal.invariant-read_pat_fields-loop
invariant-read_pat_fields-loop l =
    let item_at = pat_field_at l.depth (pat_steps l.depth) in
    HasRead item_at (items_at item_at l.count l.initial.reader) l.items (l.count - l.counter) l.reader
