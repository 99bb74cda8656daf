use Rattle.std.proofs.Common.{◌+◌, ◌-◌, ◌*◌}
use Rattle.cm_bytes.specs.Fields.{items_at}
use Rattle.cm_bytes.proofs.Items.{HasRead}
use Rattle.sml_syntax.specs.Reading.{ty_at, ty_field_at}
use Rattle.sml_syntax.proofs.read_ty.+read_ty.Given as goal

-- each level takes four calls at most: of the node, its parts, a list, and an item of the list
abbrev pub decreases-read_ty : goal.decreases-read_ty
decreases-read_ty l = 4 * l.depth

abbrev pub decreases-read_boxed_ty : goal.decreases-read_boxed_ty
decreases-read_boxed_ty l = 4 * l.depth + 1

abbrev pub decreases-read_ty_field : goal.decreases-read_ty_field
decreases-read_ty_field l = 4 * l.depth + 1

abbrev pub decreases-read_tys : goal.decreases-read_tys
decreases-read_tys l = 4 * l.depth + 2

abbrev pub decreases-read_ty_fields : goal.decreases-read_ty_fields
decreases-read_ty_fields l = 4 * l.depth + 2

abbrev pub decreases-read_ty_parts : goal.decreases-read_ty_parts
decreases-read_ty_parts l = 4 * l.depth + 3

-- in each loop: the items so far, and those that are left
abbrev pub invariant-read_tys-loop : goal.invariant-read_tys-loop
invariant-read_tys-loop l =
    let item_at = ty_at l.depth in
    HasRead item_at (items_at item_at l.count l.initial.reader) l.items (l.count - l.counter) l.reader

abbrev pub invariant-read_ty_fields-loop : goal.invariant-read_ty_fields-loop
invariant-read_ty_fields-loop l =
    let item_at = ty_field_at (ty_at l.depth) in
    HasRead item_at (items_at item_at l.count l.initial.reader) l.items (l.count - l.counter) l.reader
