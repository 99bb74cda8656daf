use Rattle.std.proofs.Common.{◌+◌, ◌-◌, ◌*◌}
use Rattle.cm_bytes.specs.Fields.{items_at}
use Rattle.cm_bytes.proofs.Items.{HasRead}
use Rattle.sml_syntax.specs.ReadingSig.{sig_steps, sig_bind_at}
use Rattle.sml_syntax.proofs.read_sig.+read_sig.Given as goal

-- each level takes four calls at most: of the node, its parts, a list, and an item of the list
abbrev pub decreases-read_sig : goal.decreases-read_sig
decreases-read_sig l = 4 * l.depth

abbrev pub decreases-read_spec : goal.decreases-read_spec
decreases-read_spec l = 4 * l.depth

abbrev pub decreases-read_spec_body : goal.decreases-read_spec_body
decreases-read_spec_body l = 4 * l.depth

abbrev pub decreases-read_boxed_sig : goal.decreases-read_boxed_sig
decreases-read_boxed_sig l = 4 * l.depth + 1

abbrev pub decreases-read_sig_bind : goal.decreases-read_sig_bind
decreases-read_sig_bind l = 4 * l.depth + 1

abbrev pub decreases-read_sig_binds : goal.decreases-read_sig_binds
decreases-read_sig_binds l = 4 * l.depth + 2

abbrev pub decreases-read_specs : goal.decreases-read_specs
decreases-read_specs l = 4 * l.depth + 2

abbrev pub decreases-read_spec_body_parts : goal.decreases-read_spec_body_parts
decreases-read_spec_body_parts l = 4 * l.depth + 3

abbrev pub decreases-read_sig_parts : goal.decreases-read_sig_parts
decreases-read_sig_parts l = 4 * l.depth + 3

abbrev pub decreases-read_spec_parts : goal.decreases-read_spec_parts
decreases-read_spec_parts l = 4 * l.depth + 3

-- in each loop: the items so far, and those that are left
abbrev pub invariant-read_specs-loop : goal.invariant-read_specs-loop
invariant-read_specs-loop l =
    let item_at = (sig_steps l.depth).spec in
    HasRead item_at (items_at item_at l.count l.initial.reader) l.items (l.count - l.counter) l.reader

abbrev pub invariant-read_sig_binds-loop : goal.invariant-read_sig_binds-loop
invariant-read_sig_binds-loop l =
    let item_at = sig_bind_at l.depth (sig_steps l.depth) in
    HasRead item_at (items_at item_at l.count l.initial.reader) l.items (l.count - l.counter) l.reader
