use Rattle.std.proofs.Common.{◌+◌, ◌-◌, ◌*◌}
use Rattle.cm_bytes.specs.Fields.{items_at}
use Rattle.cm_bytes.proofs.Items.{HasRead}
use Rattle.sml_syntax.specs.ReadingExp.{exp_steps, exp_field_at, rule_at, str_bind_at}
use Rattle.sml_syntax.proofs.read_exp.+read_exp.Given as goal

-- each level takes four calls at most: of the node, its parts, a list, and an item of the list
abbrev pub decreases-read_exp : goal.decreases-read_exp
decreases-read_exp l = 4 * l.depth

abbrev pub decreases-read_dec : goal.decreases-read_dec
decreases-read_dec l = 4 * l.depth

abbrev pub decreases-read_str : goal.decreases-read_str
decreases-read_str l = 4 * l.depth

abbrev pub decreases-read_body : goal.decreases-read_body
decreases-read_body l = 4 * l.depth

abbrev pub decreases-read_boxed_exp : goal.decreases-read_boxed_exp
decreases-read_boxed_exp l = 4 * l.depth + 1

abbrev pub decreases-read_boxed_str : goal.decreases-read_boxed_str
decreases-read_boxed_str l = 4 * l.depth + 1

abbrev pub decreases-read_exp_field : goal.decreases-read_exp_field
decreases-read_exp_field l = 4 * l.depth + 1

abbrev pub decreases-read_rule : goal.decreases-read_rule
decreases-read_rule l = 4 * l.depth + 1

abbrev pub decreases-read_str_bind : goal.decreases-read_str_bind
decreases-read_str_bind l = 4 * l.depth + 1

abbrev pub decreases-read_exp_fields : goal.decreases-read_exp_fields
decreases-read_exp_fields l = 4 * l.depth + 2

abbrev pub decreases-read_rules : goal.decreases-read_rules
decreases-read_rules l = 4 * l.depth + 2

abbrev pub decreases-read_decs : goal.decreases-read_decs
decreases-read_decs l = 4 * l.depth + 2

abbrev pub decreases-read_str_binds : goal.decreases-read_str_binds
decreases-read_str_binds l = 4 * l.depth + 2

abbrev pub decreases-read_body_parts : goal.decreases-read_body_parts
decreases-read_body_parts l = 4 * l.depth + 3

abbrev pub decreases-read_exp_parts : goal.decreases-read_exp_parts
decreases-read_exp_parts l = 4 * l.depth + 3

abbrev pub decreases-read_dec_parts : goal.decreases-read_dec_parts
decreases-read_dec_parts l = 4 * l.depth + 3

abbrev pub decreases-read_str_parts : goal.decreases-read_str_parts
decreases-read_str_parts l = 4 * l.depth + 3

-- in each loop: the items so far, and those that are left
abbrev pub invariant-read_exp_fields-loop : goal.invariant-read_exp_fields-loop
invariant-read_exp_fields-loop l =
    let item_at = exp_field_at l.depth (exp_steps l.depth) in
    HasRead item_at (items_at item_at l.count l.initial.reader) l.items (l.count - l.counter) l.reader

abbrev pub invariant-read_rules-loop : goal.invariant-read_rules-loop
invariant-read_rules-loop l =
    let item_at = rule_at l.depth (exp_steps l.depth) in
    HasRead item_at (items_at item_at l.count l.initial.reader) l.items (l.count - l.counter) l.reader

abbrev pub invariant-read_decs-loop : goal.invariant-read_decs-loop
invariant-read_decs-loop l =
    let item_at = (exp_steps l.depth).dec in
    HasRead item_at (items_at item_at l.count l.initial.reader) l.items (l.count - l.counter) l.reader

abbrev pub invariant-read_str_binds-loop : goal.invariant-read_str_binds-loop
invariant-read_str_binds-loop l =
    let item_at = str_bind_at l.depth (exp_steps l.depth) in
    HasRead item_at (items_at item_at l.count l.initial.reader) l.items (l.count - l.counter) l.reader
