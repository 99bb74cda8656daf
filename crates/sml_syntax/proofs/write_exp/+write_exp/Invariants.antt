use Rattle.std.proofs.Common.{◌≡◌, ◌++◌, drop, flat_map}
use Rattle.cm_bytes.specs.Fields.{list_of}
use Rattle.sml_syntax.specs.Code.{exp_field_of, rule_of, dec_of, str_bind_of}
use Rattle.sml_syntax.proofs.write_exp.+write_exp.Given as goal

-- in each loop: what is written, and the items that are left
abbrev pub invariant-write_exp_fields-loop-field : goal.invariant-write_exp_fields-loop-field
invariant-write_exp_fields-loop-field l =
    l.out ++ flat_map exp_field_of (drop l.field-index l.fields) ≡ l.fn.out ++ list_of exp_field_of l.fn.fields

abbrev pub invariant-write_rules-loop-rule : goal.invariant-write_rules-loop-rule
invariant-write_rules-loop-rule l =
    l.out ++ flat_map rule_of (drop l.rule-index l.rules) ≡ l.fn.out ++ list_of rule_of l.fn.rules

abbrev pub invariant-write_decs-loop-dec : goal.invariant-write_decs-loop-dec
invariant-write_decs-loop-dec l =
    l.out ++ flat_map dec_of (drop l.dec-index l.decs) ≡ l.fn.out ++ list_of dec_of l.fn.decs

abbrev pub invariant-write_str_binds-loop-bind : goal.invariant-write_str_binds-loop-bind
invariant-write_str_binds-loop-bind l =
    l.out ++ flat_map str_bind_of (drop l.bind-index l.binds) ≡ l.fn.out ++ list_of str_bind_of l.fn.binds
