use Rattle.std.proofs.Common.{◌≡◌, map, drop}
use Rattle.repeated_names.specs.Repeats.{earliest_with, repeats_in, all_repeats}
use Rattle.repeated_names.specs.Finding.{found_behind}
use Rattle.repeated_names.specs.RepeatedDecs.{exp_repeats, exp_item_repeats, rule_repeats, clause_repeats, fun_bind_repeats, val_bind_repeats, dec_repeats, exp_field_member}
use Rattle.repeated_names.proofs.find_exp.+find_exp.Given as goal

-- in each loop: what is found, and what is left
abbrev pub invariant-find_exps-loop-exp : goal.invariant-find_exps-loop-exp
invariant-find_exps-loop-exp l =
    earliest_with l.finder (all_repeats (map exp_repeats (drop l.exp-index l.exps)))
    ≡ earliest_with l.fn.finder (all_repeats (map exp_repeats l.exps))

abbrev pub invariant-find_items-loop-item : goal.invariant-find_items-loop-item
invariant-find_items-loop-item l =
    earliest_with l.finder (all_repeats (map exp_item_repeats (drop l.item-index l.items)))
    ≡ earliest_with l.fn.finder (all_repeats (map exp_item_repeats l.items))

abbrev pub invariant-find_rules-loop-rule : goal.invariant-find_rules-loop-rule
invariant-find_rules-loop-rule l =
    earliest_with l.finder (all_repeats (map rule_repeats (drop l.rule-index l.rules)))
    ≡ earliest_with l.fn.finder (all_repeats (map rule_repeats l.rules))

abbrev pub invariant-find_clauses-loop-clause : goal.invariant-find_clauses-loop-clause
invariant-find_clauses-loop-clause l =
    earliest_with l.finder (all_repeats (map clause_repeats (drop l.clause-index l.clauses)))
    ≡ earliest_with l.fn.finder (all_repeats (map clause_repeats l.clauses))

abbrev pub invariant-find_fun_binds-loop-bind : goal.invariant-find_fun_binds-loop-bind
invariant-find_fun_binds-loop-bind l =
    earliest_with l.finder (all_repeats (map fun_bind_repeats (drop l.bind-index l.binds)))
    ≡ earliest_with l.fn.finder (all_repeats (map fun_bind_repeats l.binds))

abbrev pub invariant-find_val_binds-loop-bind : goal.invariant-find_val_binds-loop-bind
invariant-find_val_binds-loop-bind l =
    earliest_with l.finder (all_repeats (map val_bind_repeats (drop l.bind-index l.binds)))
    ≡ earliest_with l.fn.finder (all_repeats (map val_bind_repeats l.binds))

abbrev pub invariant-find_decs-loop-dec : goal.invariant-find_decs-loop-dec
invariant-find_decs-loop-dec l =
    earliest_with l.finder (all_repeats (map dec_repeats (drop l.dec-index l.decs)))
    ≡ earliest_with l.fn.finder (all_repeats (map dec_repeats l.decs))

abbrev pub invariant-find_fields-loop-field : goal.invariant-find_fields-loop-field
invariant-find_fields-loop-field l =
    earliest_with l.finder (found_behind l.seen.keys (map exp_field_member (drop l.field-index l.fields)))
    ≡ earliest_with l.fn.finder (repeats_in (map exp_field_member l.fields))
