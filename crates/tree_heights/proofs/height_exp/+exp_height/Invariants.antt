use Rattle.std.proofs.Common.{◌≡◌, ◌++◌, map, drop}
use Rattle.tree_heights.specs.Heights.{highest_with, highest}
use Rattle.tree_heights.specs.NodeHeights.{joined_exp_height, applied_exp_height, missing_exp_height}
use Rattle.tree_heights.specs.FullExpHeights.{full_exp, full_item, full_field, full_rule, full_clause, full_fun_bind, full_val_bind, full_dec}
use Rattle.bare_forms.specs.Runs.{run_from, run_of}
use Rattle.tree_heights.proofs.height_exp.+exp_height.Given as goal

-- in each loop: what is made, and the items that are left
abbrev pub invariant-exp_heights-loop-exp : goal.invariant-exp_heights-loop-exp
invariant-exp_heights-loop-exp l = l.made.items ++ map full_exp (drop l.exp-index l.exps) ≡ map full_exp l.exps

abbrev pub invariant-highest_exp-loop-exp : goal.invariant-highest_exp-loop-exp
invariant-highest_exp-loop-exp l =
    highest_with l.made (map full_exp (drop l.exp-index l.exps)) ≡ highest (map full_exp l.exps)

abbrev pub invariant-fields_height-loop-field : goal.invariant-fields_height-loop-field
invariant-fields_height-loop-field l =
    highest_with l.made (map full_field (drop l.field-index l.fields)) ≡ highest (map full_field l.fields)

abbrev pub invariant-rules_height-loop-rule : goal.invariant-rules_height-loop-rule
invariant-rules_height-loop-rule l =
    highest_with l.made (map full_rule (drop l.rule-index l.rules)) ≡ highest (map full_rule l.rules)

abbrev pub invariant-clauses_height-loop-clause : goal.invariant-clauses_height-loop-clause
invariant-clauses_height-loop-clause l =
    highest_with l.made (map full_clause (drop l.clause-index l.clauses)) ≡ highest (map full_clause l.clauses)

abbrev pub invariant-fun_binds_height-loop-bind : goal.invariant-fun_binds_height-loop-bind
invariant-fun_binds_height-loop-bind l =
    highest_with l.made (map full_fun_bind (drop l.bind-index l.binds)) ≡ highest (map full_fun_bind l.binds)

abbrev pub invariant-val_binds_height-loop-bind : goal.invariant-val_binds_height-loop-bind
invariant-val_binds_height-loop-bind l =
    highest_with l.made (map full_val_bind (drop l.bind-index l.binds)) ≡ highest (map full_val_bind l.binds)

abbrev pub invariant-decs_height-loop-dec : goal.invariant-decs_height-loop-dec
invariant-decs_height-loop-dec l =
    highest_with l.made (map full_dec (drop l.dec-index l.decs)) ≡ highest (map full_dec l.decs)

abbrev pub invariant-exp_run_height-loop-item : goal.invariant-exp_run_height-loop-item
invariant-exp_run_height-loop-item l =
    run_from joined_exp_height applied_exp_height missing_exp_height l.before.items l.begun
    (map full_item (drop l.item-index l.items))
    ≡ run_of joined_exp_height applied_exp_height missing_exp_height (map full_item l.items)
