use Rattle.std.proofs.Common.{◌≡◌, ◌++◌, drop, map, flat_map}
use Rattle.bare_forms.specs.Nodes.{joined_exp, applied_exp, missing_exp}
use Rattle.bare_forms.specs.Expressions.{decs_of, bare_dec, bare_exp, bare_item, bare_clause, bare_field, bare_fun_bind, bare_rule, bare_val_bind}
use Rattle.bare_forms.specs.Runs.{run_from, run_of}
use Rattle.derived_forms.proofs.exp.+to_exp.Given as goal

-- in each loop: what is made, and the items that are left
abbrev pub invariant-to_exps-loop-exp : goal.invariant-to_exps-loop-exp
invariant-to_exps-loop-exp l = l.made.items ++ map bare_exp (drop l.exp-index l.exps) ≡ map bare_exp l.exps

abbrev pub invariant-to_record-loop-field : goal.invariant-to_record-loop-field
invariant-to_record-loop-field l = l.made ++ map bare_field (drop l.field-index l.fields) ≡ map bare_field l.fields

abbrev pub invariant-to_rules-loop-rule : goal.invariant-to_rules-loop-rule
invariant-to_rules-loop-rule l = l.made ++ map bare_rule (drop l.rule-index l.rules) ≡ map bare_rule l.rules

abbrev pub invariant-to_clauses-loop-clause : goal.invariant-to_clauses-loop-clause
invariant-to_clauses-loop-clause l =
    l.made.items ++ map bare_clause (drop l.clause-index l.clauses) ≡ map bare_clause l.clauses

abbrev pub invariant-to_fun_binds-loop-bind : goal.invariant-to_fun_binds-loop-bind
invariant-to_fun_binds-loop-bind l = l.made ++ map bare_fun_bind (drop l.bind-index l.binds) ≡ map bare_fun_bind l.binds

abbrev pub invariant-to_val_binds-loop-bind : goal.invariant-to_val_binds-loop-bind
invariant-to_val_binds-loop-bind l =
    l.made.items ++ map bare_val_bind (drop l.bind-index l.binds) ≡ map bare_val_bind l.binds

abbrev pub invariant-to_sequence-loop-dec : goal.invariant-to_sequence-loop-dec
invariant-to_sequence-loop-dec l =
    l.made.items ++ flat_map decs_of (map bare_dec (drop l.dec-index l.decs)) ≡ flat_map decs_of (map bare_dec l.decs)

abbrev pub invariant-to_run-loop-item : goal.invariant-to_run-loop-item
invariant-to_run-loop-item l =
    run_from joined_exp applied_exp (missing_exp l.at) l.before.items l.begun (map bare_item (drop l.item-index l.items))
    ≡ run_of joined_exp applied_exp (missing_exp l.at) (map bare_item l.items)
