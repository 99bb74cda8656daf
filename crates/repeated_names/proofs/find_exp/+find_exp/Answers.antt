use Rattle.repeated_names.specs.RepeatedDecs.{exp_repeats, exp_item_repeats, rule_repeats, clause_repeats, fun_bind_repeats, val_bind_repeats, dec_repeats, exp_field_member}
use Rattle.repeated_names.proofs.Found.{phrase_step, member_step}
use Rattle.repeated_names.proofs.FoundDecs.{exp_field_member-kept}
use Rattle.repeated_names.proofs.find_exp.+find_exp.Goals as goal

pub find_exps-loop-exp-preserved : goal.find_exps-loop-exp-preserved
find_exps-loop-exp-preserved t c =
    phrase_step exp_repeats c.args.exps.now c.loop-exp.exp-index c.exp-item.result c.loop-exp.finder
    c.find_exp.new.finder _ c.loop-exp-test.true c.exp-item.is c.in_ok-find_exp.ensures c.loop-exp.invariant

pub find_items-loop-item-preserved : goal.find_items-loop-item-preserved
find_items-loop-item-preserved t c =
    phrase_step exp_item_repeats c.args.items.now c.loop-item.item-index c.item-item.result c.loop-item.finder
    c.find_item.new.finder _ c.loop-item-test.true c.item-item.is c.in_ok-find_item.ensures c.loop-item.invariant

pub find_rules-loop-rule-preserved : goal.find_rules-loop-rule-preserved
find_rules-loop-rule-preserved t c =
    phrase_step rule_repeats c.args.rules.now c.loop-rule.rule-index c.rule-item.result c.loop-rule.finder
    c.find_rule.new.finder _ c.loop-rule-test.true c.rule-item.is c.in_ok-find_rule.ensures c.loop-rule.invariant

pub find_clauses-loop-clause-preserved : goal.find_clauses-loop-clause-preserved
find_clauses-loop-clause-preserved t c =
    phrase_step clause_repeats c.args.clauses.now c.loop-clause.clause-index c.clause-item.result c.loop-clause.finder
    c.find_clause.new.finder _ c.loop-clause-test.true c.clause-item.is c.in_ok-find_clause.ensures c.loop-clause.invariant

pub find_fun_binds-loop-bind-preserved : goal.find_fun_binds-loop-bind-preserved
find_fun_binds-loop-bind-preserved t c =
    phrase_step fun_bind_repeats c.args.binds.now c.loop-bind.bind-index c.bind-item.result c.loop-bind.finder
    c.find_fun_bind.new.finder _ c.loop-bind-test.true c.bind-item.is c.in_ok-find_fun_bind.ensures c.loop-bind.invariant

pub find_val_binds-loop-bind-preserved : goal.find_val_binds-loop-bind-preserved
find_val_binds-loop-bind-preserved t c =
    phrase_step val_bind_repeats c.args.binds.now c.loop-bind.bind-index c.bind-item.result c.loop-bind.finder
    c.find_val_bind.new.finder _ c.loop-bind-test.true c.bind-item.is c.in_ok-find_val_bind.ensures c.loop-bind.invariant

pub find_decs-loop-dec-preserved : goal.find_decs-loop-dec-preserved
find_decs-loop-dec-preserved t c =
    phrase_step dec_repeats c.args.decs.now c.loop-dec.dec-index c.dec-item.result c.loop-dec.finder
    c.find_dec.new.finder _ c.loop-dec-test.true c.dec-item.is c.in_ok-find_dec.ensures c.loop-dec.invariant

pub find_fields-loop-field-preserved : goal.find_fields-loop-field-preserved
find_fields-loop-field-preserved t c =
    member_step exp_field_member c.args.fields.now c.loop-field.field-index c.field-item.result _ c.loop-field.finder
    c.see.new.self c.find_exp.new.finder _ c.loop-field.seen.keys c.see.new.seen.keys c.loop-field-test.true
    c.field-item.is (exp_field_member-kept c.field-item.result) c.in_ok-see.ensures.first c.in_ok-see.ensures.names
    c.in_ok-find_exp.ensures c.loop-field.invariant
