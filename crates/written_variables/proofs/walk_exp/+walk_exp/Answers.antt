use Rattle.written_variables.proofs.Forms.{exp_field_moved, rule_moved}
use Rattle.written_variables.proofs.walk_exp.+walk_exp.Goals as goal

pub walk_exp_fields-loop-field-preserved : goal.walk_exp_fields-loop-field-preserved
walk_exp_fields-loop-field-preserved t c = exp_field_moved c.args.fields.now c.loop-field.field-index
    c.field-item.result c.loop-field.met.items c.walk_exp.new.met.items _ c.loop-field-test.true c.field-item.is
    c.in_ok-walk_exp.ensures c.loop-field.invariant

pub walk_rules-loop-rule-preserved : goal.walk_rules-loop-rule-preserved
walk_rules-loop-rule-preserved t c = rule_moved c.args.rules.now c.loop-rule.rule-index c.rule-item.result
    c.loop-rule.met.items c.walk_pat.new.met.items c.walk_exp.new.met.items _ c.loop-rule-test.true c.rule-item.is
    c.in_ok-walk_pat.ensures c.in_ok-walk_exp.ensures c.loop-rule.invariant
