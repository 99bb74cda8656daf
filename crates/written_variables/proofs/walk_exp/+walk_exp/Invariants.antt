use Rattle.std.proofs.Common.{◌≡◌, ◌++◌, map, drop}
use Rattle.bare_phrases.specs.PhraseOf.{exp_field_phrase, exp_fields, rule_phrase, rules_of}
use Rattle.static_semantics.specs.WrittenVariables.{tyvars_of_exp_fields, tyvars_of_rules}
use Rattle.written_variables.proofs.walk_exp.+walk_exp.Given as goal

-- what was met, and the fields that are left
abbrev pub invariant-walk_exp_fields-loop-field : goal.invariant-walk_exp_fields-loop-field
invariant-walk_exp_fields-loop-field l =
    l.met.items ++ tyvars_of_exp_fields (exp_fields (map exp_field_phrase (drop l.field-index l.fields)))
    ≡ l.fn.met.items ++ tyvars_of_exp_fields (exp_fields (map exp_field_phrase l.fn.fields))

-- .. and the rules
abbrev pub invariant-walk_rules-loop-rule : goal.invariant-walk_rules-loop-rule
invariant-walk_rules-loop-rule l =
    l.met.items ++ tyvars_of_rules (rules_of (map rule_phrase (drop l.rule-index l.rules)))
    ≡ l.fn.met.items ++ tyvars_of_rules (rules_of (map rule_phrase l.fn.rules))
