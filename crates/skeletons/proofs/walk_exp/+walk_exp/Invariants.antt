use Rattle.std.proofs.Common.{◌≡◌, ◌||◌, map, drop}
use Rattle.skeletons.specs.Scopes.{all_uses, sequence, joined}
use Rattle.skeletons.specs.Uses.{exp_field_uses, rule_uses, dec_brings, str_binding}
use Rattle.skeletons.specs.Walks.{noted, declared, bound}
use Rattle.skeletons.proofs.walk_exp.+walk_exp.Given as goal

-- what is noted, and the parts that are left
abbrev pub invariant-walk_exp_fields-loop-field : goal.invariant-walk_exp_fields-loop-field
invariant-walk_exp_fields-loop-field l =
    noted l.walk (all_uses (map exp_field_uses (drop l.field-index l.fields)))
    ≡ noted l.fn.walk (all_uses (map exp_field_uses l.fn.fields))

-- what is noted, and the parts that are left
abbrev pub invariant-walk_rules-loop-rule : goal.invariant-walk_rules-loop-rule
invariant-walk_rules-loop-rule l =
    noted l.walk (all_uses (map rule_uses (drop l.rule-index l.rules)))
    ≡ noted l.fn.walk (all_uses (map rule_uses l.fn.rules))

-- what is declared, and what is left
abbrev pub invariant-walk_decs-loop-dec : goal.invariant-walk_decs-loop-dec
invariant-walk_decs-loop-dec l = record {
  walked : declared l.walk (sequence (map dec_brings (drop l.dec-index l.decs)))
      ≡ declared l.fn.walk (sequence (map dec_brings l.fn.decs));
  opens : (sequence (map dec_brings (drop l.dec-index l.decs))).opens || l.opens
      ≡ (sequence (map dec_brings l.fn.decs)).opens;
}

-- what is noted, and the bindings that are left
abbrev pub invariant-walk_strs-loop-bind : goal.invariant-walk_strs-loop-bind
invariant-walk_strs-loop-bind l =
    noted l.walk (joined (map str_binding (drop l.bind-index l.binds))).uses
    ≡ noted l.fn.walk (joined (map str_binding l.fn.binds)).uses

-- the names that are bound, and those that are left
abbrev pub invariant-walk_str_binds-loop-bind : goal.invariant-walk_str_binds-loop-bind
invariant-walk_str_binds-loop-bind l =
    bound l.walk (joined (map str_binding (drop l.bind-index l.binds))).binds
    ≡ declared l.fn.walk (joined (map str_binding l.fn.binds))
