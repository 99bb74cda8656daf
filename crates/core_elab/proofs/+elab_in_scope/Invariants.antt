use Rattle.bare_phrases.specs.PhraseOf.{dec_phrase, dec_phrases, rule_phrase}
use Rattle.core_rules.proofs.Binding.{BindsSoFar}
use Rattle.core_rules.proofs.Fields.{FieldsSoFar}
use Rattle.core_rules.proofs.Joining.{DecsSoFar}
use Rattle.core_rules.proofs.MatchSteps.{MatchSoFar}
use Rattle.core_rules.proofs.RecBinding.{RecExpsSoFar}
use Rattle.core_rules.specs.Moments.{moment}
use Rattle.std.proofs.Common.{map, drop}
use Rattle.value_closing.specs.Groups.{groups_of}
use Rattle.core_elab.proofs.+elab_in_scope.Given as goal

abbrev pub invariant-exp::elab_fields-loop-field : goal.invariant-exp::elab_fields-loop-field
invariant-exp::elab_fields-loop-field l =
    FieldsSoFar (moment l.fn.g l.fn.t l.fn.scope) (moment l.g l.t l.scope) l.fields l.field-index l.rows

abbrev pub invariant-exp::elab_match-loop-rule : goal.invariant-exp::elab_match-loop-rule
invariant-exp::elab_match-loop-rule l =
    MatchSoFar (moment l.fn.g l.fn.t l.fn.scope) (moment l.g l.t l.scope) l.rules l.rule-index l.first

-- what was elaborated so far, and the rules that are left
abbrev pub invariant-binds::elab_binds-loop-rule : goal.invariant-binds::elab_binds-loop-rule
invariant-binds::elab_binds-loop-rule l =
    BindsSoFar (moment l.fn.g l.fn.t l.fn.scope) (moment l.g l.t l.scope) (map rule_phrase l.rules)
    (map rule_phrase (drop l.rule-index l.rules)) l.fn.bound l.bound (groups_of l.fn.groups) (groups_of l.groups)

-- what was elaborated so far, and the rules and types that are left
abbrev pub invariant-rec_exps::elab_rec_exps-loop-rule : goal.invariant-rec_exps::elab_rec_exps-loop-rule
invariant-rec_exps::elab_rec_exps-loop-rule l =
    RecExpsSoFar (moment l.fn.g l.fn.t l.fn.scope) (moment l.g l.t l.scope) (map rule_phrase l.recs)
    (map rule_phrase (drop l.rule-index l.recs)) l.types l.left

-- what was made so far, and the declarations that are left
abbrev pub invariant-declared::elab_each-loop-dec : goal.invariant-declared::elab_each-loop-dec
invariant-declared::elab_each-loop-dec l =
    DecsSoFar (moment l.fn.g l.fn.t l.fn.scope) (moment l.g l.t l.scope) (dec_phrases (map dec_phrase l.decs))
    (dec_phrases (map dec_phrase (drop l.dec-index l.decs))) l.all
