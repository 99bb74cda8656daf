use Rattle.std.proofs.Common.{ℕ, ◌+◌, List, ap, map, drop}
use Rattle.std.specs.Prelude.{Ok}
use Rattle.cm_base.specs.declared.fault.Fault.TheVariants as fault
use Rattle.sml_trees.specs.declared.exp.Rule.{Rule}
use Rattle.bare_phrases.specs.PhraseOf.{rule_phrase}
use Rattle.type_phrases.proofs.PartsRead.{drop_item, drop_end}
use Rattle.pattern_elab.proofs.Scoping.{core_later}
use Rattle.value_closing.specs.Groups.{groups_of}
use Rattle.value_closing.specs.Recursive.{AreRecPats}
use Rattle.value_closing.proofs.Closings.{passed_on}
use Rattle.value_closing.proofs.RecPats.{rec_pats_begin, rec_pats_next, rec_pats_failed, rec_pats_stopped, rec_pats_end}
use Rattle.value_closing.proofs.rec_pats.elab_rec_pats.Goals as goal

pub loop-rule-init : goal.loop-rule-init
loop-rule-init c =
    rec_pats_begin c.args.g.now c.args.t.now c.args.scope.now (map rule_phrase c.args.recs.now) c.args.bound.now
    (groups_of c.args.groups.now) c.new-types.result c.new-types.ensures

pub elab_rec_pat-requires : goal.elab_rec_pat-requires
elab_rec_pat-requires c =
    core_later c.args.g.now c.args.t.now c.loop-rule.t c.args.scope.now c.loop-rule.invariant.goes.ids c.requires

pub loop-rule-preserved : goal.loop-rule-preserved
loop-rule-preserved c =
    let i : ℕ = c.loop-rule.rule-index in
    rec_pats_next c.args.g.now c.args.t.now c.loop-rule.t c.elab_rec_pat.new.t c.args.scope.now
    (map rule_phrase c.args.recs.now) (map rule_phrase (drop i c.args.recs.now))
    (map rule_phrase (drop (i + 1) c.args.recs.now)) (rule_phrase c.rule-item.result) c.args.bound.now
    c.loop-rule.bound c.elab_rec_pat.new.bound (groups_of c.args.groups.now) (groups_of c.loop-rule.groups)
    (groups_of c.elab_rec_pat.new.groups) c.loop-rule.types c.add.new.self c.in_ok-elab_rec_pat.field-0
    c.loop-rule.invariant
    (ap (λ (rules : List Rule). map rule_phrase rules)
    (drop_item c.args.recs.now i c.rule-item.result c.loop-rule-test.true c.rule-item.is))
    c.in_ok-elab_rec_pat.ensures c.in_ok-add.ensures.ok

pub returns-in_err-elab_rec_pat : goal.returns-in_err-elab_rec_pat
returns-in_err-elab_rec_pat c =
    let i : ℕ = c.loop-rule.rule-index in
    passed_on (AreRecPats c.args.g.now c.args.t.now c.args.scope.now (map rule_phrase c.args.recs.now)
    c.elab_rec_pat.new.t c.args.bound.now c.elab_rec_pat.new.bound (groups_of c.args.groups.now)
    (groups_of c.elab_rec_pat.new.groups)) c.from_residual.result c.in_err-elab_rec_pat.field-0.0
    c.from_residual.ensures.1
    (rec_pats_failed c.args.g.now c.args.t.now c.loop-rule.t c.elab_rec_pat.new.t c.args.scope.now
    (map rule_phrase c.args.recs.now) (map rule_phrase (drop i c.args.recs.now))
    (map rule_phrase (drop (i + 1) c.args.recs.now)) (rule_phrase c.rule-item.result) c.args.bound.now
    c.loop-rule.bound c.elab_rec_pat.new.bound (groups_of c.args.groups.now) (groups_of c.loop-rule.groups)
    (groups_of c.elab_rec_pat.new.groups) (groups_of c.elab_rec_pat.new.groups) c.loop-rule.types
    c.in_err-elab_rec_pat.field-0.0 c.loop-rule.invariant
    (ap (λ (rules : List Rule). map rule_phrase rules)
    (drop_item c.args.recs.now i c.rule-item.result c.loop-rule-test.true c.rule-item.is))
    c.in_err-elab_rec_pat.ensures)

pub returns-in_err-add : goal.returns-in_err-add
returns-in_err-add c =
    passed_on (AreRecPats c.args.g.now c.args.t.now c.args.scope.now (map rule_phrase c.args.recs.now)
    c.elab_rec_pat.new.t c.args.bound.now c.elab_rec_pat.new.bound (groups_of c.args.groups.now)
    (groups_of c.elab_rec_pat.new.groups)) c.from_residual-in_err-add.result fault.NoMemory
    c.from_residual-in_err-add.ensures.1
    (rec_pats_stopped c.args.g.now c.args.t.now c.loop-rule.t c.elab_rec_pat.new.t c.args.scope.now
    (map rule_phrase c.args.recs.now) (map rule_phrase (drop c.loop-rule.rule-index c.args.recs.now))
    (rule_phrase c.rule-item.result) c.args.bound.now c.loop-rule.bound c.elab_rec_pat.new.bound
    (groups_of c.args.groups.now) (groups_of c.loop-rule.groups) (groups_of c.elab_rec_pat.new.groups)
    (groups_of c.elab_rec_pat.new.groups) c.loop-rule.types (Ok c.in_ok-elab_rec_pat.field-0) c.loop-rule.invariant
    c.in_ok-elab_rec_pat.ensures)

pub returns : goal.returns
returns c =
    rec_pats_end c.args.g.now c.args.t.now c.loop-rule.t c.args.scope.now (map rule_phrase c.args.recs.now)
    (map rule_phrase (drop c.loop-rule.rule-index c.args.recs.now)) c.args.bound.now c.loop-rule.bound
    (groups_of c.args.groups.now) (groups_of c.loop-rule.groups) c.loop-rule.types c.loop-rule.invariant
    (ap (λ (rules : List Rule). map rule_phrase rules)
    (drop_end c.args.recs.now c.loop-rule.rule-index c.loop-rule-test.false))
