use Rattle.std.proofs.Common.{refl}
use Rattle.std.specs.Prelude.{Ok, Err}
use Rattle.sml_trees.specs.declared.exp.Rule.{out-Rule}
use Rattle.bare_phrases.specs.PhraseOf.{pat_phrase, exp_phrase, rule_phrase}
use Rattle.bare_phrases.proofs.Forms.{rule_phrase-kept}
use Rattle.static_semantics.specs.Nonexpansive.{is_nonexpansive}
use Rattle.pattern_elab.specs.Scopes.{scope_of}
use Rattle.value_closing.specs.Groups.{groups_of}
use Rattle.value_closing.specs.Recursive.{IsRecPat}
use Rattle.value_closing.proofs.Closings.{passed_on}
use Rattle.value_closing.proofs.RecPats.{rec_pat_of, rec_pat_failed, rec_pat_refused, rec_pat_made}
use Rattle.value_closing.proofs.rec_pats.elab_rec_pat.Goals as goal

pub returns-in_err-ty : goal.returns-in_err-ty
returns-in_err-ty c =
    passed_on (IsRecPat c.args.g.now c.args.t.now c.args.scope.now (rule_phrase c.args.rule.now) c.elab_pat.new.t
    c.args.bound.now c.elab_pat.new.bound (groups_of c.args.groups.now) (groups_of c.args.groups.now))
    c.from_residual.result c.in_err-ty.field-0.0 c.from_residual.ensures.1
    (rec_pat_of c.args.g.now c.args.t.now c.elab_pat.new.t c.args.scope.now (rule_phrase c.args.rule.now)
    (pat_phrase (out-Rule c.args.rule.now).pat, exp_phrase (out-Rule c.args.rule.now).exp)
    c.args.bound.now c.elab_pat.new.bound (groups_of c.args.groups.now) (groups_of c.args.groups.now)
    (Err c.in_err-ty.field-0.0) (rule_phrase-kept c.args.rule.now)
    (rec_pat_failed c.args.g.now c.args.t.now c.args.scope.now (pat_phrase (out-Rule c.args.rule.now).pat)
    (exp_phrase (out-Rule c.args.rule.now).exp) c.elab_pat.new.t c.args.bound.now c.elab_pat.new.bound
    (groups_of c.args.groups.now) (groups_of c.args.groups.now) c.in_err-ty.field-0.0 c.in_err-ty.ensures))

pub returns-in_err-check_recursive : goal.returns-in_err-check_recursive
returns-in_err-check_recursive c =
    passed_on (IsRecPat c.args.g.now c.args.t.now c.args.scope.now (rule_phrase c.args.rule.now) c.elab_pat.new.t
    c.args.bound.now c.elab_pat.new.bound (groups_of c.args.groups.now) (groups_of c.args.groups.now))
    c.from_residual-in_err-check_recursive.result c.in_err-check_recursive.field-0.0
    c.from_residual-in_err-check_recursive.ensures.1
    (rec_pat_of c.args.g.now c.args.t.now c.elab_pat.new.t c.args.scope.now (rule_phrase c.args.rule.now)
    (pat_phrase (out-Rule c.args.rule.now).pat, exp_phrase (out-Rule c.args.rule.now).exp)
    c.args.bound.now c.elab_pat.new.bound (groups_of c.args.groups.now) (groups_of c.args.groups.now)
    (Err c.in_err-check_recursive.field-0.0) (rule_phrase-kept c.args.rule.now)
    (rec_pat_refused c.args.g.now c.args.t.now c.args.scope.now (pat_phrase (out-Rule c.args.rule.now).pat)
    (exp_phrase (out-Rule c.args.rule.now).exp) c.elab_pat.new.t c.args.bound.now c.elab_pat.new.bound
    (groups_of c.args.groups.now) (groups_of c.args.groups.now) c.in_ok-ty.ty c.in_err-check_recursive.field-0.0
    c.in_ok-ty.ensures c.in_err-check_recursive.ensures))

pub returns : goal.returns
returns c =
    rec_pat_of c.args.g.now c.args.t.now c.elab_pat.new.t c.args.scope.now (rule_phrase c.args.rule.now)
    (pat_phrase (out-Rule c.args.rule.now).pat, exp_phrase (out-Rule c.args.rule.now).exp)
    c.args.bound.now c.elab_pat.new.bound (groups_of c.args.groups.now) (groups_of c.add_binding.new.groups)
    (Ok c.in_ok-ty.ty) (rule_phrase-kept c.args.rule.now)
    (rec_pat_made c.args.g.now c.args.t.now c.args.scope.now (pat_phrase (out-Rule c.args.rule.now).pat)
    (exp_phrase (out-Rule c.args.rule.now).exp) c.elab_pat.new.t c.args.bound.now c.elab_pat.new.bound
    (groups_of c.args.groups.now) (groups_of c.add_binding.new.groups) c.in_ok-ty.ty
    (is_nonexpansive (scope_of c.args.g.now c.args.scope.now).env (exp_phrase (out-Rule c.args.rule.now).exp))
    c.len-start.result c.in_ok-ty.ensures c.in_ok-check_recursive.ensures refl c.len-start.ensures
    c.in_ok-add_binding.ensures.ok)
