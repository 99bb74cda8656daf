use Rattle.bare_phrases.specs.PhraseOf.{pat_phrase}
use Rattle.core_rules.specs.Moments.{moment}
use Rattle.core_rules.proofs.Chains.{passed}
use Rattle.core_rules.proofs.MatchSteps.{pat_first, pat_second, pat_done, two_later}
use Rattle.pattern_elab.proofs.Scoping.{core_later}
use Rattle.core_rules.proofs.Readying.{pattern_under}
use Rattle.core_rules.proofs.matching.rule_pattern.Goals as goal

pub returns-in_err-id-clause-pattern : goal.returns-in_err-id-clause-pattern
returns-in_err-id-clause-pattern c =
    passed c.from_residual.result c.in_err-id.field-0.0 c.from_residual.ensures.1
    (pat_first {m = moment c.args.g.now c.args.t.now c.args.scope.now} c.args.first (pat_phrase c.args.pat.now)
    c.requires.scope c.new-bound.ensures c.in_err-id.ensures)

pub returns-in_err-id-clause-core : goal.returns-in_err-id-clause-core
returns-in_err-id-clause-core c =
    core_later c.args.g.now c.args.t.now c.elab_pat.new.t c.args.scope.now c.in_err-id.ensures.goes.ids
    c.requires.scope

pub returns-in_err-from-clause-pattern : goal.returns-in_err-from-clause-pattern
returns-in_err-from-clause-pattern c =
    passed c.from_residual-in_err-from.result c.in_err-from.field-0.0 c.from_residual-in_err-from.ensures.1
    (pat_second {m = moment c.args.g.now c.args.t.now c.args.scope.now} c.args.first (pat_phrase c.args.pat.now)
    c.requires.scope c.new-bound.ensures c.in_ok-id.ensures c.requires.first c.place_of_pat.ensures c.from_of.ensures
    c.in_err-from.ensures)

pub returns-in_err-from-clause-core : goal.returns-in_err-from-clause-core
returns-in_err-from-clause-core c =
    two_later c.args.g.now c.args.t.now c.elab_pat.new.t c.as_first.new.t c.args.scope.now c.requires.scope
    c.in_ok-id.ensures.goes.ids c.in_err-from.ensures.ids

pub returns-clause-pattern : goal.returns-clause-pattern
returns-clause-pattern c =
    pat_done {m = moment c.args.g.now c.args.t.now c.args.scope.now} c.args.first (pat_phrase c.args.pat.now)
    c.requires.scope c.new-bound.ensures c.in_ok-id.ensures c.requires.first c.place_of_pat.ensures c.from_of.ensures
    c.in_ok-from.ensures

pub returns-clause-core : goal.returns-clause-core
returns-clause-core c =
    two_later c.args.g.now c.args.t.now c.elab_pat.new.t c.as_first.new.t c.args.scope.now c.requires.scope
    c.in_ok-id.ensures.goes.ids c.in_ok-from.ensures.ids

pub returns-clause-ready : goal.returns-clause-ready
returns-clause-ready c =
    λ ready. pattern_under c.args.g.now c.args.t.now c.elab_pat.new.t c.as_first.new.t c.args.scope.now
    (pat_phrase c.args.pat.now) c.new-bound.result c.elab_pat.new.bound c.in_ok-id.id ready c.new-bound.ensures
    c.in_ok-id.ensures c.is_kept.ensures c.is_kept-2.ensures c.in_ok-from.ensures.ids
    (two_later c.args.g.now c.args.t.now c.elab_pat.new.t c.as_first.new.t c.args.scope.now c.requires.scope
    c.in_ok-id.ensures.goes.ids c.in_ok-from.ensures.ids)
