use Rattle.std.proofs.Common.{map, ap, ◌∙◌, drop}
use Rattle.cm_base.specs.declared.fault.Fault.TheVariants as fault
use Rattle.bare_phrases.specs.PhraseOf.{rule_phrase}
use Rattle.value_closing.specs.Groups.{groups_of}
use Rattle.value_closing.specs.Recursive.{AreRecPats}
use Rattle.core_rules.proofs.Binding.{passed_on}
use Rattle.core_elab.specs.Patterns.{types_of}
use Rattle.core_elab.proofs.patterns.rec_patterns.Goals as goal

pub returns-in_err-types-clause-pats : goal.returns-in_err-types-clause-pats
returns-in_err-types-clause-pats c =
    passed_on (λ r. AreRecPats c.args.g.now c.args.t.now c.args.scope.now (map rule_phrase c.args.recs.now)
    c.elab_rec_pats.new.t c.args.bound.now c.elab_rec_pats.new.bound (groups_of c.args.groups.now)
    (groups_of c.elab_rec_pats.new.groups) (types_of r)) c.from_residual.result c.in_err-types.field-0.0
    c.from_residual.ensures.1 c.in_err-types.ensures

pub returns-in_err-since-clause-pats : goal.returns-in_err-since-clause-pats
returns-in_err-since-clause-pats c =
    passed_on (λ r. AreRecPats c.args.g.now c.args.t.now c.args.scope.now (map rule_phrase c.args.recs.now)
    c.elab_rec_pats.new.t c.args.bound.now c.elab_rec_pats.new.bound (groups_of c.args.groups.now)
    (groups_of c.elab_rec_pats.new.groups) (types_of r)) c.from_residual-in_err-since.result fault.NoMemory
    c.from_residual-in_err-since.ensures.1 (record { answers = tt; goes = c.in_ok-types.ensures.goes })

pub returns-clause-pats : goal.returns-clause-pats
returns-clause-pats c = c.in_ok-types.ensures

pub returns-clause-since : goal.returns-clause-since
returns-clause-since c = c.in_ok-since.ensures ∙ ap (λ n. drop n c.elab_rec_pats.new.bound) c.len-start.ensures
