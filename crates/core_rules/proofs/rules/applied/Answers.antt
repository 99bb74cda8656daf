use Rattle.type_nodes.specs.Tables.{type_of}
use Rattle.unification.specs.Unification.{depth}
use Rattle.cm_base.specs.declared.fault.Fault.TheVariants as fault
use Rattle.static_semantics.specs.CoreInference.{applied}
use Rattle.type_phrases.specs.Inferred.{progress}
use Rattle.type_phrases.proofs.Keeping.{keeps_later, keeps_extended}
use Rattle.pattern_elab.proofs.Stepping.{passed_on}
use Rattle.core_rules.specs.Rules.{IsRule}
use Rattle.core_rules.proofs.Ruling.{no_memory, keeps_same, fresh_has, applied_done, applied_fails}
use Rattle.core_rules.proofs.rules.applied.Goals as goal

pub returns-in_err-unify_at : goal.returns-in_err-unify_at
returns-in_err-unify_at c =
    passed_on (λ r. IsRule c.args.g.now c.args.t.now c.unify_at.new.t (λ sc. applied depth sc c.args.at (type_of
    c.args.t.now c.args.function) (type_of c.args.t.now c.args.argument) (progress c.args.t.now c.args.g.now)) r)
    c.from_residual-in_err-unify_at.result c.in_err-unify_at.field-0.0 c.from_residual-in_err-unify_at.ensures.1
    (applied_fails c.args.g.now c.args.at c.args.t.now c.fresh.new.self c.arrow.new.self c.unify_at.new.t
    c.args.function c.args.argument c.in_ok-to.to c.in_ok-arrow.arrow c.in_err-unify_at.field-0.0
    (record {
      next = c.is_kept.ensures.next;
      is = c.in_ok-to.ensures.id;
      new = c.in_ok-to.ensures.state;
      made =
          c.in_ok-arrow.ensures.made;
      known = c.in_ok-arrow.ensures.state;
      first = keeps_extended c.args.t.now
          c.fresh.new.self c.in_ok-to.ensures.extends;
      second = keeps_extended c.fresh.new.self c.arrow.new.self
          c.in_ok-arrow.ensures.extends;
      there = c.requires.argument;
    }) c.requires.function
    c.in_err-unify_at.ensures.answer c.in_err-unify_at.ensures.ids)

pub returns : goal.returns
returns c =
    applied_done c.args.g.now c.args.at c.args.t.now c.fresh.new.self c.arrow.new.self c.unify_at.new.t
    c.args.function c.args.argument c.in_ok-to.to c.in_ok-arrow.arrow (record {
      next = c.is_kept.ensures.next;
      is =
          c.in_ok-to.ensures.id;
      new = c.in_ok-to.ensures.state;
      made = c.in_ok-arrow.ensures.made;
      known =
          c.in_ok-arrow.ensures.state;
      first = keeps_extended c.args.t.now c.fresh.new.self c.in_ok-to.ensures.extends;
      second = keeps_extended c.fresh.new.self c.arrow.new.self c.in_ok-arrow.ensures.extends;
      there =
          c.requires.argument;
    }) c.requires.function (c.in_ok-arrow.ensures.extends.ids c.in_ok-to.to (fresh_has
    c.args.t.now c.fresh.new.self c.in_ok-to.to _ c.in_ok-to.ensures.id c.in_ok-to.ensures.made))
    c.in_ok-unify_at.ensures.answer c.in_ok-unify_at.ensures.ids

pub returns-in_err-to : goal.returns-in_err-to
returns-in_err-to c =
    passed_on (λ r. IsRule c.args.g.now c.args.t.now c.fresh.new.self (λ sc. applied depth sc c.args.at (type_of
    c.args.t.now c.args.function) (type_of c.args.t.now c.args.argument) (progress c.args.t.now c.args.g.now)) r)
    c.from_residual.result fault.NoMemory c.from_residual.ensures.1
    (no_memory c.args.g.now c.args.t.now c.fresh.new.self (λ sc. applied depth sc c.args.at (type_of c.args.t.now
    c.args.function) (type_of c.args.t.now c.args.argument) (progress c.args.t.now c.args.g.now)) (keeps_same
    c.args.t.now c.fresh.new.self c.in_err-to.ensures.refused))

pub returns-in_err-arrow : goal.returns-in_err-arrow
returns-in_err-arrow c =
    passed_on (λ r. IsRule c.args.g.now c.args.t.now c.arrow.new.self (λ sc. applied depth sc c.args.at (type_of
    c.args.t.now c.args.function) (type_of c.args.t.now c.args.argument) (progress c.args.t.now c.args.g.now)) r)
    c.from_residual-in_err-arrow.result fault.NoMemory c.from_residual-in_err-arrow.ensures.1
    (no_memory c.args.g.now c.args.t.now c.arrow.new.self (λ sc. applied depth sc c.args.at (type_of c.args.t.now
    c.args.function) (type_of c.args.t.now c.args.argument) (progress c.args.t.now c.args.g.now)) (keeps_later
    c.args.t.now c.fresh.new.self c.arrow.new.self (keeps_extended c.args.t.now c.fresh.new.self
    c.in_ok-to.ensures.extends) (keeps_same c.fresh.new.self c.arrow.new.self c.in_err-arrow.ensures.refused)))
