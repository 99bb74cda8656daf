use Rattle.type_nodes.specs.Tables.{type_of}
use Rattle.unification.specs.Unification.{depth}
use Rattle.cm_base.specs.declared.fault.Fault.TheVariants as fault
use Rattle.static_semantics.specs.CoreInference.{handled}
use Rattle.type_phrases.specs.Inferred.{progress}
use Rattle.type_phrases.proofs.Keeping.{keeps_later, keeps_extended}
use Rattle.pattern_elab.proofs.Stepping.{passed_on}
use Rattle.core_rules.specs.Rules.{IsRule}
use Rattle.core_rules.proofs.Ruling.{no_memory, keeps_same, handled_done, handled_fails}
use Rattle.core_rules.proofs.rules.handled.Goals as goal

pub returns-in_err-unify_at : goal.returns-in_err-unify_at
returns-in_err-unify_at c =
    passed_on (λ r. IsRule c.args.g.now c.args.t.now c.unify_at.new.t (λ sc. handled depth sc c.args.at (type_of
    c.args.t.now c.args.ty) (type_of c.args.t.now c.args.handler) (progress c.args.t.now c.args.g.now)) r)
    c.from_residual-in_err-unify_at.result c.in_err-unify_at.field-0.0 c.from_residual-in_err-unify_at.ensures.1
    (handled_fails c.args.g.now c.args.at c.args.t.now c.exn_type.new.t c.arrow.new.self c.unify_at.new.t
    c.args.handler c.args.ty c.in_ok-exn.exn c.in_ok-arrow.arrow c.in_err-unify_at.field-0.0
    (record {
      is = c.in_ok-exn.ensures.made;
      same = c.in_ok-exn.ensures.state;
      made = c.in_ok-arrow.ensures.made;
      known = c.in_ok-arrow.ensures.state;
      first = c.in_ok-exn.ensures.ids;
      second = keeps_extended c.exn_type.new.t
          c.arrow.new.self c.in_ok-arrow.ensures.extends;
      there = c.requires.ty;
    }) c.requires.handler
    c.in_err-unify_at.ensures.answer c.in_err-unify_at.ensures.ids)

pub returns : goal.returns
returns c =
    handled_done c.args.g.now c.args.at c.args.t.now c.exn_type.new.t c.arrow.new.self c.unify_at.new.t
    c.args.handler c.args.ty c.in_ok-exn.exn c.in_ok-arrow.arrow (record {
      is = c.in_ok-exn.ensures.made;
      same =
          c.in_ok-exn.ensures.state;
      made = c.in_ok-arrow.ensures.made;
      known = c.in_ok-arrow.ensures.state;
      first =
          c.in_ok-exn.ensures.ids;
      second = keeps_extended c.exn_type.new.t c.arrow.new.self c.in_ok-arrow.ensures.extends;
      there = c.requires.ty;
    }) c.requires.handler c.in_ok-unify_at.ensures.answer c.in_ok-unify_at.ensures.ids

pub returns-in_err-exn : goal.returns-in_err-exn
returns-in_err-exn c =
    passed_on (λ r. IsRule c.args.g.now c.args.t.now c.exn_type.new.t (λ sc. handled depth sc c.args.at (type_of
    c.args.t.now c.args.ty) (type_of c.args.t.now c.args.handler) (progress c.args.t.now c.args.g.now)) r)
    c.from_residual.result fault.NoMemory c.from_residual.ensures.1
    (no_memory c.args.g.now c.args.t.now c.exn_type.new.t (λ sc. handled depth sc c.args.at (type_of c.args.t.now
    c.args.ty) (type_of c.args.t.now c.args.handler) (progress c.args.t.now c.args.g.now)) c.exn_type.ensures.ids)

pub returns-in_err-arrow : goal.returns-in_err-arrow
returns-in_err-arrow c =
    passed_on (λ r. IsRule c.args.g.now c.args.t.now c.arrow.new.self (λ sc. handled depth sc c.args.at (type_of
    c.args.t.now c.args.ty) (type_of c.args.t.now c.args.handler) (progress c.args.t.now c.args.g.now)) r)
    c.from_residual-in_err-arrow.result fault.NoMemory c.from_residual-in_err-arrow.ensures.1
    (no_memory c.args.g.now c.args.t.now c.arrow.new.self (λ sc. handled depth sc c.args.at (type_of c.args.t.now
    c.args.ty) (type_of c.args.t.now c.args.handler) (progress c.args.t.now c.args.g.now)) (keeps_later c.args.t.now
    c.exn_type.new.t c.arrow.new.self c.in_ok-exn.ensures.ids (keeps_same c.exn_type.new.t c.arrow.new.self
    c.in_err-arrow.ensures.refused)))
