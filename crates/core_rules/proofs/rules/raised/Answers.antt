use Rattle.type_nodes.specs.Tables.{type_of}
use Rattle.unification.specs.Unification.{depth}
use Rattle.cm_base.specs.declared.fault.Fault.TheVariants as fault
use Rattle.static_semantics.specs.CoreInference.{raised}
use Rattle.type_phrases.specs.Inferred.{progress}
use Rattle.type_phrases.proofs.Keeping.{keeps_later, keeps_extended}
use Rattle.pattern_elab.proofs.Stepping.{passed_on}
use Rattle.core_rules.specs.Rules.{IsRule}
use Rattle.core_rules.proofs.Ruling.{no_memory, keeps_same, fresh_has, raised_done, raised_fails}
use Rattle.core_rules.proofs.rules.raised.Goals as goal

pub returns-in_err-unify_at : goal.returns-in_err-unify_at
returns-in_err-unify_at c =
    passed_on (λ r. IsRule c.args.g.now c.args.t.now c.unify_at.new.t (λ sc. raised depth sc c.args.at (type_of
    c.args.t.now c.args.ty) (progress c.args.t.now c.args.g.now)) r) c.from_residual-in_err-unify_at.result
    c.in_err-unify_at.field-0.0 c.from_residual-in_err-unify_at.ensures.1
    (raised_fails c.args.g.now c.args.at c.args.t.now c.exn_type.new.t c.unify_at.new.t c.args.ty c.in_ok-exn.exn
    c.in_err-unify_at.field-0.0 c.in_ok-exn.ensures.made c.in_ok-exn.ensures.state c.in_ok-exn.ensures.ids c.requires
    c.in_err-unify_at.ensures.answer c.in_err-unify_at.ensures.ids)

pub returns-in_err-exn : goal.returns-in_err-exn
returns-in_err-exn c =
    passed_on (λ r. IsRule c.args.g.now c.args.t.now c.exn_type.new.t (λ sc. raised depth sc c.args.at (type_of
    c.args.t.now c.args.ty) (progress c.args.t.now c.args.g.now)) r) c.from_residual.result fault.NoMemory
    c.from_residual.ensures.1
    (no_memory c.args.g.now c.args.t.now c.exn_type.new.t (λ sc. raised depth sc c.args.at (type_of c.args.t.now
    c.args.ty) (progress c.args.t.now c.args.g.now)) c.exn_type.ensures.ids)

pub returns-in_err-fresh : goal.returns-in_err-fresh
returns-in_err-fresh c =
    passed_on (λ r. IsRule c.args.g.now c.args.t.now c.fresh.new.self (λ sc. raised depth sc c.args.at (type_of
    c.args.t.now c.args.ty) (progress c.args.t.now c.args.g.now)) r) c.from_residual-in_err-fresh.result
    fault.NoMemory c.from_residual-in_err-fresh.ensures.1
    (no_memory c.args.g.now c.args.t.now c.fresh.new.self (λ sc. raised depth sc c.args.at (type_of c.args.t.now
    c.args.ty) (progress c.args.t.now c.args.g.now)) (keeps_later c.args.t.now c.unify_at.new.t c.fresh.new.self
    (keeps_later c.args.t.now c.exn_type.new.t c.unify_at.new.t c.in_ok-exn.ensures.ids c.in_ok-unify_at.ensures.ids)
    (keeps_same c.unify_at.new.t c.fresh.new.self c.in_err-fresh.ensures.refused)))

pub returns : goal.returns
returns c =
    raised_done c.args.g.now c.args.at c.args.t.now c.exn_type.new.t c.unify_at.new.t c.fresh.new.self c.args.ty
    c.in_ok-exn.exn c.in_ok-fresh.field-0 c.in_ok-exn.ensures.made
    c.in_ok-exn.ensures.state c.in_ok-exn.ensures.ids c.requires c.in_ok-unify_at.ensures.answer
    c.in_ok-unify_at.ensures.ids
    c.is_kept.ensures.next c.in_ok-fresh.ensures.id c.in_ok-fresh.ensures.state (keeps_extended c.unify_at.new.t
    c.fresh.new.self c.in_ok-fresh.ensures.extends)
    (fresh_has c.unify_at.new.t c.fresh.new.self c.in_ok-fresh.field-0 _ c.in_ok-fresh.ensures.id
    c.in_ok-fresh.ensures.made)
