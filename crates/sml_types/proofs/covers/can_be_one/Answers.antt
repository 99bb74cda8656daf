use Rattle.std.proofs.Common.{Ok, Err, subst}
use Rattle.unification.specs.Unification.{unify_in}
use Rattle.type_nodes.specs.Tables.{state, whole}
use Rattle.sml_types.specs.declared.fault.TypeFault.TheVariants as fault
use Rattle.sml_types.specs.Unifying.{Sought}
use Rattle.sml_types.proofs.Pairing.{sought_general}
use Rattle.sml_types.proofs.covers.can_be_one.Goals as goal

pub returns-in-Ok-clause-decided : goal.returns-in-Ok-clause-decided
returns-in-Ok-clause-decided c =
    let t = c.args.table.now in (
      state c.unify_below.new.table,
      sought_general c.deepest.result (whole t c.args.left) (whole t c.args.right) (state t)
          (state c.unify_below.new.table) (Ok tt) c.is_kept.ensures.kept.fit.settled c.in-Ok.ensures.answer,
    )

pub returns-in-Err-Clash-clause-decided : goal.returns-in-Err-Clash-clause-decided
returns-in-Err-Clash-clause-decided c =
    let t = c.args.table.now in
    sought_general c.deepest.result (whole t c.args.left) (whole t c.args.right) (state t) (state c.unify_below.new.table)
    (Err (fault.Clash c.in-Err-Clash.field-0-0 c.in-Err-Clash.field-0-1)) c.is_kept.ensures.kept.fit.settled
    (subst (λ f. Sought (unify_in c.deepest.result (whole t c.args.left) (whole t c.args.right) (state t)) (Err f)
    (state c.unify_below.new.table)) c.in-Err-Clash.field-0-is c.in-Err-Clash.ensures.answer)

pub returns-in-Err-Circular-clause-decided : goal.returns-in-Err-Circular-clause-decided
returns-in-Err-Circular-clause-decided c =
    let t = c.args.table.now in
    sought_general c.deepest.result (whole t c.args.left) (whole t c.args.right) (state t) (state c.unify_below.new.table)
    (Err (fault.Circular c.in-Err-Circular.field-0-0 c.in-Err-Circular.field-0-1)) c.is_kept.ensures.kept.fit.settled
    (subst (λ f. Sought (unify_in c.deepest.result (whole t c.args.left) (whole t c.args.right) (state t)) (Err f)
    (state c.unify_below.new.table)) c.in-Err-Circular.field-0-is c.in-Err-Circular.ensures.answer)

pub returns-in-Err-NotEquality-clause-decided : goal.returns-in-Err-NotEquality-clause-decided
returns-in-Err-NotEquality-clause-decided c =
    let t = c.args.table.now in
    sought_general c.deepest.result (whole t c.args.left) (whole t c.args.right) (state t) (state c.unify_below.new.table)
    (Err (fault.NotEquality c.in-Err-NotEquality.field-0-0)) c.is_kept.ensures.kept.fit.settled
    (subst (λ f. Sought (unify_in c.deepest.result (whole t c.args.left) (whole t c.args.right) (state t)) (Err f)
    (state c.unify_below.new.table)) c.in-Err-NotEquality.field-0-is c.in-Err-NotEquality.ensures.answer)
