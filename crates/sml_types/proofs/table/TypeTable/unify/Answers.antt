use Rattle.std.proofs.Common.{subst, Ok, Err}
use Rattle.unification.specs.Unification.{unify_in}
use Rattle.type_nodes.specs.Tables.{state, whole}
use Rattle.sml_types.specs.Unifying.{IsMostGeneralFor}
use Rattle.sml_types.proofs.Pairing.{sought_general, sought_fault}
use Rattle.sml_types.proofs.table.TypeTable.unify.Goals as goal

pub returns-in-Ok-clause-general : goal.returns-in-Ok-clause-general
returns-in-Ok-clause-general c =
    let t = c.self.inside.bindings in
    let a = c.args.a in
    let b = c.args.b in
    let r = state c.unify_below.new.table in
    subst (λ t. IsMostGeneralFor (whole t a) (whole t b) (state t) (Ok tt) r) c.self.view_is
    (sought_general c.deepest.result (whole t a) (whole t b) (state t) r (Ok tt) c.is_kept.ensures.kept.fit.settled
    c.in-Ok.ensures.answer)

pub returns-in-Err-clause-general : goal.returns-in-Err-clause-general
returns-in-Err-clause-general c =
    let t = c.self.inside.bindings in
    let a = c.args.a in
    let b = c.args.b in
    let r = state c.undo_to.new.self in
    subst (λ t. IsMostGeneralFor (whole t a) (whole t b) (state t) (Err c.in-Err.fault) r) c.self.view_is
    (sought_general c.deepest.result (whole t a) (whole t b) (state t) r (Err c.in-Err.fault)
    c.is_kept.ensures.kept.fit.settled
    (sought_fault (unify_in c.deepest.result (whole t a) (whole t b) (state t)) c.in-Err.fault
    (state c.unify_below.new.table) r c.in-Err.ensures.answer))
