use Rattle.semantic_objects.specs.declared.name.TyId.{TyId}
use Rattle.type_nodes.specs.Tables.{type_of}
use Rattle.type_phrases.specs.Inferred.{home_scope, progress}
use Rattle.declaration_ends.proofs.Walking.{let_passes, let_refused}
use Rattle.declaration_ends.proofs.leaving.within_let.Goals as goal

pub returns-clause-answer : goal.returns-clause-answer
returns-clause-answer c =
    let t = c.args.t.now in
    let_passes (home_scope c.args.g.now) c.args.at c.args.from c.args.to
    (type_of t c.args.id, progress t c.args.g.now) c.in_ok-home.home c.in_ok-held.held c.in_ok-home.ensures
    c.in_ok-held.ensures c.if-held.false

pub returns-then-held-clause-answer : goal.returns-then-held-clause-answer
returns-then-held-clause-answer c =
    let t = c.args.t.now in
    let_refused c.args.g.now c.args.at c.args.from c.args.to (type_of t c.args.id, progress t c.args.g.now)
    c.in_ok-home.home c.in_ok-held.held (λ (same : TyId). (type_of t same, progress t c.args.g.now)) c.refuse.result
    c.in_ok-home.ensures c.in_ok-held.ensures c.if-held.true c.refuse.ensures
