use Rattle.std.proofs.Common.{sym, subst}
use Rattle.type_nodes.specs.Tables.{type_of, IsFrontOf}
use Rattle.bare_phrases.specs.PhraseOf.{ty_phrase}
use Rattle.static_semantics.specs.TypeInference.{infer_ty}
use Rattle.type_phrases.specs.Inferred.{scope_in}
use Rattle.type_phrases.proofs.Keeping.{as_read}
use Rattle.type_phrases.proofs.Steps.{still_refused}
use Rattle.type_phrases.proofs.phrase.elab_ty.Goals as goal

pub returns-in-Ok-clause-infers : goal.returns-in-Ok-clause-infers
returns-in-Ok-clause-infers g c = λ read.
    c.in-Ok.ensures.infers (scope_in c.args.g.now c.args.t.now read c.args.scope.now)
    (as_read c.args.g.now c.args.t.now read c.args.scope.now)

pub undo-requires : goal.undo-requires
undo-requires g c =
    subst (λ t. IsFrontOf t c.read_ty.new.t) (sym c.mark-before.ensures) c.in-Err.ensures.makes.keeps.front

pub returns-clause-infers : goal.returns-clause-infers
returns-clause-infers g c = λ read.
    still_refused (infer_ty (scope_in c.args.g.now c.args.t.now read c.args.scope.now) (ty_phrase c.args.phrase.now))
    (type_of c.read_ty.new.t) (type_of c.undo.new.self) c.in-Err.fault
    (c.in-Err.ensures.infers (scope_in c.args.g.now c.args.t.now read c.args.scope.now)
    (as_read c.args.g.now c.args.t.now read c.args.scope.now))
