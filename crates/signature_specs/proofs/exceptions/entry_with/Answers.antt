use Rattle.std.proofs.Common.{subst}
use Rattle.std.specs.Prelude.{Err}
use Rattle.semantic_objects.specs.declared.entry.ValueEntry.{ValueEntry}
use Rattle.bare_phrases.specs.PhraseOf.{ty_phrase}
use Rattle.static_semantics.specs.Inferring.{with_written_alone, gives}
use Rattle.static_semantics.specs.TypeInference.{infer_ty, as_written, numbers}
use Rattle.unification.specs.Closing.{closed_over}
use Rattle.type_nodes.specs.Tables.{type_of}
use Rattle.type_phrases.specs.Inferred.{Answers, scope_in}
use Rattle.listed_types.specs.declared.listed.ListedType.{ListedType}
use Rattle.signature_specs.proofs.Excepting.{no_list, arrow_binds, with_made, with_refused}
use Rattle.std.proofs.Common.{◌≡◌}
use Rattle.signature_specs.proofs.exceptions.entry_with.Goals as goal

pub type_under-requires-clause-list : goal.type_under-requires-clause-list
type_under-requires-clause-list g c = no_list c.args.t.now c.new-none.result c.new-none.ensures

pub returns-in_err-made-clause-infers : goal.returns-in_err-made-clause-infers
returns-in_err-made-clause-infers g c = λ u read.
    let inner = scope_in c.args.g.now u read c.args.scope.now in
    with_refused inner (ty_phrase c.args.ty.now) (λ (made : ListedType). type_of c.type_under.new.t made.id)
    (λ (entry : ValueEntry). entry) c.in_err-made.field-0.0 c.from_residual.result c.from_residual.ensures.1
    (subst (λ list. Answers (infer_ty (with_written_alone (as_written list) inner) (ty_phrase c.args.ty.now))
    (λ (made : ListedType). type_of c.type_under.new.t made.id) (Err c.in_err-made.field-0.0)) c.new-none.ensures
    (c.in_err-made.ensures.infers u read))

pub open_exception-requires : goal.open_exception-requires
open_exception-requires g c =
    arrow_binds (type_of c.type_under.new.t c.in_ok-made.made.id) c.in_ok-made.made.tree c.in_ok-exn.exn
    c.in_ok-body.body
    (subst (λ list. c.in_ok-made.made.tree ≡ closed_over (numbers list) (type_of c.type_under.new.t c.in_ok-made.made.id))
    c.new-none.ensures c.in_ok-made.ensures.tree)
    c.in_ok-exn.ensures.tree c.in_ok-body.ensures

pub returns-clause-infers : goal.returns-clause-infers
returns-clause-infers g c = λ u read.
    let inner = scope_in c.args.g.now u read c.args.scope.now in
    with_made inner (ty_phrase c.args.ty.now) (type_of c.type_under.new.t c.in_ok-made.made.id) c.in_ok-made.made.tree
    c.in_ok-exn.exn c.in_ok-body.body c.in_ok-entry.entry
    (subst (λ list. infer_ty (with_written_alone (as_written list) inner) (ty_phrase c.args.ty.now)
    ≡ gives (type_of c.type_under.new.t c.in_ok-made.made.id)) c.new-none.ensures (c.in_ok-made.ensures.infers u read))
    (subst (λ list. c.in_ok-made.made.tree ≡ closed_over (numbers list) (type_of c.type_under.new.t c.in_ok-made.made.id))
    c.new-none.ensures c.in_ok-made.ensures.tree)
    c.in_ok-exn.ensures.tree c.in_ok-body.ensures c.in_ok-entry.ensures
