use Rattle.std.proofs.Common.{◌≡◌, sym, ap, ◌∙◌, subst}
use Rattle.std.specs.Prelude.{Err}
use Rattle.semantic_objects.specs.declared.name.TyId.{TyId}
use Rattle.semantic_objects.specs.declared.entry.ValueEntry.{ValueEntry}
use Rattle.type_nodes.specs.Tables.{state, type_of}
use Rattle.bare_phrases.specs.PhraseOf.{ty_phrase}
use Rattle.static_semantics.specs.BasicTypes.{exn_ty, arrow_ty}
use Rattle.static_semantics.specs.Inferring.{gives}
use Rattle.static_semantics.specs.TypeInference.{infer_ty}
use Rattle.static_semantics.specs.DatatypeInference.{exception_entry}
use Rattle.type_phrases.specs.Inferred.{Answers, KeepsTypes, scope_in}
use Rattle.type_phrases.proofs.Keeping.{keeps_later, keeps_extended}
use Rattle.type_phrases.proofs.PartsRead.{passed_on}
use Rattle.type_phrases.proofs.Steps.{failed}
use Rattle.exception_bindings.specs.Exceptions.{exception_with}
use Rattle.exception_bindings.proofs.Binding.{with_made, keeps_from}
use Rattle.exception_bindings.proofs.entry.make_with.Goals as goal

pub returns-in_err-argument-clause-infers : goal.returns-in_err-argument-clause-infers
returns-in_err-argument-clause-infers g c = λ read.
    let inner = scope_in c.args.g.now c.args.t.now read c.args.scope.now in
    let ty = ty_phrase c.args.ty.now in
    passed_on (λ r. Answers (exception_with inner ty) (λ (x : ValueEntry). x) r) c.from_residual-in_err-argument.result
    c.in_err-argument.field-0.0 c.from_residual-in_err-argument.ensures.1
    (failed {R = TyId} (infer_ty inner ty) (λ t. gives (exception_entry (arrow_ty t exn_ty)))
    (type_of c.elab_ty.new.t) (λ (x : ValueEntry). x) c.in_err-argument.field-0.0
    (subst (λ u. Answers (infer_ty (scope_in c.args.g.now u read c.args.scope.now) (ty_phrase c.args.ty.now))
    (type_of c.elab_ty.new.t) (Err c.in_err-argument.field-0.0)) c.in_ok-check_firm.ensures.same
    (c.in_err-argument.ensures.infers read)))

pub returns-in_err-exn-clause-ids : goal.returns-in_err-exn-clause-ids
returns-in_err-exn-clause-ids g c =
    keeps_from c.args.t.now c.check_firm.new.t c.elab_ty.new.t c.exn_type.new.t c.in_ok-check_firm.ensures.same
    c.in_ok-argument.ensures.ids c.in_err-exn.ensures.ids

pub returns-in_err-arrow-clause-ids : goal.returns-in_err-arrow-clause-ids
returns-in_err-arrow-clause-ids g c =
    subst (KeepsTypes c.args.t.now) (sym c.in_err-arrow.ensures.refused)
    (keeps_from c.args.t.now c.check_firm.new.t c.elab_ty.new.t c.exn_type.new.t c.in_ok-check_firm.ensures.same
    c.in_ok-argument.ensures.ids c.in_ok-exn.ensures.ids)

pub returns-in_err-entry_at-clause-ids : goal.returns-in_err-entry_at-clause-ids
returns-in_err-entry_at-clause-ids g c =
    subst (KeepsTypes c.args.t.now) (sym c.in_err-entry_at.ensures.same)
    (keeps_later c.args.t.now c.exn_type.new.t c.arrow.new.self
    (keeps_from c.args.t.now c.check_firm.new.t c.elab_ty.new.t c.exn_type.new.t c.in_ok-check_firm.ensures.same
    c.in_ok-argument.ensures.ids c.in_ok-exn.ensures.ids)
    (keeps_extended c.exn_type.new.t c.arrow.new.self c.in_ok-arrow.ensures.extends))

pub returns-clause-ids : goal.returns-clause-ids
returns-clause-ids g c =
    subst (KeepsTypes c.args.t.now) (sym c.in_ok-entry_at.ensures.same)
    (keeps_later c.args.t.now c.exn_type.new.t c.arrow.new.self
    (keeps_from c.args.t.now c.check_firm.new.t c.elab_ty.new.t c.exn_type.new.t c.in_ok-check_firm.ensures.same
    c.in_ok-argument.ensures.ids c.in_ok-exn.ensures.ids)
    (keeps_extended c.exn_type.new.t c.arrow.new.self c.in_ok-arrow.ensures.extends))

pub returns-clause-infers : goal.returns-clause-infers
returns-clause-infers g c = λ read.
    with_made (scope_in c.args.g.now c.args.t.now read c.args.scope.now) (ty_phrase c.args.ty.now) c.args.t.now
    c.elab_ty.new.t c.exn_type.new.t c.arrow.new.self c.in_ok-argument.argument c.in_ok-exn.exn c.in_ok-arrow.arrow
    c.in_ok-entry_at.field-0 (c.in_ok-check_firm.ensures.firm read)
    (subst (λ u. infer_ty (scope_in c.args.g.now u read c.args.scope.now) (ty_phrase c.args.ty.now)
    ≡ gives (type_of c.elab_ty.new.t c.in_ok-argument.argument)) c.in_ok-check_firm.ensures.same
    (c.in_ok-argument.ensures.infers read))
    (c.in_ok-exn.ensures.ids.types c.in_ok-argument.argument c.in_ok-argument.ensures.has)
    c.in_ok-exn.ensures.made c.in_ok-arrow.ensures.made
    (c.in_ok-arrow.ensures.state ∙ c.in_ok-exn.ensures.state ∙ c.in_ok-argument.ensures.state
    ∙ ap state c.in_ok-check_firm.ensures.same)
    c.in_ok-entry_at.ensures.entry
