use Rattle.std.proofs.Common.{◌+◌, sym, ap, ◌∙◌, subst, map, drop}
use Rattle.sml_trees.specs.declared.ty.TyField.{out-TyField}
use Rattle.type_nodes.specs.Tables.{state}
use Rattle.bare_phrases.specs.Phrases.{TyPhrase}
use Rattle.bare_phrases.specs.PhraseOf.{ty_phrase, ty_phrases, ty_field_phrase, ty_fields}
use Rattle.bare_phrases.proofs.Forms.{ty_phrase-Var, ty_phrase-Record, ty_phrase-Named, ty_phrase-Arrow}
use Rattle.type_phrases.specs.Inferred.{scope_in}
use Rattle.type_phrases.proofs.PartsRead.{drop_item, drop_end}
use Rattle.firm_types.specs.Firm.{IsFirmPhrase, AreFirmFields, AreFirmArgs}
use Rattle.firm_types.proofs.Firm.{on_ok, as_phrase, variable_firm, record_firm, named_firm, arrow_phrase_firm, field_passed, arg_passed}
use Rattle.firm_types.proofs.phrase.+check_firm.Goals as goal

pub check_args-loop-arg-preserved : goal.check_args-loop-arg-preserved
check_args-loop-arg-preserved g t c =
    let args = c.args.args.now in
    let i = c.loop-arg.arg-index in
    record {
      same = c.in_ok-check_firm.ensures.same ∙ c.loop-arg.invariant.same;
      left = λ read.
          arg_passed (state c.args.t.now).stands (scope_in c.args.g.now c.args.t.now read c.args.scope.now) args
          (drop i args) (drop (i + 1) args) c.arg-item.result
          (drop_item args i c.arg-item.result c.loop-arg-test.true c.arg-item.is)
          (subst (λ u. IsFirmPhrase (state u).stands (scope_in c.args.g.now u read c.args.scope.now)
          (ty_phrase c.arg-item.result)) c.loop-arg.invariant.same (c.in_ok-check_firm.ensures.firm read))
          (c.loop-arg.invariant.left read);
    }

pub check_args-returns-clause-firm : goal.check_args-returns-clause-firm
check_args-returns-clause-firm g t c = λ read.
    let args = c.args.args.now in
    c.loop-arg.invariant.left read
    (subst (λ xs. AreFirmArgs (state c.args.t.now).stands (scope_in c.args.g.now c.args.t.now read c.args.scope.now)
    (ty_phrases (map ty_phrase xs))) (sym (drop_end args c.loop-arg.arg-index c.loop-arg-test.false)) tt)

pub check_fields-loop-field-preserved : goal.check_fields-loop-field-preserved
check_fields-loop-field-preserved g t c =
    let fields = c.args.fields.now in
    let i = c.loop-field.field-index in
    record {
      same = c.in_ok-check_firm.ensures.same ∙ c.loop-field.invariant.same;
      left = λ read.
          field_passed (state c.args.t.now).stands (scope_in c.args.g.now c.args.t.now read c.args.scope.now) fields
          (drop i fields) (drop (i + 1) fields) c.field-item.result
          (drop_item fields i c.field-item.result c.loop-field-test.true c.field-item.is)
          (subst (λ u. IsFirmPhrase (state u).stands (scope_in c.args.g.now u read c.args.scope.now)
          (ty_phrase (out-TyField c.field-item.result).ty)) c.loop-field.invariant.same
          (c.in_ok-check_firm.ensures.firm read))
          (c.loop-field.invariant.left read);
    }

pub check_fields-returns-clause-firm : goal.check_fields-returns-clause-firm
check_fields-returns-clause-firm g t c = λ read.
    let fields = c.args.fields.now in
    c.loop-field.invariant.left read
    (subst (λ xs. AreFirmFields (state c.args.t.now).stands (scope_in c.args.g.now c.args.t.now read c.args.scope.now)
    (ty_fields (map ty_field_phrase xs))) (sym (drop_end fields c.loop-field.field-index c.loop-field-test.false)) tt)

pub check_firm-returns-in-Var-clause-firm : goal.check_firm-returns-in-Var-clause-firm
check_firm-returns-in-Var-clause-firm g t c =
    on_ok c.check_variable.result (λ h read.
    as_phrase (state c.args.t.now).stands (scope_in c.args.g.now c.args.t.now read c.args.scope.now)
    (ty_phrase c.args.phrase.now) (TyPhrase.Var c.in-Var.name c.in-Var.field-1)
    (ap ty_phrase c.in-Var.is ∙ ty_phrase-Var c.in-Var.name c.in-Var.field-1)
    (variable_firm c.args.g.now c.args.t.now read c.args.scope.now c.in-Var.name c.in-Var.field-1 h))
    c.check_variable.ensures.firm

pub check_firm-returns-in-Record-clause-firm : goal.check_firm-returns-in-Record-clause-firm
check_firm-returns-in-Record-clause-firm g t c =
    on_ok c.check_fields.result (λ h read.
    let s = (state c.args.t.now).stands in
    let inner = scope_in c.args.g.now c.args.t.now read c.args.scope.now in
    as_phrase s inner (ty_phrase c.args.phrase.now)
    (TyPhrase.Record (ty_fields (map ty_field_phrase c.in-Record.fields)) c.in-Record.field-1)
    (ap ty_phrase c.in-Record.is ∙ ty_phrase-Record c.in-Record.fields c.in-Record.field-1)
    (record_firm s inner (ty_fields (map ty_field_phrase c.in-Record.fields)) c.in-Record.field-1
    (subst (λ fields. AreFirmFields s inner (ty_fields (map ty_field_phrase fields))) c.as_slice.ensures (h read))))
    c.check_fields.ensures.firm

pub check_firm-returns-in_ok-check_args-in-Named-clause-firm :
    goal.check_firm-returns-in_ok-check_args-in-Named-clause-firm
check_firm-returns-in_ok-check_args-in-Named-clause-firm g t c =
    on_ok c.check_function.result (λ h read.
    let s = (state c.args.t.now).stands in
    let inner = scope_in c.args.g.now c.args.t.now read c.args.scope.now in
    as_phrase s inner (ty_phrase c.args.phrase.now)
    (TyPhrase.Named (ty_phrases (map ty_phrase c.in-Named.args)) c.in-Named.long c.in-Named.field-2)
    (ap ty_phrase c.in-Named.is ∙ ty_phrase-Named c.in-Named.args c.in-Named.long c.in-Named.field-2)
    (named_firm s inner (ty_phrases (map ty_phrase c.in-Named.args)) c.in-Named.long c.in-Named.field-2
    (subst (λ args. AreFirmArgs s inner (ty_phrases (map ty_phrase args))) c.as_slice-in-Named.ensures
    (c.in_ok-check_args-in-Named.ensures.firm read)) (λ str e. h read str e)))
    c.check_function.ensures

pub check_firm-returns-in_ok-check_firm-in-Arrow-clause-firm :
    goal.check_firm-returns-in_ok-check_firm-in-Arrow-clause-firm
check_firm-returns-in_ok-check_firm-in-Arrow-clause-firm g t c =
    on_ok c.check_firm-in-Arrow.result (λ h read.
    let s = (state c.args.t.now).stands in
    let inner = scope_in c.args.g.now c.args.t.now read c.args.scope.now in
    as_phrase s inner (ty_phrase c.args.phrase.now)
    (TyPhrase.Arrow (ty_phrase c.in-Arrow.from) (ty_phrase c.in-Arrow.to) c.in-Arrow.field-2)
    (ap ty_phrase c.in-Arrow.is ∙ ty_phrase-Arrow c.in-Arrow.from c.in-Arrow.to c.in-Arrow.field-2)
    (arrow_phrase_firm s inner (ty_phrase c.in-Arrow.from) (ty_phrase c.in-Arrow.to) c.in-Arrow.field-2
    (subst (λ p. IsFirmPhrase s inner (ty_phrase p)) c.get.ensures (c.in_ok-check_firm-in-Arrow.ensures.firm read))
    (subst (λ p. IsFirmPhrase s inner (ty_phrase p)) c.get-in-Arrow.ensures
    (subst (λ u. IsFirmPhrase (state u).stands (scope_in c.args.g.now u read c.args.scope.now) (ty_phrase c.get-in-Arrow.result.now))
    c.in_ok-check_firm-in-Arrow.ensures.same (h read)))))
    c.check_firm-in-Arrow.ensures.firm
