use Rattle.std.proofs.Common.{◌+◌, ap, ap₂, sym, ◌∙◌, map, drop}
use Rattle.sml_trees.specs.declared.ty.TyField.{out-TyField}
use Rattle.bare_phrases.specs.Phrases.{TyPhrase}
use Rattle.bare_phrases.specs.PhraseOf.{ty_phrase, ty_phrases, ty_field_phrase, ty_fields}
use Rattle.bare_phrases.proofs.Forms.{ty_phrase-Var, ty_phrase-Record, ty_phrase-Named, ty_phrase-Arrow, ty_field_phrase-kept}
use Rattle.type_phrases.proofs.PartsRead.{drop_item, drop_end}
use Rattle.listed_types.proofs.FirmPhrases.{variable_firm, record_firm, named_firm, arrow_firm, args_step, args_end, fields_step, fields_end}
use Rattle.listed_types.proofs.firm.+firm.Goals as goal

pub is_firm-returns-in-Var : goal.is_firm-returns-in-Var
is_firm-returns-in-Var g t c =
    variable_firm c.args.g.now c.args.scope.now (ty_phrase c.args.ty.now) c.in-Var.field-0 c.in-Var.field-1
    (ap ty_phrase c.in-Var.is ∙ ty_phrase-Var c.in-Var.field-0 c.in-Var.field-1)

pub is_firm-returns-in-Record : goal.is_firm-returns-in-Record
is_firm-returns-in-Record g t c =
    record_firm c.args.g.now c.args.scope.now (ty_phrase c.args.ty.now)
    (ty_fields (map ty_field_phrase c.as_slice.result.now)) c.in-Record.field-1 c.are_firm_fields.result
    (ap ty_phrase c.in-Record.is ∙ ty_phrase-Record c.in-Record.fields c.in-Record.field-1
    ∙ ap (λ fs. TyPhrase.Record (ty_fields (map ty_field_phrase fs)) c.in-Record.field-1) (sym c.as_slice.ensures))
    c.are_firm_fields.ensures

pub is_firm-returns-then-branch : goal.is_firm-returns-then-branch
is_firm-returns-then-branch g t c =
    named_firm c.args.g.now c.args.scope.now (ty_phrase c.args.ty.now)
    (ty_phrases (map ty_phrase c.as_slice-then-branch.result.now)) c.in-Named.long c.in-Named.field-2
    c.are_firm_args.result c.in_ok-is_firm_name-in-Named.field-0
    (ap ty_phrase c.in-Named.is ∙ ty_phrase-Named c.in-Named.args c.in-Named.long c.in-Named.field-2
    ∙ ap (λ xs. TyPhrase.Named (ty_phrases (map ty_phrase xs)) c.in-Named.long c.in-Named.field-2)
    (sym c.as_slice-then-branch.ensures))
    c.if-branch.true c.in_ok-is_firm_name-in-Named.ensures c.are_firm_args.ensures

pub is_firm-returns-then-branch-2 : goal.is_firm-returns-then-branch-2
is_firm-returns-then-branch-2 g t c =
    arrow_firm c.args.g.now c.args.scope.now (ty_phrase c.args.ty.now) (ty_phrase c.get.result.now)
    (ty_phrase c.get-then-branch-2.result.now) c.in-Arrow.field-2 c.is_firm-then-branch-2.result
    c.in_ok-is_firm-in-Arrow.field-0
    (ap ty_phrase c.in-Arrow.is ∙ ty_phrase-Arrow c.in-Arrow.from c.in-Arrow.to c.in-Arrow.field-2
    ∙ ap₂ (λ a b. TyPhrase.Arrow (ty_phrase a) (ty_phrase b) c.in-Arrow.field-2) (sym c.get.ensures)
    (sym c.get-then-branch-2.ensures))
    c.if-branch-2.true c.in_ok-is_firm-in-Arrow.ensures c.is_firm-then-branch-2.ensures

pub are_firm_args-loop-arg-preserved : goal.are_firm_args-loop-arg-preserved
are_firm_args-loop-arg-preserved g t c =
    let args = c.args.args.now in
    let i = c.loop-arg.arg-index in
    args_step c.args.g.now c.args.scope.now args (drop i args) (drop (i + 1) args) c.arg-item.result
    c.in_ok-is_firm.field-0 c.loop-arg.invariant
    (drop_item args i c.arg-item.result c.loop-arg-test.true c.arg-item.is) c.if-not-branch.false
    c.in_ok-is_firm.ensures

pub are_firm_args-returns : goal.are_firm_args-returns
are_firm_args-returns g t c =
    args_end c.args.g.now c.args.scope.now c.args.args.now (drop c.loop-arg.arg-index c.args.args.now)
    c.loop-arg.invariant (drop_end c.args.args.now c.loop-arg.arg-index c.loop-arg-test.false)

pub are_firm_fields-loop-field-preserved : goal.are_firm_fields-loop-field-preserved
are_firm_fields-loop-field-preserved g t c =
    let fields = c.args.fields.now in
    let i = c.loop-field.field-index in
    fields_step c.args.g.now c.args.scope.now fields (drop i fields) (drop (i + 1) fields) c.field-item.result
    (ty_phrase (out-TyField c.field-item.result).ty) c.in_ok-is_firm.field-0 c.loop-field.invariant
    (drop_item fields i c.field-item.result c.loop-field-test.true c.field-item.is)
    (ap (λ p. p.1) (ty_field_phrase-kept c.field-item.result)) c.if-not-branch.false c.in_ok-is_firm.ensures

pub are_firm_fields-returns : goal.are_firm_fields-returns
are_firm_fields-returns g t c =
    fields_end c.args.g.now c.args.scope.now c.args.fields.now (drop c.loop-field.field-index c.args.fields.now)
    c.loop-field.invariant (drop_end c.args.fields.now c.loop-field.field-index c.loop-field-test.false)
