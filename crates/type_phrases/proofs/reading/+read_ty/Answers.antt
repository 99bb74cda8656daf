use Rattle.std.proofs.Common.{◌+◌, refl, sym, ap, ◌∙◌, subst, map, drop}
use Rattle.std.specs.Prelude.{Ok, Err}
use Rattle.cm_base.specs.declared.fault.Fault.TheVariants as fault
use Rattle.bare_phrases.specs.Phrases.{TyPhrase}
use Rattle.bare_phrases.specs.PhraseOf.{ty_phrase, ty_phrases, ty_field_phrase, ty_fields}
use Rattle.bare_phrases.proofs.Forms.{ty_phrase-Var, ty_phrase-Record, ty_phrase-Named, ty_phrase-Arrow}
use Rattle.type_phrases.specs.Steps.{IsRead, AreArgs, AreFields}
use Rattle.type_phrases.proofs.Keeping.{makes_later}
use Rattle.type_phrases.proofs.PartsRead.{passed_on, read_stopped, read_phrase, read_found, read_missing, read_arrow, from_fails, to_fails, read_named, args_fail, read_record, fields_fail, drop_item, drop_end, args_none, args_more, args_refused, args_no_memory, args_all, fields_none, fields_more, label_refused, field_refused, fields_no_memory, fields_all}
use Rattle.type_phrases.proofs.reading.+read_ty.Goals as goal

-- ---- arguments

pub read_args-loop-arg-init : goal.read_args-loop-arg-init
read_args-loop-arg-init g t c =
    args_none c.args.g.now c.args.t.now c.args.scope.now c.args.args.now c.new-ids.result c.requires c.new-ids.ensures

pub read_args-returns-in_err-id : goal.read_args-returns-in_err-id
read_args-returns-in_err-id g t c =
    let args = c.args.args.now in
    let i = c.loop-arg.arg-index in
    passed_on (λ r. AreArgs c.args.g.now c.args.t.now c.args.scope.now (ty_phrases (map ty_phrase c.args.args.now))
    c.read_ty.new.t r) c.from_residual.result c.in_err-id.field-0.0 c.from_residual.ensures.1
    (args_refused c.args.g.now c.args.t.now c.loop-arg.t c.read_ty.new.t c.args.scope.now args (drop i args)
    (drop (i + 1) args) c.arg-item.result c.loop-arg.ids c.in_err-id.field-0.0 c.requires c.loop-arg.invariant
    (drop_item args i c.arg-item.result c.loop-arg-test.true c.arg-item.is) c.in_err-id.ensures)

pub read_args-returns-in_err-add : goal.read_args-returns-in_err-add
read_args-returns-in_err-add g t c =
    passed_on (λ r. AreArgs c.args.g.now c.args.t.now c.args.scope.now (ty_phrases (map ty_phrase c.args.args.now))
    c.read_ty.new.t r) c.from_residual-in_err-add.result fault.NoMemory c.from_residual-in_err-add.ensures.1
    (args_no_memory c.args.g.now c.args.t.now c.read_ty.new.t c.args.scope.now
    (ty_phrases (map ty_phrase c.args.args.now)) fault.NoMemory c.in_ok-id.ensures.over
    (makes_later c.args.t.now c.loop-arg.t c.read_ty.new.t c.loop-arg.invariant.makes c.in_ok-id.ensures.makes) refl)

pub read_args-loop-arg-preserved : goal.read_args-loop-arg-preserved
read_args-loop-arg-preserved g t c =
    let args = c.args.args.now in
    let i = c.loop-arg.arg-index in
    args_more c.args.g.now c.args.t.now c.loop-arg.t c.read_ty.new.t c.args.scope.now args (drop i args)
    (drop (i + 1) args) c.arg-item.result c.loop-arg.ids c.add.new.self c.in_ok-id.id c.requires c.loop-arg.invariant
    (drop_item args i c.arg-item.result c.loop-arg-test.true c.arg-item.is) c.in_ok-id.ensures c.in_ok-add.ensures.ok

pub read_args-returns : goal.read_args-returns
read_args-returns g t c =
    args_all c.args.g.now c.args.t.now c.loop-arg.t c.args.scope.now c.args.args.now
    (drop c.loop-arg.arg-index c.args.args.now) c.loop-arg.ids c.loop-arg.invariant
    (drop_end c.args.args.now c.loop-arg.arg-index c.loop-arg-test.false)

-- ---- fields

pub read_fields-loop-field-init : goal.read_fields-loop-field-init
read_fields-loop-field-init g t c =
    fields_none c.args.g.now c.args.t.now c.args.scope.now c.args.fields.now c.new-rows.result c.requires
    c.new-rows.ensures

pub read_fields-returns-in_err-check_label : goal.read_fields-returns-in_err-check_label
read_fields-returns-in_err-check_label g t c =
    let fields = c.args.fields.now in
    let i = c.loop-field.field-index in
    passed_on (λ r. AreFields c.args.g.now c.args.t.now c.args.scope.now
    (ty_fields (map ty_field_phrase c.args.fields.now)) c.loop-field.t r) c.from_residual.result
    c.in_err-check_label.field-0.0 c.from_residual.ensures.1
    (label_refused c.args.g.now c.args.t.now c.loop-field.t c.args.scope.now fields (drop i fields)
    (drop (i + 1) fields) c.field-item.result c.loop-field.rows c.in_err-check_label.field-0.0 c.loop-field.invariant
    (drop_item fields i c.field-item.result c.loop-field-test.true c.field-item.is)
    (λ inner home. c.in_err-check_label.ensures.check c.loop-field.t inner home))

pub read_fields-returns-in_err-id : goal.read_fields-returns-in_err-id
read_fields-returns-in_err-id g t c =
    let fields = c.args.fields.now in
    let i = c.loop-field.field-index in
    passed_on (λ r. AreFields c.args.g.now c.args.t.now c.args.scope.now
    (ty_fields (map ty_field_phrase c.args.fields.now)) c.read_ty.new.t r) c.from_residual-in_err-id.result
    c.in_err-id.field-0.0 c.from_residual-in_err-id.ensures.1
    (field_refused c.args.g.now c.args.t.now c.loop-field.t c.read_ty.new.t c.args.scope.now fields (drop i fields)
    (drop (i + 1) fields) c.field-item.result c.loop-field.rows c.in_err-id.field-0.0 c.requires c.loop-field.invariant
    (drop_item fields i c.field-item.result c.loop-field-test.true c.field-item.is)
    (λ inner home. c.in_ok-check_label.ensures.check c.loop-field.t inner home) c.in_err-id.ensures)

pub read_fields-returns-in_err-copy : goal.read_fields-returns-in_err-copy
read_fields-returns-in_err-copy g t c =
    passed_on (λ r. AreFields c.args.g.now c.args.t.now c.args.scope.now
    (ty_fields (map ty_field_phrase c.args.fields.now)) c.read_ty.new.t r) c.from_residual-in_err-copy.result
    fault.NoMemory c.from_residual-in_err-copy.ensures.1
    (fields_no_memory c.args.g.now c.args.t.now c.read_ty.new.t c.args.scope.now
    (ty_fields (map ty_field_phrase c.args.fields.now)) fault.NoMemory c.in_ok-id.ensures.over
    (makes_later c.args.t.now c.loop-field.t c.read_ty.new.t c.loop-field.invariant.makes c.in_ok-id.ensures.makes) refl)

pub read_fields-returns-in_err-bind : goal.read_fields-returns-in_err-bind
read_fields-returns-in_err-bind g t c =
    passed_on (λ r. AreFields c.args.g.now c.args.t.now c.args.scope.now
    (ty_fields (map ty_field_phrase c.args.fields.now)) c.read_ty.new.t r) c.from_residual-in_err-bind.result
    fault.NoMemory c.from_residual-in_err-bind.ensures.1
    (fields_no_memory c.args.g.now c.args.t.now c.read_ty.new.t c.args.scope.now
    (ty_fields (map ty_field_phrase c.args.fields.now)) fault.NoMemory c.in_ok-id.ensures.over
    (makes_later c.args.t.now c.loop-field.t c.read_ty.new.t c.loop-field.invariant.makes c.in_ok-id.ensures.makes) refl)

pub read_fields-loop-field-preserved : goal.read_fields-loop-field-preserved
read_fields-loop-field-preserved g t c =
    let fields = c.args.fields.now in
    let i = c.loop-field.field-index in
    fields_more c.args.g.now c.args.t.now c.loop-field.t c.read_ty.new.t c.args.scope.now fields (drop i fields)
    (drop (i + 1) fields) c.field-item.result c.loop-field.rows c.bind.new.self c.in_ok-copy.field-0 c.in_ok-id.id
    c.requires c.loop-field.invariant
    (drop_item fields i c.field-item.result c.loop-field-test.true c.field-item.is)
    (λ inner home. c.in_ok-check_label.ensures.check c.loop-field.t inner home) c.in_ok-check_label.ensures.free
    c.in_ok-id.ensures c.in_ok-copy.ensures c.in_ok-bind.ensures.ok

pub read_fields-returns : goal.read_fields-returns
read_fields-returns g t c =
    fields_all c.args.g.now c.args.t.now c.loop-field.t c.args.scope.now c.args.fields.now
    (drop c.loop-field.field-index c.args.fields.now) c.loop-field.rows c.loop-field.invariant
    (drop_end c.args.fields.now c.loop-field.field-index c.loop-field-test.false)

-- ---- type variables

pub read_ty-returns-in-Some : goal.read_ty-returns-in-Some
read_ty-returns-in-Some g t c =
    read_phrase c.args.g.now c.args.t.now c.args.t.now c.args.scope.now (ty_phrase c.args.ty.now)
    (TyPhrase.Var c.in-Var.name c.in-Var.field-1) (Ok c.in-Some.id)
    (ap ty_phrase c.in-Var.is ∙ ty_phrase-Var c.in-Var.name c.in-Var.field-1)
    (read_found c.args.g.now c.args.t.now c.args.scope.now c.in-Var.name c.in-Var.field-1 c.in-Some.id c.requires
    (sym c.find_written.ensures ∙ c.in-Some.is))

pub read_ty-returns-in-None : goal.read_ty-returns-in-None
read_ty-returns-in-None g t c =
    read_phrase c.args.g.now c.args.t.now c.args.t.now c.args.scope.now (ty_phrase c.args.ty.now)
    (TyPhrase.Var c.in-Var.name c.in-Var.field-1) (Err c.unknown_name.result)
    (ap ty_phrase c.in-Var.is ∙ ty_phrase-Var c.in-Var.name c.in-Var.field-1)
    (read_missing c.args.g.now c.args.t.now c.args.scope.now c.in-Var.name c.in-Var.field-1 c.unknown_name.result
    c.requires (sym c.find_written.ensures ∙ c.in-None.is) c.unknown_name.ensures)

-- ---- records

pub read_ty-record_of-requires-clause-have : goal.read_ty-record_of-requires-clause-have
read_ty-record_of-requires-clause-have g t c = c.in_ok-fields-in-Record.ensures.have

pub read_ty-record_of-requires-clause-differing : goal.read_ty-record_of-requires-clause-differing
read_ty-record_of-requires-clause-differing g t c = c.in_ok-fields-in-Record.ensures.differing

pub read_ty-returns-in_err-fields-in-Record : goal.read_ty-returns-in_err-fields-in-Record
read_ty-returns-in_err-fields-in-Record g t c =
    let inner = subst (λ fields. AreFields c.args.g.now c.args.t.now c.args.scope.now
    (ty_fields (map ty_field_phrase fields)) c.read_fields.new.t (Err c.in_err-fields-in-Record.field-0.0))
    c.as_slice.ensures c.in_err-fields-in-Record.ensures in
    passed_on (λ r. IsRead c.args.g.now c.args.t.now c.args.scope.now (ty_phrase c.args.ty.now) c.read_fields.new.t r)
    c.from_residual.result c.in_err-fields-in-Record.field-0.0 c.from_residual.ensures.1
    (read_phrase c.args.g.now c.args.t.now c.read_fields.new.t c.args.scope.now (ty_phrase c.args.ty.now)
    (TyPhrase.Record (ty_fields (map ty_field_phrase c.in-Record.fields)) c.in-Record.field-1)
    (Err c.in_err-fields-in-Record.field-0.0)
    (ap ty_phrase c.in-Record.is ∙ ty_phrase-Record c.in-Record.fields c.in-Record.field-1)
    (fields_fail c.args.g.now c.args.t.now c.read_fields.new.t c.args.scope.now
    (ty_fields (map ty_field_phrase c.in-Record.fields)) c.in-Record.field-1 c.in_err-fields-in-Record.field-0.0 inner))

pub read_ty-returns-in_err-record_of-in-Record : goal.read_ty-returns-in_err-record_of-in-Record
read_ty-returns-in_err-record_of-in-Record g t c =
    passed_on (λ r. IsRead c.args.g.now c.args.t.now c.args.scope.now (ty_phrase c.args.ty.now) c.record_of.new.t r)
    c.from_residual-in_err-record_of-in-Record.result fault.NoMemory
    c.from_residual-in_err-record_of-in-Record.ensures.1
    (read_stopped c.args.g.now c.args.t.now c.read_fields.new.t c.record_of.new.t c.args.scope.now
    (ty_phrase c.args.ty.now) c.in_ok-fields-in-Record.ensures.over c.in_ok-fields-in-Record.ensures.makes
    c.in_err-record_of-in-Record.ensures.refused)

pub read_ty-returns-in_ok-record_of-in-Record : goal.read_ty-returns-in_ok-record_of-in-Record
read_ty-returns-in_ok-record_of-in-Record g t c =
    let made = c.in_ok-record_of-in-Record.ensures in
    let inner = subst (λ fields. AreFields c.args.g.now c.args.t.now c.args.scope.now
    (ty_fields (map ty_field_phrase fields)) c.read_fields.new.t (Ok c.in_ok-fields-in-Record.fields))
    c.as_slice.ensures c.in_ok-fields-in-Record.ensures in
    read_phrase c.args.g.now c.args.t.now c.record_of.new.t c.args.scope.now (ty_phrase c.args.ty.now)
    (TyPhrase.Record (ty_fields (map ty_field_phrase c.in-Record.fields)) c.in-Record.field-1)
    (Ok c.in_ok-record_of-in-Record.field-0)
    (ap ty_phrase c.in-Record.is ∙ ty_phrase-Record c.in-Record.fields c.in-Record.field-1)
    (read_record c.args.g.now c.args.t.now c.read_fields.new.t c.record_of.new.t c.args.scope.now
    (ty_fields (map ty_field_phrase c.in-Record.fields)) c.in-Record.field-1 c.in_ok-fields-in-Record.fields
    c.in_ok-record_of-in-Record.field-0 inner made.made made.has made.extends made.state)

-- ---- type constructors

pub read_ty-applied-requires-clause-scope : goal.read_ty-applied-requires-clause-scope
read_ty-applied-requires-clause-scope g t c = c.requires.there

pub read_ty-applied-requires-clause-args : goal.read_ty-applied-requires-clause-args
read_ty-applied-requires-clause-args g t c = c.in_ok-args-in-Named.ensures.have

pub read_ty-returns-in_err-args-in-Named : goal.read_ty-returns-in_err-args-in-Named
read_ty-returns-in_err-args-in-Named g t c =
    let inner = subst (λ args. AreArgs c.args.g.now c.args.t.now c.args.scope.now (ty_phrases (map ty_phrase args))
    c.read_args.new.t (Err c.in_err-args-in-Named.field-0.0)) c.as_slice-in-Named.ensures
    c.in_err-args-in-Named.ensures in
    passed_on (λ r. IsRead c.args.g.now c.args.t.now c.args.scope.now (ty_phrase c.args.ty.now) c.read_args.new.t r)
    c.from_residual-in_err-args-in-Named.result c.in_err-args-in-Named.field-0.0
    c.from_residual-in_err-args-in-Named.ensures.1
    (read_phrase c.args.g.now c.args.t.now c.read_args.new.t c.args.scope.now (ty_phrase c.args.ty.now)
    (TyPhrase.Named (ty_phrases (map ty_phrase c.in-Named.args)) c.in-Named.long c.in-Named.at)
    (Err c.in_err-args-in-Named.field-0.0)
    (ap ty_phrase c.in-Named.is ∙ ty_phrase-Named c.in-Named.args c.in-Named.long c.in-Named.at)
    (args_fail c.args.g.now c.args.t.now c.read_args.new.t c.args.scope.now
    (ty_phrases (map ty_phrase c.in-Named.args)) c.in-Named.long c.in-Named.at c.in_err-args-in-Named.field-0.0 inner))

pub read_ty-returns-in_ok-args-in-Named : goal.read_ty-returns-in_ok-args-in-Named
read_ty-returns-in_ok-args-in-Named g t c =
    let inner = subst (λ args. AreArgs c.args.g.now c.args.t.now c.args.scope.now (ty_phrases (map ty_phrase args))
    c.read_args.new.t (Ok c.in_ok-args-in-Named.args)) c.as_slice-in-Named.ensures c.in_ok-args-in-Named.ensures in
    read_phrase c.args.g.now c.args.t.now c.applied.new.t c.args.scope.now (ty_phrase c.args.ty.now)
    (TyPhrase.Named (ty_phrases (map ty_phrase c.in-Named.args)) c.in-Named.long c.in-Named.at) c.applied.result
    (ap ty_phrase c.in-Named.is ∙ ty_phrase-Named c.in-Named.args c.in-Named.long c.in-Named.at)
    (read_named c.args.g.now c.args.t.now c.read_args.new.t c.applied.new.t c.args.scope.now
    (ty_phrases (map ty_phrase c.in-Named.args)) c.in-Named.long c.in-Named.at c.in_ok-args-in-Named.args
    c.applied.result c.requires inner c.applied.ensures)

-- ---- function types

pub read_ty-arrow-requires-clause-from : goal.read_ty-arrow-requires-clause-from
read_ty-arrow-requires-clause-from g t c =
    c.in_ok-to-in-Arrow.ensures.makes.keeps.ids c.in_ok-from-in-Arrow.from c.in_ok-from-in-Arrow.ensures.has

pub read_ty-arrow-requires-clause-to : goal.read_ty-arrow-requires-clause-to
read_ty-arrow-requires-clause-to g t c = c.in_ok-to-in-Arrow.ensures.has

pub read_ty-returns-in_err-from-in-Arrow : goal.read_ty-returns-in_err-from-in-Arrow
read_ty-returns-in_err-from-in-Arrow g t c =
    let from = subst (λ p. IsRead c.args.g.now c.args.t.now c.args.scope.now (ty_phrase p) c.read_ty.new.t
    (Err c.in_err-from-in-Arrow.field-0.0)) c.get.ensures c.in_err-from-in-Arrow.ensures in
    passed_on (λ r. IsRead c.args.g.now c.args.t.now c.args.scope.now (ty_phrase c.args.ty.now) c.read_ty.new.t r)
    c.from_residual-in_err-from-in-Arrow.result c.in_err-from-in-Arrow.field-0.0
    c.from_residual-in_err-from-in-Arrow.ensures.1
    (read_phrase c.args.g.now c.args.t.now c.read_ty.new.t c.args.scope.now (ty_phrase c.args.ty.now)
    (TyPhrase.Arrow (ty_phrase c.in-Arrow.from) (ty_phrase c.in-Arrow.to) c.in-Arrow.field-2)
    (Err c.in_err-from-in-Arrow.field-0.0)
    (ap ty_phrase c.in-Arrow.is ∙ ty_phrase-Arrow c.in-Arrow.from c.in-Arrow.to c.in-Arrow.field-2)
    (from_fails c.args.g.now c.args.t.now c.read_ty.new.t c.args.scope.now (ty_phrase c.in-Arrow.from)
    (ty_phrase c.in-Arrow.to) c.in-Arrow.field-2 c.in_err-from-in-Arrow.field-0.0 from))

pub read_ty-returns-in_err-to-in-Arrow : goal.read_ty-returns-in_err-to-in-Arrow
read_ty-returns-in_err-to-in-Arrow g t c =
    let from = subst (λ p. IsRead c.args.g.now c.args.t.now c.args.scope.now (ty_phrase p) c.read_ty.new.t
    (Ok c.in_ok-from-in-Arrow.from)) c.get.ensures c.in_ok-from-in-Arrow.ensures in
    let to = subst (λ p. IsRead c.args.g.now c.read_ty.new.t c.args.scope.now (ty_phrase p) c.read_ty-in-Arrow.new.t
    (Err c.in_err-to-in-Arrow.field-0.0)) c.get-in-Arrow.ensures c.in_err-to-in-Arrow.ensures in
    passed_on (λ r. IsRead c.args.g.now c.args.t.now c.args.scope.now (ty_phrase c.args.ty.now)
    c.read_ty-in-Arrow.new.t r) c.from_residual-in_err-to-in-Arrow.result c.in_err-to-in-Arrow.field-0.0
    c.from_residual-in_err-to-in-Arrow.ensures.1
    (read_phrase c.args.g.now c.args.t.now c.read_ty-in-Arrow.new.t c.args.scope.now (ty_phrase c.args.ty.now)
    (TyPhrase.Arrow (ty_phrase c.in-Arrow.from) (ty_phrase c.in-Arrow.to) c.in-Arrow.field-2)
    (Err c.in_err-to-in-Arrow.field-0.0)
    (ap ty_phrase c.in-Arrow.is ∙ ty_phrase-Arrow c.in-Arrow.from c.in-Arrow.to c.in-Arrow.field-2)
    (to_fails c.args.g.now c.args.t.now c.read_ty.new.t c.read_ty-in-Arrow.new.t c.args.scope.now
    (ty_phrase c.in-Arrow.from) (ty_phrase c.in-Arrow.to) c.in-Arrow.field-2 c.in_ok-from-in-Arrow.from
    c.in_err-to-in-Arrow.field-0.0 c.requires from to))

pub read_ty-returns-in_err-arrow-in-Arrow : goal.read_ty-returns-in_err-arrow-in-Arrow
read_ty-returns-in_err-arrow-in-Arrow g t c =
    passed_on (λ r. IsRead c.args.g.now c.args.t.now c.args.scope.now (ty_phrase c.args.ty.now) c.arrow.new.self r)
    c.from_residual-in_err-arrow-in-Arrow.result fault.NoMemory c.from_residual-in_err-arrow-in-Arrow.ensures.1
    (read_stopped c.args.g.now c.args.t.now c.read_ty-in-Arrow.new.t c.arrow.new.self c.args.scope.now
    (ty_phrase c.args.ty.now) c.in_ok-to-in-Arrow.ensures.over
    (makes_later c.args.t.now c.read_ty.new.t c.read_ty-in-Arrow.new.t c.in_ok-from-in-Arrow.ensures.makes
    c.in_ok-to-in-Arrow.ensures.makes) c.in_err-arrow-in-Arrow.ensures.refused)

pub read_ty-returns-in_ok-arrow-in-Arrow : goal.read_ty-returns-in_ok-arrow-in-Arrow
read_ty-returns-in_ok-arrow-in-Arrow g t c =
    let made = c.in_ok-arrow-in-Arrow.ensures in
    let from = subst (λ p. IsRead c.args.g.now c.args.t.now c.args.scope.now (ty_phrase p) c.read_ty.new.t
    (Ok c.in_ok-from-in-Arrow.from)) c.get.ensures c.in_ok-from-in-Arrow.ensures in
    let to = subst (λ p. IsRead c.args.g.now c.read_ty.new.t c.args.scope.now (ty_phrase p) c.read_ty-in-Arrow.new.t
    (Ok c.in_ok-to-in-Arrow.to)) c.get-in-Arrow.ensures c.in_ok-to-in-Arrow.ensures in
    read_phrase c.args.g.now c.args.t.now c.arrow.new.self c.args.scope.now (ty_phrase c.args.ty.now)
    (TyPhrase.Arrow (ty_phrase c.in-Arrow.from) (ty_phrase c.in-Arrow.to) c.in-Arrow.field-2)
    (Ok c.in_ok-arrow-in-Arrow.field-0)
    (ap ty_phrase c.in-Arrow.is ∙ ty_phrase-Arrow c.in-Arrow.from c.in-Arrow.to c.in-Arrow.field-2)
    (read_arrow c.args.g.now c.args.t.now c.read_ty.new.t c.read_ty-in-Arrow.new.t c.arrow.new.self c.args.scope.now
    (ty_phrase c.in-Arrow.from) (ty_phrase c.in-Arrow.to) c.in-Arrow.field-2 c.in_ok-from-in-Arrow.from
    c.in_ok-to-in-Arrow.to c.in_ok-arrow-in-Arrow.field-0 c.requires from to made.made made.has made.extends made.state)
