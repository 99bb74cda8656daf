use Rattle.std.proofs.Common.{refl, sym, ap, subst, ◌∙◌, map, [], ◌∷◌, ◌++◌}
use Rattle.std.specs.Prelude.{Ok, Err}
use Rattle.cm_base.specs.declared.fault.Fault.TheVariants as fault
use Rattle.std.specs.Option.{option_map}
use Rattle.type_nodes.specs.Tables.{type_of}
use Rattle.bare_phrases.specs.Phrases.{PatPhrase}
use Rattle.bare_phrases.specs.PhraseOf.{ty_phrase, pat_phrase, pat_field_phrase, pat_fields}
use Rattle.bare_phrases.proofs.Forms.{pat_phrase-Wild, pat_phrase-Int, pat_phrase-Str, pat_phrase-Char, pat_phrase-Long, pat_phrase-Record, pat_phrase-Con, pat_phrase-Typed, pat_phrase-As}
use Rattle.core_scopes.specs.Scopes.{entry_of}
use Rattle.static_semantics.specs.PatternInference.{bind_variable}
use Rattle.type_phrases.specs.Inferred.{progress, home_scope}
use Rattle.type_phrases.proofs.Keeping.{keeps_extended}
use Rattle.pattern_elab.specs.Scopes.{own_entry, scope_of, bound_of}
use Rattle.pattern_elab.specs.Steps.{InferredPat, BindsOn, IsPat, AreFields, IsField}
use Rattle.pattern_elab.proofs.Stepping.{passed_on}
use Rattle.pattern_elab.proofs.Scoping.{core_later, values_later}
use Rattle.pattern_elab.proofs.Done.{plain_done, phrase_done, typed_done, typed_stops_first, typed_stops_second, typed_stops_third, con_finds, con_stops_first, con_stops_second, con_stops_third, con_stops_fourth, con_stops_fifth, as_done, as_stops_first, as_stops_second, as_stops_third, as_stops_fourth, as_stops_fifth, record_done, record_stops, no_memory, field_is, field_stops_first, field_stops_second, field_no_memory, fields_stop, fields_done}
use Rattle.pattern_elab.proofs.Fields.{fields_begin, fields_next}
use Rattle.pattern_elab.proofs.pat.+elab_pat.Goals as goal

pub elab_pat-returns-in-Wild : goal.elab_pat-returns-in-Wild
elab_pat-returns-in-Wild t c =
    plain_done c.args.g.now c.args.t.now c.args.scope.now (pat_phrase c.args.pat.now) (PatPhrase.Wild c.in-Wild.at)
    c.elab_wild.new.t c.args.bound.now c.elab_wild.result (ap pat_phrase c.in-Wild.is ∙ pat_phrase-Wild c.in-Wild.at)
    c.elab_wild.ensures.infers c.elab_wild.ensures.has c.elab_wild.ensures.ids

pub elab_pat-returns-in-Int : goal.elab_pat-returns-in-Int
elab_pat-returns-in-Int t c =
    plain_done c.args.g.now c.args.t.now c.args.scope.now (pat_phrase c.args.pat.now) (PatPhrase.Int c.in-Int.field-0
    c.in-Int.at)
    c.elab_int.new.t c.args.bound.now c.elab_int.result (ap pat_phrase c.in-Int.is ∙ pat_phrase-Int c.in-Int.field-0
    c.in-Int.at)
    c.elab_int.ensures.infers c.elab_int.ensures.has c.elab_int.ensures.ids

pub elab_pat-returns-in-Str : goal.elab_pat-returns-in-Str
elab_pat-returns-in-Str t c =
    plain_done c.args.g.now c.args.t.now c.args.scope.now (pat_phrase c.args.pat.now) (PatPhrase.Str c.in-Str.field-0
    c.in-Str.at)
    c.elab_string.new.t c.args.bound.now c.elab_string.result (ap pat_phrase c.in-Str.is ∙ pat_phrase-Str
    c.in-Str.field-0 c.in-Str.at)
    c.elab_string.ensures.infers c.elab_string.ensures.has c.elab_string.ensures.ids

pub elab_pat-returns-in-Char : goal.elab_pat-returns-in-Char
elab_pat-returns-in-Char t c =
    plain_done c.args.g.now c.args.t.now c.args.scope.now (pat_phrase c.args.pat.now) (PatPhrase.Char
    c.in-Char.field-0 c.in-Char.at)
    c.elab_char.new.t c.args.bound.now c.elab_char.result (ap pat_phrase c.in-Char.is ∙ pat_phrase-Char
    c.in-Char.field-0 c.in-Char.at)
    c.elab_char.ensures.infers c.elab_char.ensures.has c.elab_char.ensures.ids

pub elab_pat-returns-in-Long : goal.elab_pat-returns-in-Long
elab_pat-returns-in-Long t c =
    phrase_done c.args.g.now c.args.t.now c.args.scope.now (pat_phrase c.args.pat.now) (PatPhrase.Long c.in-Long.long
    c.in-Long.at)
    c.elab_long.new.t c.args.bound.now c.elab_long.new.bound c.elab_long.result
    (ap pat_phrase c.in-Long.is ∙ pat_phrase-Long c.in-Long.long c.in-Long.at)
    (record { infers = c.elab_long.ensures.infers; has = c.elab_long.ensures.has; goes = c.elab_long.ensures.goes })

pub elab_pat-returns-in-Con : goal.elab_pat-returns-in-Con
elab_pat-returns-in-Con t c =
    phrase_done c.args.g.now c.args.t.now c.args.scope.now (pat_phrase c.args.pat.now) (PatPhrase.Con c.in-Con.long
    (pat_phrase c.in-Con.arg) c.in-Con.at)
    c.elab_applied.new.t c.args.bound.now c.elab_applied.new.bound c.elab_applied.result (ap pat_phrase c.in-Con.is ∙
    pat_phrase-Con c.in-Con.long c.in-Con.arg c.in-Con.at)
    (subst (λ p. IsPat c.args.g.now c.args.t.now c.args.scope.now (PatPhrase.Con c.in-Con.long (pat_phrase p)
    c.in-Con.at)
    c.elab_applied.new.t c.args.bound.now c.elab_applied.new.bound c.elab_applied.result) c.get.ensures
    c.elab_applied.ensures)

pub elab_pat-returns-in-Typed : goal.elab_pat-returns-in-Typed
elab_pat-returns-in-Typed t c =
    phrase_done c.args.g.now c.args.t.now c.args.scope.now (pat_phrase c.args.pat.now) (PatPhrase.Typed (pat_phrase
    c.in-Typed.inner) (ty_phrase c.in-Typed.ty) c.in-Typed.at)
    c.elab_typed.new.t c.args.bound.now c.elab_typed.new.bound c.elab_typed.result (ap pat_phrase c.in-Typed.is ∙
    pat_phrase-Typed c.in-Typed.inner c.in-Typed.ty c.in-Typed.at)
    (subst (λ p. IsPat c.args.g.now c.args.t.now c.args.scope.now (PatPhrase.Typed (pat_phrase p) (ty_phrase
    c.in-Typed.ty) c.in-Typed.at)
    c.elab_typed.new.t c.args.bound.now c.elab_typed.new.bound c.elab_typed.result) c.get-in-Typed.ensures
    c.elab_typed.ensures)

pub elab_pat-returns-in-As : goal.elab_pat-returns-in-As
elab_pat-returns-in-As t c =
    phrase_done c.args.g.now c.args.t.now c.args.scope.now (pat_phrase c.args.pat.now) (PatPhrase.As c.in-As.name
    (option_map ty_phrase c.in-As.ty) (pat_phrase c.in-As.inner) c.in-As.at)
    c.elab_as.new.t c.args.bound.now c.elab_as.new.bound c.elab_as.result (ap pat_phrase c.in-As.is ∙ pat_phrase-As
    c.in-As.name c.in-As.ty c.in-As.inner c.in-As.at)
    (subst (λ p. IsPat c.args.g.now c.args.t.now c.args.scope.now (PatPhrase.As c.in-As.name (option_map ty_phrase
    c.in-As.ty) (pat_phrase p) c.in-As.at)
    c.elab_as.new.t c.args.bound.now c.elab_as.new.bound c.elab_as.result) c.get-in-As.ensures c.elab_as.ensures)

pub elab_pat-returns-in-Record : goal.elab_pat-returns-in-Record
elab_pat-returns-in-Record t c =
    phrase_done c.args.g.now c.args.t.now c.args.scope.now (pat_phrase c.args.pat.now) (PatPhrase.Record (pat_fields
    (map pat_field_phrase c.in-Record.fields)) c.in-Record.at)
    c.elab_record.new.t c.args.bound.now c.elab_record.new.bound c.elab_record.result (ap pat_phrase c.in-Record.is ∙
    pat_phrase-Record c.in-Record.fields c.in-Record.at)
    (subst (λ fields. IsPat c.args.g.now c.args.t.now c.args.scope.now (PatPhrase.Record (pat_fields (map
    pat_field_phrase fields)) c.in-Record.at)
    c.elab_record.new.t c.args.bound.now c.elab_record.new.bound c.elab_record.result) c.as_slice.ensures
    c.elab_record.ensures)

pub elab_typed-written_type-requires : goal.elab_typed-written_type-requires
elab_typed-written_type-requires t c =
    core_later c.args.g.now c.args.t.now c.elab_pat.new.t c.args.scope.now c.in_ok-id.ensures.goes.ids c.requires

pub elab_typed-returns-in_err-id : goal.elab_typed-returns-in_err-id
elab_typed-returns-in_err-id t c =
    passed_on (λ r. IsPat c.args.g.now c.args.t.now c.args.scope.now (PatPhrase.Typed (pat_phrase c.args.inner.now)
    (ty_phrase c.args.ty.now) c.args.at) c.elab_pat.new.t c.args.bound.now c.elab_pat.new.bound r)
    c.from_residual.result c.in_err-id.field-0.0
    c.from_residual.ensures.1
    (typed_stops_first c.args.g.now c.args.scope.now (pat_phrase c.args.inner.now) (ty_phrase c.args.ty.now)
    c.args.at c.args.t.now c.elab_pat.new.t c.args.bound.now c.elab_pat.new.bound c.in_err-id.field-0.0
    c.in_err-id.ensures)

pub elab_typed-returns-in_err-written : goal.elab_typed-returns-in_err-written
elab_typed-returns-in_err-written t c =
    passed_on (λ r. IsPat c.args.g.now c.args.t.now c.args.scope.now (PatPhrase.Typed (pat_phrase c.args.inner.now)
    (ty_phrase c.args.ty.now) c.args.at) c.written_type.new.t c.args.bound.now c.elab_pat.new.bound r)
    c.from_residual-in_err-written.result
    c.in_err-written.field-0.0 c.from_residual-in_err-written.ensures.1
    (typed_stops_second c.args.g.now c.args.scope.now (pat_phrase c.args.inner.now) (ty_phrase c.args.ty.now)
    c.args.at c.args.t.now c.elab_pat.new.t c.written_type.new.t c.args.bound.now c.elab_pat.new.bound c.in_ok-id.id
    (type_of c.written_type.new.t) c.in_err-written.field-0.0 c.in_ok-id.ensures c.in_err-written.ensures.infers
    c.in_err-written.ensures.ids)

pub elab_typed-returns-in_err-unify_at : goal.elab_typed-returns-in_err-unify_at
elab_typed-returns-in_err-unify_at t c =
    passed_on (λ r. IsPat c.args.g.now c.args.t.now c.args.scope.now (PatPhrase.Typed (pat_phrase c.args.inner.now)
    (ty_phrase c.args.ty.now) c.args.at) c.unify_at.new.t c.args.bound.now c.elab_pat.new.bound r)
    c.from_residual-in_err-unify_at.result
    c.in_err-unify_at.field-0.0 c.from_residual-in_err-unify_at.ensures.1
    (typed_stops_third c.args.g.now c.args.scope.now (pat_phrase c.args.inner.now) (ty_phrase c.args.ty.now)
    c.args.at c.args.t.now c.elab_pat.new.t c.written_type.new.t c.unify_at.new.t c.args.bound.now
    c.elab_pat.new.bound c.in_ok-id.id
    c.in_ok-written.written c.in_err-unify_at.field-0.0 c.in_ok-id.ensures c.in_ok-written.ensures.infers
    c.in_ok-written.ensures.state c.in_ok-written.ensures.ids c.in_err-unify_at.ensures.answer
    c.in_err-unify_at.ensures.ids)

pub elab_typed-returns : goal.elab_typed-returns
elab_typed-returns t c =
    rw c.sized.ensures.table
    (typed_done c.args.g.now c.args.scope.now (pat_phrase c.args.inner.now) (ty_phrase c.args.ty.now) c.args.at
    c.args.t.now c.elab_pat.new.t c.written_type.new.t c.unify_at.new.t c.args.bound.now c.elab_pat.new.bound
    c.in_ok-id.id
    c.in_ok-written.written c.sized.result c.in_ok-id.ensures c.in_ok-written.ensures.infers
    c.in_ok-written.ensures.state
    c.in_ok-written.ensures.ids c.in_ok-unify_at.ensures.answer c.in_ok-unify_at.ensures.ids c.sized.ensures.answer
    c.sized.ensures.same)

pub elab_applied-returns-in_err-value : goal.elab_applied-returns-in_err-value
elab_applied-returns-in_err-value t c =
    passed_on (λ r. IsPat c.args.g.now c.args.t.now c.args.scope.now (PatPhrase.Con c.args.long.now (pat_phrase
    c.args.arg.now) c.args.at) c.args.t.now c.args.bound.now c.args.bound.now r) c.from_residual.result
    c.in_err-value.field-0.0 c.from_residual.ensures.1
    (con_stops_first c.args.g.now c.args.scope.now c.args.long.now (pat_phrase c.args.arg.now) c.args.at c.args.t.now
    c.args.bound.now (entry_of own_entry) c.in_err-value.field-0.0 c.in_err-value.ensures.answer)

pub elab_applied-returns-in_err-id : goal.elab_applied-returns-in_err-id
elab_applied-returns-in_err-id t c =
    passed_on (λ r. IsPat c.args.g.now c.args.t.now c.args.scope.now (PatPhrase.Con c.args.long.now (pat_phrase
    c.args.arg.now) c.args.at) c.elab_pat.new.t c.args.bound.now c.elab_pat.new.bound r)
    c.from_residual-in_err-id.result c.in_err-id.field-0.0
    c.from_residual-in_err-id.ensures.1
    (con_stops_second c.args.g.now c.args.scope.now c.args.long.now (pat_phrase c.args.arg.now) c.args.at
    c.args.t.now c.elab_pat.new.t c.args.bound.now c.elab_pat.new.bound (entry_of own_entry c.in_ok-value.value)
    c.in_err-id.field-0.0 c.in_ok-value.ensures.answer
    c.in_err-id.ensures)

pub elab_applied-returns-in_err-check_con : goal.elab_applied-returns-in_err-check_con
elab_applied-returns-in_err-check_con t c =
    passed_on (λ r. IsPat c.args.g.now c.args.t.now c.args.scope.now (PatPhrase.Con c.args.long.now (pat_phrase
    c.args.arg.now) c.args.at) c.elab_pat.new.t c.args.bound.now c.elab_pat.new.bound r)
    c.from_residual-in_err-check_con.result
    c.in_err-check_con.field-0.0 c.from_residual-in_err-check_con.ensures.1
    (con_stops_third c.args.g.now c.args.scope.now c.args.long.now (pat_phrase c.args.arg.now) c.args.at c.args.t.now
    c.elab_pat.new.t c.args.bound.now c.elab_pat.new.bound (entry_of own_entry c.in_ok-value.value) c.in_ok-id.id
    c.in_err-check_con.field-0.0
    c.in_ok-value.ensures.answer c.in_ok-id.ensures c.in_err-check_con.ensures)

pub elab_applied-returns-in_err-sides : goal.elab_applied-returns-in_err-sides
elab_applied-returns-in_err-sides t c =
    passed_on (λ r. IsPat c.args.g.now c.args.t.now c.args.scope.now (PatPhrase.Con c.args.long.now (pat_phrase
    c.args.arg.now) c.args.at) c.sides_of.new.t c.args.bound.now c.elab_pat.new.bound r)
    c.from_residual-in_err-sides.result
    c.in_err-sides.field-0.0 c.from_residual-in_err-sides.ensures.1
    (con_stops_fourth c.args.g.now c.args.scope.now c.args.long.now (pat_phrase c.args.arg.now) c.args.at
    c.args.t.now c.elab_pat.new.t c.sides_of.new.t c.args.bound.now c.elab_pat.new.bound (entry_of own_entry
    c.in_ok-value.value) c.in_ok-id.id
    c.in_err-sides.field-0.0 c.in_ok-value.ensures.answer c.in_ok-id.ensures c.in_ok-check_con.ensures
    c.in_err-sides.ensures.finds
    c.in_err-sides.ensures.ids)

pub elab_applied-returns-in_err-unify_at : goal.elab_applied-returns-in_err-unify_at
elab_applied-returns-in_err-unify_at t c =
    passed_on (λ r. IsPat c.args.g.now c.args.t.now c.args.scope.now (PatPhrase.Con c.args.long.now (pat_phrase
    c.args.arg.now) c.args.at) c.unify_at.new.t c.args.bound.now c.elab_pat.new.bound r)
    c.from_residual-in_err-unify_at.result
    c.in_err-unify_at.field-0.0 c.from_residual-in_err-unify_at.ensures.1
    (con_stops_fifth c.args.g.now c.args.scope.now c.args.long.now (pat_phrase c.args.arg.now) c.args.at c.args.t.now
    c.elab_pat.new.t c.sides_of.new.t c.unify_at.new.t c.args.bound.now c.elab_pat.new.bound (entry_of own_entry
    c.in_ok-value.value) c.in_ok-id.id
    c.in_ok-sides.sides.0 c.in_ok-sides.sides.1 c.in_err-unify_at.field-0.0 c.in_ok-value.ensures.answer c.in_ok-id.ensures
    c.in_ok-check_con.ensures c.in_ok-sides.ensures.finds c.in_ok-sides.ensures.state c.in_ok-sides.ensures.ids
    c.in_err-unify_at.ensures.answer c.in_err-unify_at.ensures.ids)

pub elab_applied-returns : goal.elab_applied-returns
elab_applied-returns t c =
    rw c.sized.ensures.table
    (con_finds c.args.g.now c.args.scope.now c.args.long.now (pat_phrase c.args.arg.now) c.args.at c.args.t.now
    c.elab_pat.new.t c.sides_of.new.t c.unify_at.new.t c.args.bound.now c.elab_pat.new.bound (entry_of own_entry
    c.in_ok-value.value) c.in_ok-id.id
    c.in_ok-sides.sides.0 c.in_ok-sides.sides.1 c.sized.result c.in_ok-value.ensures.answer c.in_ok-id.ensures
    c.in_ok-check_con.ensures c.in_ok-sides.ensures.finds c.in_ok-sides.ensures.state c.in_ok-sides.ensures.ids
    c.in_ok-unify_at.ensures.answer c.in_ok-unify_at.ensures.ids c.in_ok-sides.ensures.second c.sized.ensures.answer
    c.sized.ensures.same)

pub elab_typed-unify_at-requires-clause-first : goal.elab_typed-unify_at-requires-clause-first
elab_typed-unify_at-requires-clause-first t c =
    c.in_ok-written.ensures.ids.ids c.in_ok-id.id c.in_ok-id.ensures.has

pub elab_typed-sized-requires : goal.elab_typed-sized-requires
elab_typed-sized-requires t c =
    c.in_ok-unify_at.ensures.ids.ids c.in_ok-id.id (c.in_ok-written.ensures.ids.ids c.in_ok-id.id
    c.in_ok-id.ensures.has)

pub elab_applied-unify_at-requires-clause-second : goal.elab_applied-unify_at-requires-clause-second
elab_applied-unify_at-requires-clause-second t c =
    c.in_ok-sides.ensures.ids.ids c.in_ok-id.id c.in_ok-id.ensures.has

pub elab_applied-sized-requires : goal.elab_applied-sized-requires
elab_applied-sized-requires t c =
    c.in_ok-unify_at.ensures.ids.ids c.in_ok-sides.sides.1 c.in_ok-sides.ensures.second

pub elab_as-type_variable-requires-clause-scope : goal.elab_as-type_variable-requires-clause-scope
elab_as-type_variable-requires-clause-scope t c =
    core_later c.args.g.now c.args.t.now c.bind_variable.new.t c.args.scope.now c.in_ok-variable.ensures.goes.ids
    c.requires

pub elab_as-unify_at-requires-clause-first : goal.elab_as-unify_at-requires-clause-first
elab_as-unify_at-requires-clause-first t c =
    c.in_ok-id.ensures.goes.ids.ids c.in_ok-variable.variable (c.in_ok-type_variable.ensures.ids.ids
    c.in_ok-variable.variable c.in_ok-variable.ensures.has)

pub elab_as-sized-requires : goal.elab_as-sized-requires
elab_as-sized-requires t c =
    c.in_ok-unify_at.ensures.ids.ids c.in_ok-variable.variable
    (c.in_ok-id.ensures.goes.ids.ids c.in_ok-variable.variable (c.in_ok-type_variable.ensures.ids.ids
    c.in_ok-variable.variable c.in_ok-variable.ensures.has))

pub elab_as-returns-in_err-check_variable : goal.elab_as-returns-in_err-check_variable
elab_as-returns-in_err-check_variable t c =
    passed_on (λ r. IsPat c.args.g.now c.args.t.now c.args.scope.now (PatPhrase.As c.args.name.now (option_map
    ty_phrase c.args.ty.now) (pat_phrase c.args.inner.now) c.args.at) c.args.t.now c.args.bound.now c.args.bound.now
    r) c.from_residual.result c.in_err-check_variable.field-0.0 c.from_residual.ensures.1
    (as_stops_first c.args.g.now c.args.scope.now c.args.name.now (option_map ty_phrase c.args.ty.now) (pat_phrase
    c.args.inner.now) c.args.at c.args.t.now c.args.bound.now c.in_err-check_variable.field-0.0
    c.in_err-check_variable.ensures)

pub elab_as-returns-in_err-variable : goal.elab_as-returns-in_err-variable
elab_as-returns-in_err-variable t c =
    passed_on (λ r. IsPat c.args.g.now c.args.t.now c.args.scope.now (PatPhrase.As c.args.name.now (option_map
    ty_phrase c.args.ty.now) (pat_phrase c.args.inner.now) c.args.at) c.bind_variable.new.t c.args.bound.now
    c.bind_variable.new.bound r) c.from_residual-in_err-variable.result c.in_err-variable.field-0.0
    c.from_residual-in_err-variable.ensures.1
    (as_stops_second c.args.g.now c.args.scope.now c.args.name.now (option_map ty_phrase c.args.ty.now) (pat_phrase
    c.args.inner.now) c.args.at c.args.t.now c.bind_variable.new.t c.args.bound.now c.bind_variable.new.bound
    c.in_err-variable.field-0.0 c.in_ok-check_variable.ensures
    (subst (λ at. InferredPat (bind_variable (home_scope c.args.g.now) at c.args.name.now.text (bound_of
    c.args.bound.now) (progress c.args.t.now c.args.g.now)) (Err c.in_err-variable.field-0.0)
    c.bind_variable.new.t c.bind_variable.new.bound c.args.g.now) c.place_of.ensures c.in_err-variable.ensures.infers)
    c.in_err-variable.ensures.goes)

pub elab_as-returns-in_err-type_variable : goal.elab_as-returns-in_err-type_variable
elab_as-returns-in_err-type_variable t c =
    passed_on (λ r. IsPat c.args.g.now c.args.t.now c.args.scope.now (PatPhrase.As c.args.name.now (option_map
    ty_phrase c.args.ty.now) (pat_phrase c.args.inner.now) c.args.at) c.type_variable.new.t c.args.bound.now
    c.bind_variable.new.bound r) c.from_residual-in_err-type_variable.result c.in_err-type_variable.field-0.0
    c.from_residual-in_err-type_variable.ensures.1
    (as_stops_third c.args.g.now c.args.scope.now c.args.name.now (option_map ty_phrase c.args.ty.now) (pat_phrase
    c.args.inner.now) c.args.at c.args.t.now c.bind_variable.new.t c.type_variable.new.t c.args.bound.now
    c.bind_variable.new.bound c.in_ok-variable.variable c.in_err-type_variable.field-0.0
    c.in_ok-check_variable.ensures
    (subst (λ at. InferredPat (bind_variable (home_scope c.args.g.now) at c.args.name.now.text (bound_of
    c.args.bound.now) (progress c.args.t.now c.args.g.now)) (Ok c.in_ok-variable.variable)
    c.bind_variable.new.t c.bind_variable.new.bound c.args.g.now) c.place_of.ensures c.in_ok-variable.ensures.infers)
    c.in_ok-variable.ensures.goes c.in_err-type_variable.ensures.infers c.in_err-type_variable.ensures.ids)

pub elab_as-returns-in_err-id : goal.elab_as-returns-in_err-id
elab_as-returns-in_err-id t c =
    passed_on (λ r. IsPat c.args.g.now c.args.t.now c.args.scope.now (PatPhrase.As c.args.name.now (option_map
    ty_phrase c.args.ty.now) (pat_phrase c.args.inner.now) c.args.at) c.elab_pat.new.t c.args.bound.now
    c.elab_pat.new.bound r) c.from_residual-in_err-id.result c.in_err-id.field-0.0 c.from_residual-in_err-id.ensures.1
    (as_stops_fourth c.args.g.now c.args.scope.now c.args.name.now (option_map ty_phrase c.args.ty.now) (pat_phrase
    c.args.inner.now) c.args.at c.args.t.now c.bind_variable.new.t c.type_variable.new.t c.elab_pat.new.t
    c.args.bound.now c.bind_variable.new.bound c.elab_pat.new.bound c.in_ok-variable.variable c.in_err-id.field-0.0
    (record {
      free = c.in_ok-check_variable.ensures;
      binds = (subst (λ at. InferredPat (bind_variable (home_scope c.args.g.now) at c.args.name.now.text (bound_of
          c.args.bound.now) (progress c.args.t.now c.args.g.now)) (Ok c.in_ok-variable.variable)
          c.bind_variable.new.t c.bind_variable.new.bound c.args.g.now) c.place_of.ensures
          c.in_ok-variable.ensures.infers);
      there = c.in_ok-variable.ensures.has;
      goes = c.in_ok-variable.ensures.goes;
      typed = c.in_ok-type_variable.ensures.infers;
      ids = c.in_ok-type_variable.ensures.ids;
    }) c.in_err-id.ensures)

pub elab_as-returns-in_err-unify_at : goal.elab_as-returns-in_err-unify_at
elab_as-returns-in_err-unify_at t c =
    passed_on (λ r. IsPat c.args.g.now c.args.t.now c.args.scope.now (PatPhrase.As c.args.name.now (option_map
    ty_phrase c.args.ty.now) (pat_phrase c.args.inner.now) c.args.at) c.unify_at.new.t c.args.bound.now
    c.elab_pat.new.bound r) c.from_residual-in_err-unify_at.result c.in_err-unify_at.field-0.0
    c.from_residual-in_err-unify_at.ensures.1
    (as_stops_fifth c.args.g.now c.args.scope.now c.args.name.now (option_map ty_phrase c.args.ty.now) (pat_phrase
    c.args.inner.now) c.args.at c.args.t.now c.bind_variable.new.t c.type_variable.new.t c.elab_pat.new.t
    c.unify_at.new.t c.args.bound.now c.bind_variable.new.bound c.elab_pat.new.bound c.in_ok-variable.variable
    c.in_ok-id.id c.in_err-unify_at.field-0.0
    (record {
      free = c.in_ok-check_variable.ensures;
      binds = (subst (λ at. InferredPat (bind_variable (home_scope c.args.g.now) at c.args.name.now.text (bound_of
          c.args.bound.now) (progress c.args.t.now c.args.g.now)) (Ok c.in_ok-variable.variable)
          c.bind_variable.new.t c.bind_variable.new.bound c.args.g.now) c.place_of.ensures
          c.in_ok-variable.ensures.infers);
      there = c.in_ok-variable.ensures.has;
      goes = c.in_ok-variable.ensures.goes;
      typed = c.in_ok-type_variable.ensures.infers;
      ids = c.in_ok-type_variable.ensures.ids;
    }) c.in_ok-id.ensures c.in_err-unify_at.ensures.answer c.in_err-unify_at.ensures.ids)

pub elab_as-returns : goal.elab_as-returns
elab_as-returns t c =
    rw c.sized.ensures.table
    (as_done c.args.g.now c.args.scope.now c.args.name.now (option_map ty_phrase c.args.ty.now) (pat_phrase
    c.args.inner.now) c.args.at c.args.t.now c.bind_variable.new.t c.type_variable.new.t c.elab_pat.new.t
    c.unify_at.new.t c.args.bound.now c.bind_variable.new.bound c.elab_pat.new.bound c.in_ok-variable.variable
    c.in_ok-id.id c.sized.result
    (record {
      free = c.in_ok-check_variable.ensures;
      binds = (subst (λ at. InferredPat (bind_variable (home_scope c.args.g.now) at c.args.name.now.text (bound_of
          c.args.bound.now) (progress c.args.t.now c.args.g.now)) (Ok c.in_ok-variable.variable)
          c.bind_variable.new.t c.bind_variable.new.bound c.args.g.now) c.place_of.ensures
          c.in_ok-variable.ensures.infers);
      there = c.in_ok-variable.ensures.has;
      goes = c.in_ok-variable.ensures.goes;
      typed = c.in_ok-type_variable.ensures.infers;
      ids = c.in_ok-type_variable.ensures.ids;
    }) c.in_ok-id.ensures c.in_ok-unify_at.ensures.answer c.in_ok-unify_at.ensures.ids c.sized.ensures.answer
    c.sized.ensures.same)

pub elab_record-returns-in_err-rows : goal.elab_record-returns-in_err-rows
elab_record-returns-in_err-rows t c =
    passed_on (λ r. IsPat c.args.g.now c.args.t.now c.args.scope.now (PatPhrase.Record (pat_fields (map
    pat_field_phrase c.args.fields.now)) c.args.at) c.elab_fields.new.t c.args.bound.now c.elab_fields.new.bound r)
    c.from_residual.result c.in_err-rows.field-0.0 c.from_residual.ensures.1
    (record_stops c.args.g.now c.args.scope.now (pat_fields (map pat_field_phrase c.args.fields.now)) c.args.at
    c.args.t.now c.elab_fields.new.t c.args.bound.now c.elab_fields.new.bound c.in_err-rows.field-0.0
    c.in_err-rows.ensures)

pub elab_record-returns-in_err-id : goal.elab_record-returns-in_err-id
elab_record-returns-in_err-id t c =
    passed_on (λ r. IsPat c.args.g.now c.args.t.now c.args.scope.now (PatPhrase.Record (pat_fields (map
    pat_field_phrase c.args.fields.now)) c.args.at) c.record_of.new.t c.args.bound.now c.elab_fields.new.bound r)
    c.from_residual-in_err-id.result fault.NoMemory c.from_residual-in_err-id.ensures.1
    (no_memory c.args.g.now c.args.scope.now (PatPhrase.Record (pat_fields (map pat_field_phrase c.args.fields.now))
    c.args.at) c.args.t.now c.record_of.new.t c.args.bound.now c.elab_fields.new.bound
    (subst (λ z. BindsOn c.args.t.now z c.args.bound.now c.elab_fields.new.bound) (sym c.in_err-id.ensures.refused)
    c.in_ok-rows.ensures.goes))

pub elab_record-returns : goal.elab_record-returns
elab_record-returns t c =
    rw c.sized.ensures.table
    (record_done c.args.g.now c.args.scope.now (pat_fields (map pat_field_phrase c.args.fields.now)) c.args.at
    c.args.t.now c.elab_fields.new.t c.record_of.new.t c.args.bound.now c.elab_fields.new.bound c.in_ok-rows.rows
    c.in_ok-id.id c.sized.result c.in_ok-rows.ensures
    c.in_ok-id.ensures.made c.in_ok-id.ensures.state (keeps_extended c.elab_fields.new.t c.record_of.new.t
    c.in_ok-id.ensures.extends) c.in_ok-id.ensures.has
    c.sized.ensures.answer c.sized.ensures.same)

pub elab_fields-loop-field-init : goal.elab_fields-loop-field-init
elab_fields-loop-field-init t c =
    fields_begin c.args.g.now c.args.scope.now c.args.t.now c.args.fields.now c.new-rows.result c.args.bound.now
    c.requires c.new-rows.ensures

pub elab_fields-loop-field-preserved : goal.elab_fields-loop-field-preserved
elab_fields-loop-field-preserved t c =
    fields_next c.args.g.now c.args.scope.now c.args.t.now c.loop-field.t c.elab_field.new.t c.args.fields.now
    c.loop-field.field-index c.field-item.result c.loop-field.rows c.elab_field.new.rows c.args.bound.now
    c.loop-field.bound c.elab_field.new.bound c.loop-field.invariant c.loop-field-test.true
    c.field-item.is c.in_ok-elab_field.ensures.infers c.in_ok-elab_field.ensures.have
    c.in_ok-elab_field.ensures.differing
    c.in_ok-elab_field.ensures.goes

pub elab_fields-returns-in_err-elab_field : goal.elab_fields-returns-in_err-elab_field
elab_fields-returns-in_err-elab_field t c =
    passed_on (λ r. AreFields c.args.g.now c.args.t.now c.args.scope.now (pat_fields (map pat_field_phrase
    c.args.fields.now)) c.elab_field.new.t c.args.bound.now c.elab_field.new.bound r) c.from_residual.result
    c.in_err-elab_field.field-0.0 c.from_residual.ensures.1
    (fields_stop c.args.g.now c.args.scope.now c.args.t.now c.loop-field.t c.elab_field.new.t c.args.fields.now
    c.loop-field.field-index c.field-item.result c.loop-field.rows c.elab_field.new.rows c.args.bound.now
    c.loop-field.bound c.elab_field.new.bound c.in_err-elab_field.field-0.0 c.loop-field.invariant
    c.loop-field-test.true
    c.field-item.is c.in_err-elab_field.ensures)

pub elab_fields-returns : goal.elab_fields-returns
elab_fields-returns t c =
    fields_done c.args.g.now c.args.scope.now c.args.t.now c.loop-field.t c.args.fields.now c.loop-field.field-index
    c.loop-field.rows c.args.bound.now c.loop-field.bound c.loop-field.invariant c.loop-field-test.false

pub elab_field-returns-in_err-check_label : goal.elab_field-returns-in_err-check_label
elab_field-returns-in_err-check_label t c =
    passed_on (λ r. IsField c.args.g.now c.args.t.now c.args.scope.now c.args.label.now (pat_phrase c.args.pat.now)
    c.args.t.now c.args.rows.now c.args.rows.now c.args.bound.now c.args.bound.now r) c.from_residual.result
    c.in_err-check_label.field-0.0 c.from_residual.ensures.1
    (field_stops_first c.args.g.now c.args.scope.now c.args.label.now (pat_phrase c.args.pat.now) c.args.t.now
    c.args.rows.now c.args.bound.now c.in_err-check_label.field-0.0 (c.in_err-check_label.ensures.check c.args.t.now
    (scope_of c.args.g.now c.args.scope.now) refl))

pub elab_field-returns-in_err-id : goal.elab_field-returns-in_err-id
elab_field-returns-in_err-id t c =
    passed_on (λ r. IsField c.args.g.now c.args.t.now c.args.scope.now c.args.label.now (pat_phrase c.args.pat.now)
    c.elab_pat.new.t c.args.rows.now c.args.rows.now c.args.bound.now c.elab_pat.new.bound r)
    c.from_residual-in_err-id.result c.in_err-id.field-0.0 c.from_residual-in_err-id.ensures.1
    (field_stops_second c.args.g.now c.args.scope.now c.args.label.now (pat_phrase c.args.pat.now) c.args.t.now
    c.elab_pat.new.t c.args.rows.now c.args.bound.now c.elab_pat.new.bound c.in_err-id.field-0.0
    (c.in_ok-check_label.ensures.check c.args.t.now (scope_of c.args.g.now c.args.scope.now) refl)
    c.in_err-id.ensures)

pub elab_field-returns-in_err-copy : goal.elab_field-returns-in_err-copy
elab_field-returns-in_err-copy t c =
    passed_on (λ r. IsField c.args.g.now c.args.t.now c.args.scope.now c.args.label.now (pat_phrase c.args.pat.now)
    c.elab_pat.new.t c.args.rows.now c.args.rows.now c.args.bound.now c.elab_pat.new.bound r)
    c.from_residual-in_err-copy.result fault.NoMemory c.from_residual-in_err-copy.ensures.1
    (field_no_memory c.args.g.now c.args.scope.now c.args.label.now (pat_phrase c.args.pat.now) c.args.t.now
    c.elab_pat.new.t c.args.rows.now c.args.rows.now c.args.bound.now c.elab_pat.new.bound c.in_ok-id.ensures.goes)

pub elab_field-returns-in_err-bind : goal.elab_field-returns-in_err-bind
elab_field-returns-in_err-bind t c =
    passed_on (λ r. IsField c.args.g.now c.args.t.now c.args.scope.now c.args.label.now (pat_phrase c.args.pat.now)
    c.elab_pat.new.t c.args.rows.now c.bind.new.self c.args.bound.now c.elab_pat.new.bound r)
    c.from_residual-in_err-bind.result fault.NoMemory c.from_residual-in_err-bind.ensures.1
    (field_no_memory c.args.g.now c.args.scope.now c.args.label.now (pat_phrase c.args.pat.now) c.args.t.now
    c.elab_pat.new.t c.args.rows.now c.bind.new.self c.args.bound.now c.elab_pat.new.bound c.in_ok-id.ensures.goes)

pub elab_field-returns : goal.elab_field-returns
elab_field-returns t c =
    field_is c.args.g.now c.args.scope.now c.args.label.now (pat_phrase c.args.pat.now) c.args.t.now c.elab_pat.new.t
    c.args.rows.now c.bind.new.self c.args.bound.now c.elab_pat.new.bound c.in_ok-id.id
    (c.in_ok-check_label.ensures.check c.args.t.now (scope_of c.args.g.now c.args.scope.now) refl)
    c.in_ok-check_label.ensures.free c.requires.have
    c.requires.differing c.in_ok-id.ensures
    (c.in_ok-bind.ensures.ok ∙ ap (λ n. c.args.rows.now ++ (n, c.in_ok-id.id) ∷ []) c.in_ok-copy.ensures)

pub elab_applied-sides_of-requires-clause-entered : goal.elab_applied-sides_of-requires-clause-entered
elab_applied-sides_of-requires-clause-entered t c =
    values_later c.args.t.now c.elab_pat.new.t c.args.scope.now.values c.in_ok-id.ensures.goes.ids c.requires.entered
