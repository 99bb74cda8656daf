use Rattle.std.proofs.Common.{sym, ap, ◌∙◌, Some, ◌∷◌, [], refl}
use Rattle.std.specs.Option.{option_map}
use Rattle.std.specs.List.{join_with_byte}
use Rattle.semantic_objects.specs.declared.entry.ValueEntry.{ValueEntry}
use Rattle.semantic_objects.specs.Environments.{values}
use Rattle.static_semantics.specs.Inferring.{found_at, long_at}
use Rattle.core_scopes.specs.Scopes.{seen, entry_of}
use Rattle.type_phrases.specs.Inferred.{scope_in}
use Rattle.type_phrases.proofs.Steps.{refused}
use Rattle.exception_bindings.proofs.Binding.{copied_known, copied_unknown, copied_other}
use Rattle.exception_bindings.proofs.entry.copied_entry.Goals as goal

pub returns-in-None : goal.returns-in-None
returns-in-None g c = λ t read a.
    let sc = scope_in c.args.g.now t read c.args.scope.now in
    copied_unknown sc c.args.long.now (λ (x : ValueEntry). x) c.unknown.result
    (ap (λ ps. found_at values ps (seen c.args.g.now read c.args.scope.now)) (sym c.as_slice.ensures)
    ∙ sym (c.in_ok-found.ensures read) ∙ ap (option_map (entry_of read)) c.in-None.is)
    (refused {R = ValueEntry} c.args.g.now sc 30 (long_at c.args.long.now)
    (join_with_byte 46 c.args.long.now.parts ∷ []) (λ x. x) c.unknown.result refl c.unknown.ensures)

pub returns-in-Some-Own : goal.returns-in-Some-Own
returns-in-Some-Own g c = λ t read a.
    copied_other c.args.g.now (scope_in c.args.g.now t read c.args.scope.now) c.args.long.now
    (read c.in-Some-Own.field-0-0) c.refusal.result (long_at c.args.long.now) c.new.result refl
    (ap (λ ps. found_at values ps (seen c.args.g.now read c.args.scope.now)) (sym c.as_slice.ensures)
    ∙ sym (c.in_ok-found.ensures read)
    ∙ ap (option_map (entry_of read)) (c.in-Some-Own.is ∙ ap Some c.in-Some-Own.field-0-is))
    (a c.in-Some-Own.field-0-0) refl c.new.ensures c.refusal.ensures

pub returns-then-is_exception : goal.returns-then-is_exception
returns-then-is_exception g c = λ t read a.
    copied_known (scope_in c.args.g.now t read c.args.scope.now) c.args.long.now c.in-Some-Entry.entry
    (ap (λ ps. found_at values ps (seen c.args.g.now read c.args.scope.now)) (sym c.as_slice.ensures)
    ∙ sym (c.in_ok-found.ensures read)
    ∙ ap (option_map (entry_of read)) (c.in-Some-Entry.is ∙ ap Some c.in-Some-Entry.field-0-is))
    (sym c.is_exception.ensures ∙ c.if-is_exception.true)

pub returns-else-is_exception : goal.returns-else-is_exception
returns-else-is_exception g c = λ t read a.
    copied_other c.args.g.now (scope_in c.args.g.now t read c.args.scope.now) c.args.long.now
    c.in-Some-Entry.entry c.refusal-else-is_exception.result (long_at c.args.long.now) c.new-else-is_exception.result refl
    (ap (λ ps. found_at values ps (seen c.args.g.now read c.args.scope.now)) (sym c.as_slice.ensures)
    ∙ sym (c.in_ok-found.ensures read)
    ∙ ap (option_map (entry_of read)) (c.in-Some-Entry.is ∙ ap Some c.in-Some-Entry.field-0-is))
    (sym c.is_exception.ensures ∙ c.if-is_exception.false) refl c.new-else-is_exception.ensures
    c.refusal-else-is_exception.ensures
