use Rattle.std.proofs.Common.{sym, ap, ◌∙◌, subst, [], ◌∷◌}
use Rattle.std.specs.Prelude.{Err}
use Rattle.std.specs.Option.{option_map}
use Rattle.std.specs.List.{join_with_byte}
use Rattle.semantic_objects.specs.Environments.{values}
use Rattle.static_semantics.specs.Inferring.{known, found_at, long_at}
use Rattle.core_scopes.specs.Scopes.{entry_of}
use Rattle.type_phrases.specs.Inferred.{Answers}
use Rattle.pattern_elab.specs.Scopes.{own_entry, scope_of}
use Rattle.pattern_elab.proofs.Stepping.{refused}
use Rattle.pattern_elab.proofs.value.known_value.Goals as goal

pub returns-in-Some-clause-answer : goal.returns-in-Some-clause-answer
returns-in-Some-clause-answer c =
    let sc = scope_of c.args.g.now c.args.scope.now in
    ap (λ ps. known sc c.args.long.now (found_at values ps sc.env)) (sym c.as_slice.ensures)
    ∙ ap (known sc c.args.long.now) (sym (c.in_ok-value.ensures own_entry))
    ∙ ap (λ o. known sc c.args.long.now (option_map (entry_of own_entry) o)) c.in-Some.is

pub returns-in-None-clause-answer : goal.returns-in-None-clause-answer
returns-in-None-clause-answer c =
    let sc = scope_of c.args.g.now c.args.scope.now in
    subst (λ o. Answers (known sc c.args.long.now o) (entry_of own_entry) (Err c.unknown.result))
    (ap (option_map (entry_of own_entry)) (sym c.in-None.is) ∙ c.in_ok-value.ensures own_entry
    ∙ ap (λ ps. found_at values ps sc.env) c.as_slice.ensures)
    (refused c.args.g.now 30 (long_at c.args.long.now) (join_with_byte 46 c.args.long.now.parts ∷ [])
    (entry_of own_entry) c.unknown.result c.unknown.ensures)

pub returns-in-Some-clause-named : goal.returns-in-Some-clause-named
returns-in-Some-clause-named c =
    let env = (scope_of c.args.g.now c.args.scope.now).env in (
      c.args.g.now,
      ap (λ ps. found_at values ps env) (sym c.as_slice.ensures) ∙ sym (c.in_ok-value.ensures own_entry)
          ∙ ap (option_map (entry_of own_entry)) c.in-Some.is,
    )
