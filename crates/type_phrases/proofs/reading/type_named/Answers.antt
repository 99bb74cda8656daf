use Rattle.std.proofs.Common.{sym, ap, ◌∙◌, subst, Some, None, ◌∷◌, []}
use Rattle.std.specs.Prelude.{Err}
use Rattle.std.specs.List.{join_with_byte}
use Rattle.semantic_objects.specs.declared.entry.TypeStr.{TypeStr}
use Rattle.semantic_objects.specs.Environments.{types}
use Rattle.static_semantics.specs.Inferring.{Answer, known, found_at, long_at}
use Rattle.core_scopes.specs.Scopes.{seen}
use Rattle.type_phrases.specs.Inferred.{Answers}
use Rattle.type_phrases.proofs.Steps.{type_is, refused}
use Rattle.type_phrases.proofs.reading.type_named.Goals as goal

pub returns-in-Some : goal.returns-in-Some
returns-in-Some g c = λ t inner r.
    ap (known inner c.args.long.now)
    (type_is c.args.g.now t c.args.scope.now inner c.args.long.now.parts (Some c.in-Some.found) r
    (λ read. sym c.in-Some.is ∙ c.in_ok-found.ensures read
    ∙ ap (λ parts. found_at types parts (seen c.args.g.now read c.args.scope.now)) c.as_slice.ensures))

pub returns-in-None : goal.returns-in-None
returns-in-None g c = λ t inner r.
    subst (λ (w : Answer TypeStr). Answers w (λ found. found) (Err c.unknown.result))
    (sym (ap (known inner c.args.long.now)
    (type_is c.args.g.now t c.args.scope.now inner c.args.long.now.parts None r
    (λ read. sym c.in-None.is ∙ c.in_ok-found.ensures read
    ∙ ap (λ parts. found_at types parts (seen c.args.g.now read c.args.scope.now)) c.as_slice.ensures))))
    (refused c.args.g.now inner 30 (long_at c.args.long.now) (join_with_byte 46 c.args.long.now.parts ∷ [])
    (λ found. found) c.unknown.result r.home c.unknown.ensures)
