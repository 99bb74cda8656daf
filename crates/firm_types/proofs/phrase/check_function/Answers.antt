use Rattle.std.proofs.Common.{◌∙◌, sym, ap}
use Rattle.std.specs.Option.{option_map}
use Rattle.env_parts.specs.Types.{holds_free}
use Rattle.semantic_objects.specs.Environments.{types}
use Rattle.sml_modules.specs.Items.{function_of}
use Rattle.static_semantics.specs.Inferring.{found_at}
use Rattle.core_scopes.specs.Scopes.{seen}
use Rattle.firm_types.proofs.Firm.{none_found, function_closed, not_true}
use Rattle.firm_types.proofs.phrase.check_function.Goals as goal

pub returns-in-None : goal.returns-in-None
returns-in-None g c = λ read str e.
    let env = seen c.args.g.now read c.args.scope.now in
    absurd (none_found (found_at types c.args.long.now.parts env) str
    (sym c.in-None.is ∙ c.in_ok-found.ensures read
    ∙ ap (λ ps. option_map function_of (found_at types ps env)) c.as_slice.ensures) e)

pub returns-then-closed : goal.returns-then-closed
returns-then-closed g c = λ read str e.
    let env = seen c.args.g.now read c.args.scope.now in
    function_closed c.in-Some.function (found_at types c.args.long.now.parts env) str
    (sym c.in-Some.is ∙ c.in_ok-found.ensures read
    ∙ ap (λ ps. option_map function_of (found_at types ps env)) c.as_slice.ensures) e
    (not_true (holds_free c.in-Some.function.body) c.in_ok-closed-in-Some.closed c.in_ok-closed-in-Some.ensures c.if-closed.true)
