use Rattle.std.proofs.Common.{◌∙◌, sym, refl}
use Rattle.semantic_objects.specs.declared.entry.TypeFn.{TypeFn}
use Rattle.core_scopes.specs.Scopes.{seen}
use Rattle.where_types.proofs.Wheres.{function_found, function_missing}
use Rattle.where_types.proofs.whole.function_seen.Goals as goal

pub returns-in-Some : goal.returns-in-Some
returns-in-Some c = λ inner read home.
    function_found inner c.args.long.now (seen c.args.g.now read c.args.inside.now)
    (seen c.args.g.now read c.args.inside.now) c.as_slice.result.now c.in-Some.function
    (sym c.in-Some.is ∙ c.in_ok-function.ensures read) c.as_slice.ensures refl

pub returns-in-None : goal.returns-in-None
returns-in-None c = λ inner read home.
    function_missing c.args.g.now inner c.args.long.now (seen c.args.g.now read c.args.inside.now)
    (seen c.args.g.now read c.args.inside.now) c.as_slice.result.now (λ (function : TypeFn). function)
    c.unknown.result (sym c.in-None.is ∙ c.in_ok-function.ensures read) c.as_slice.ensures refl home c.unknown.ensures
