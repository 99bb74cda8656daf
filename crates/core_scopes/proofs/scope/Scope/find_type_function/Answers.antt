use Rattle.std.proofs.Common.{◌∙◌, sym, ap, Some}
use Rattle.std.specs.Option.{option_map}
use Rattle.semantic_objects.specs.Tables.{entry}
use Rattle.semantic_objects.specs.Environments.{types}
use Rattle.sml_modules.specs.Items.{function_of}
use Rattle.sml_modules.specs.Graphs.{env_at}
use Rattle.name_trails.specs.Trails.{last_entry}
use Rattle.core_scopes.specs.Scopes.{Bindings}
use Rattle.core_scopes.proofs.Scoping.{type_found, type_below}
use Rattle.core_scopes.proofs.Pathing.{if_ok}
use Rattle.core_scopes.proofs.scope.Scope.find_type_function.Goals as goal

pub returns-in_ok-copy_function-in-Some : goal.returns-in_ok-copy_function-in-Some
returns-in_ok-copy_function-in-Some g c = λ read.
    ap Some c.in_ok-copy_function-in-Some.ensures
    ∙ ap (option_map function_of) (type_found c.args.g.now c.args.self.now c.args.name.now read c.in-Some.entry.now
    (sym (c.in-Some.ensures ∙ ap (λ (sc : Bindings g.row.V.Denot). last_entry sc.types c.args.name.now) c.self.view_is)))

pub returns-in-None : goal.returns-in-None
returns-in-None g c =
    if_ok c.find_type_function.result _ _
    (λ found h read. h
    ∙ ap (λ (sc : Bindings g.row.V.Denot).
    option_map function_of (entry c.args.name.now (types (env_at c.args.g.now sc.below)))) c.self.view_is
    ∙ ap (option_map function_of) (type_below c.args.g.now c.args.self.now c.args.name.now read
    (sym (c.in-None.ensures
    ∙ ap (λ (sc : Bindings g.row.V.Denot). last_entry sc.types c.args.name.now) c.self.view_is))))
    c.find_type_function.ensures
