use Rattle.std.proofs.Common.{◌∙◌, sym, ap, Some}
use Rattle.semantic_objects.specs.Tables.{entry}
use Rattle.semantic_objects.specs.Environments.{values}
use Rattle.sml_modules.specs.Graphs.{env_at}
use Rattle.name_trails.specs.Trails.{last_entry}
use Rattle.core_scopes.specs.declared.value.ValueInScope.{ValueInScope}
use Rattle.core_scopes.specs.Scopes.{Bindings, entry_of}
use Rattle.core_scopes.proofs.Scoping.{value_found, value_below}
use Rattle.core_scopes.proofs.Pathing.{if_ok}
use Rattle.core_scopes.proofs.scope.Scope.find_value.Goals as goal

pub returns-in_ok-copy-in-Some : goal.returns-in_ok-copy-in-Some
returns-in_ok-copy-in-Some g c = λ read.
    ap (λ (x : ValueInScope g.row.V.Denot). Some (entry_of read x)) c.in_ok-copy-in-Some.ensures
    ∙ value_found c.args.g.now c.args.self.now c.args.name.now read c.in-Some.bound.now
    (sym (c.in-Some.ensures
    ∙ ap (λ (sc : Bindings g.row.V.Denot). last_entry sc.values c.args.name.now) c.self.view_is))

pub returns-in-None : goal.returns-in-None
returns-in-None g c =
    if_ok c.value_of_env.result _ _
    (λ found h read. h read
    ∙ ap (λ (sc : Bindings g.row.V.Denot). entry c.args.name.now (values (env_at c.args.g.now sc.below))) c.self.view_is
    ∙ value_below c.args.g.now c.args.self.now c.args.name.now read
    (sym (c.in-None.ensures
    ∙ ap (λ (sc : Bindings g.row.V.Denot). last_entry sc.values c.args.name.now) c.self.view_is)))
    c.value_of_env.ensures
