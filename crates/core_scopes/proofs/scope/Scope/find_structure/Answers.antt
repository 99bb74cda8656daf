use Rattle.std.proofs.Common.{◌∙◌, sym, subst}
use Rattle.semantic_objects.specs.Tables.{entry}
use Rattle.semantic_objects.specs.Environments.{structures}
use Rattle.sml_modules.specs.Graphs.{env_at, FindsEnv}
use Rattle.core_scopes.specs.Scopes.{Bindings}
use Rattle.core_scopes.proofs.Scoping.{structure_found, structure_below}
use Rattle.core_scopes.proofs.Pathing.{if_ok}
use Rattle.core_scopes.proofs.scope.Scope.find_structure.Goals as goal

pub returns-in-Some : goal.returns-in-Some
returns-in-Some g c = λ read. structure_found c.args.g.now c.args.self.now c.args.name.now read c.in-Some.env c.requires
    (sym c.bound_structure.ensures ∙ c.in-Some.is)

pub returns-in-None : goal.returns-in-None
returns-in-None g c =
    if_ok c.find_structure.result _ _
    (λ found h read. structure_below c.args.g.now c.args.self.now c.args.name.now read found
    (sym c.bound_structure.ensures ∙ c.in-None.is)
    (subst (λ (sc : Bindings g.row.V.Denot).
    FindsEnv c.args.g.now (entry c.args.name.now (structures (env_at c.args.g.now sc.below))) found)
    c.self.view_is h))
    c.find_structure.ensures
