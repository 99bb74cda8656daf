use Rattle.std.proofs.Common.{◌++◌, refl, ap, ◌∙◌}
use Rattle.name_trails.specs.Trails.{Rows}
use Rattle.core_scopes.specs.declared.value.BoundValue.{BoundValue}
use Rattle.core_scopes.specs.declared.made.MadeBound.{MadeBound}
use Rattle.core_scopes.specs.Listed.{scope_rows}
use Rattle.core_scopes.proofs.Scoping.{bare_bound}
use Rattle.core_scopes.proofs.scope.Scope.bind_made.Goals as goal

pub returns-clause-ok : goal.returns-clause-ok
returns-clause-ok g c graph there =
    let more : MadeBound g.row.V.Denot =
    record { structures = c.args.made.structures; types = c.args.made.types; values = c.in_ok-values.values } in
    bare_bound c.args.self.now c.bind_entered.new.self c.args.made more refl refl c.in_ok-values.ensures graph
    (c.in_ok-bind_entered.ensures.ok graph there)

pub returns-clause-bare : goal.returns-clause-bare
returns-clause-bare g c = (
  scope_rows c.args.made.values,
  c.in_ok-bind_entered.ensures.bound
      ∙ ap (λ (z : Rows (BoundValue g.row.V.Denot)). c.args.self.now.values ++ z) c.in_ok-values.ensures,
)
