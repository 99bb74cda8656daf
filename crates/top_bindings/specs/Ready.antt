-- What is asked of a moment before a declaration of the top level is elaborated.
use Rattle.semantic_objects.specs.Environments.{Env}
use Rattle.type_nodes.specs.Keeping.{IsKept}
use Rattle.sml_trees.specs.declared.name.Name.{Name}
use Rattle.core_scopes.specs.Scopes.{AreBare}
use Rattle.unit_semantics.specs.UnitInference.{top_with_param}
use Rattle.module_growth.specs.Grown.{IsInside}
use Rattle.unit_derivations.specs.Derived.{IsAtTop}
use Rattle.unit_derivations.specs.Promises.{every}
use Rattle.module_scopes.specs.Tops.{IsTopScope}
use Rattle.structure_elab.specs.Moments.{Moment, seen_at, progress_at}

-- all in scope is of the graph; the unit's type names that are there have numbers below the next one, tables rise, and no
-- variable of the table stands in anything; the table has nothing of what is bound
pub record IsReadyTop (m : Moment) : Type 0 where
  pub there : IsTopScope m.graph m.top
  pub kept : IsKept m.table
  pub at : IsAtTop every m.graph.home (seen_at m) (progress_at m)
  pub bare : AreBare m.top.core

-- what is in scope is ready for the body of a functor with a parameter
pub record IsReadyWith (m : Moment) (param : Name) (env : Env) : Type 0 where
  pub there : IsTopScope m.graph m.top
  pub kept : IsKept m.table
  pub inside : IsInside every m.graph.home (top_with_param param env (seen_at m)) (progress_at m)
  pub bare : AreBare m.top.core
