-- What is asked of a moment before a phrase of modules is elaborated.
use Rattle.sml_modules.specs.Graphs.{Graph}
use Rattle.type_nodes.specs.Keeping.{IsKept}
use Rattle.core_scopes.specs.declared.made.Made.{Made}
use Rattle.core_scopes.specs.Scopes.{AreBare}
use Rattle.pattern_elab.specs.declared.own.OwnVariable.{OwnVariable}
use Rattle.unit_semantics.specs.StructureInference.{top_under}
use Rattle.module_growth.specs.Grown.{IsInside}
use Rattle.unit_derivations.specs.Promises.{every}
use Rattle.module_scopes.specs.Tops.{IsTopScope}
use Rattle.structure_elab.specs.Moments.{Moment, seen_at, progress_at, made_at, HasMade}

-- all in scope is of the graph, and of what the table knows; the unit's type names that are there have numbers below the
-- next one, tables rise, and no variable of the table stands in signatures, functors and types; the table has nothing of
-- what is bound
pub record IsReadyAt (m : Moment) : Type 0 where
  pub there : IsTopScope m.graph m.top
  pub kept : IsKept m.table
  pub inside : IsInside every m.graph.home (seen_at m) (progress_at m)
  pub bare : AreBare m.top.core

-- .. and that under what a declaration made
pub record IsReadyBehind (m : Moment) (made : Made OwnVariable) : Type 0 where
  pub there : IsTopScope m.graph m.top
  pub kept : IsKept m.table
  pub inside : IsInside every m.graph.home (top_under (made_at m made) (seen_at m)) (progress_at m)
  pub envs : HasMade m.graph made
  pub bare : AreBare m.top.core
