-- What is asked of a moment before a phrase is elaborated: everything in scope is of what the table knows, so that closing
-- by the age of variables is what inference gives.
use Rattle.type_nodes.specs.Keeping.{IsKept}
use Rattle.name_trails.specs.Trails.{Rows}
use Rattle.semantic_objects.specs.Environments.{Env}
use Rattle.static_semantics.specs.Inferring.{under, under_bound}
use Rattle.core_scopes.specs.declared.made.Made.{Made}
use Rattle.core_scopes.specs.Marks.{env_of_made}
use Rattle.pattern_elab.specs.declared.own.OwnVariable.{OwnVariable}
use Rattle.pattern_elab.specs.Scopes.{own_entry, bound_of}
use Rattle.closing_laws.specs.Promises.{IsOfState}
use Rattle.sml_modules.specs.Graphs.{HasEnvs}
use Rattle.core_rules.specs.Moments.{Moment, IsCoreAt, scope_at, progress_at}

pub record IsReadyAt (m : Moment) : Type 0 where
  pub core : IsCoreAt m
  pub kept : IsKept m.table
  pub state : IsOfState (scope_at m) (progress_at m)

-- .. and that under the variables of patterns
pub record IsReadyUnder (m : Moment) (bound : Rows OwnVariable) : Type 0 where
  pub core : IsCoreAt m
  pub kept : IsKept m.table
  pub state : IsOfState (under_bound (bound_of bound) (scope_at m)) (progress_at m)

-- .. under what a declaration made
abbrev pub made_at : Moment → Made OwnVariable → Env
made_at m made = env_of_made m.graph own_entry made

pub record IsReadyBehind (m : Moment) (made : Made OwnVariable) : Type 0 where
  pub core : IsCoreAt m
  pub kept : IsKept m.table
  pub state : IsOfState (under (made_at m made) (scope_at m)) (progress_at m)
  pub envs : HasEnvs m.graph made.structures
