-- What the calls of rules leave of a graph, and the results of functors.
use Rattle.std.specs.Prelude.{◌≡◌, List, ◌++◌}
use Rattle.semantic_objects.specs.declared.name.TyName.{TyName}
use Rattle.semantic_objects.specs.Environments.{Env}
use Rattle.realisation.specs.Realised.{of_rows, realised}
use Rattle.sml_modules.specs.declared.id.EnvId.{EnvId}
use Rattle.sml_modules.specs.Graphs.{Graph, env_at, HasEnv, Keeps}
use Rattle.module_semantics.specs.SignatureNames.{rows_between}
use Rattle.module_semantics.specs.Matching.{Rows}
use Rattle.signature_sealing.specs.Sealing.{new_names_of}

-- all ids keep what they stand for, and the unit stays; names may be made
pub record Grows (old new : Graph) : Type 0 where
  pub keeps : Keeps old new
  pub home : new.home ≡ old.home

-- an environment by rows, with new names for further ones
pub record IsRenewed (old new : Graph) (further : List TyName) (rows : Rows) (body : Env) (id : EnvId) : Type 0 where
  pub there : HasEnv new id
  pub stands : env_at new id
      ≡ realised (of_rows (rows ++ rows_between further (new_names_of old further))) body
  pub keeps : Keeps old new
  pub home : new.home ≡ old.home
  pub made : new.made ≡ old.made ++ new_names_of old further
