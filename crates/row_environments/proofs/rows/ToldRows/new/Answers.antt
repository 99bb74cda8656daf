use Rattle.sml_modules.specs.Items.{as_type, as_env, IsType, IsEnv}
use Rattle.row_entries.specs.Told.{IsStructureOf}
use Rattle.row_environments.specs.Placed.{IsEnvOf}
use Rattle.row_environments.proofs.Placing.{none_placed}
use Rattle.row_environments.proofs.rows.ToldRows.new.Goals as goal

pub returns : goal.returns
returns c = λ home items. record {
  entries = c.new.ensures home;
  types = none_placed IsType as_type (IsStructureOf home) items c.new-2.result c.new-2.ensures;
  envs = none_placed IsEnv as_env (IsEnvOf home) items c.new-3.result c.new-3.ensures;
}
