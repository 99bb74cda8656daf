use Rattle.std.proofs.Common.{◌≡◌, drop}
use Rattle.sml_modules.specs.Graphs.{env_at, HasEnv}
use Rattle.core_scopes.specs.Paths.{led_on}
use Rattle.core_scopes.proofs.path.lead_on.Given as goal

-- the names that are left lead from here to where all lead
abbrev pub invariant-loop-name : goal.invariant-loop-name
invariant-loop-name l = record {
  there : HasEnv l.fn.g l.at;
  leads : led_on (drop l.name-index l.fn.names) (env_at l.fn.g l.at) ≡ led_on l.fn.names (env_at l.fn.g l.fn.env);
}
