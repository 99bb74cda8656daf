use Rattle.std.proofs.Common.{◌≡◌, map, take}
use Rattle.sml_modules.specs.declared.id.EnvId.{EnvId}
use Rattle.name_walks.proofs.names.places_of.Given as goal

abbrev pub invariant-loop-env : goal.invariant-loop-env
invariant-loop-env l = l.places ≡ map (λ (id : EnvId). id.place) (take l.env-index l.fn.envs)
