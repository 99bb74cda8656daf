-- Structures to which names lead. Only private functions cite this file.
use Rattle.std.specs.Prelude.{ℕ, List, [], ◌∷◌, Option, Some}
use Rattle.semantic_objects.specs.Tables.{entry}
use Rattle.semantic_objects.specs.Environments.{Env, structures}
use Rattle.static_semantics.specs.Inferring.{found_in_structure}

-- the structure to which names lead from an environment on
abbrev pub led_on : List (List ℕ) → Env → Option Env
led_on [] env = Some env
led_on (name ∷ names) env = found_in_structure (entry name (structures env)) (led_on names)
