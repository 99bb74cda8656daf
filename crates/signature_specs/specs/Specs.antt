-- Signatures while they are made. The Definition of Standard ML (Revised), rules 62 and 76 to 84.
use Rattle.std.specs.Prelude.{◌≡◌, [], length, take}
use Rattle.semantic_objects.specs.Tables.{with_all}
use Rattle.semantic_objects.specs.Environments.{Env, Signature, env_of}
use Rattle.sml_modules.specs.Items.{map_rows}
use Rattle.sml_modules.specs.Graphs.{Graph, env_at}
use Rattle.signature_specs.specs.declared.specified.Specified.{Specified}

-- what is specified so far, as an environment, and as a signature that is open
abbrev pub env_so_far : Graph → Specified → Env
env_so_far g made = env_of
    (with_all (map_rows (env_at g) made.structures) [])
    (with_all made.types [])
    (with_all made.values [])

abbrev pub signature_so_far : Graph → Specified → Signature
signature_so_far g made = record { bound = made.bound; env = env_so_far g made }

-- nothing of what was specified was taken back
pub record IsFrontOf (past now : Specified) : Type 0 where
  pub structures : take (length past.structures) now.structures ≡ past.structures
  pub types : take (length past.types) now.types ≡ past.types
  pub values : take (length past.values) now.values ≡ past.values
