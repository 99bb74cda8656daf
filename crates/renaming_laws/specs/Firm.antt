-- Environments without variables of the table, and what is given in such ones whatever the table holds.
use Rattle.std.specs.Prelude.{◌≡◌, ℕ, false}
use Rattle.semantic_objects.specs.declared.entry.TypeFn.{TypeFn}
use Rattle.semantic_objects.specs.Trees.{Tree, TypeScheme, frees}
use Rattle.semantic_objects.specs.Environments.{Env}
use Rattle.static_semantics.specs.Inferring.{Progress}
use Rattle.static_semantics.specs.EnvironmentsPut.{put_env}
use Rattle.static_semantics.specs.Holding.{EnvHas}

-- no variable of the table stands in a tree
abbrev pub IsFirm : Tree → Type 0
IsFirm x = (n : ℕ) → frees n x ≡ false

abbrev pub FirmScheme : TypeScheme → Type 0
FirmScheme σ = IsFirm σ.body

abbrev pub FirmFunction : TypeFn → Type 0
FirmFunction function = IsFirm function.body

-- .. in the schemes and type functions of an environment
abbrev pub FirmEnv : Env → Type 0
FirmEnv env = EnvHas FirmScheme FirmFunction env

-- what a declaration makes in two runs has the same next type name, and is the same environment as it is known, where
-- no variable is left in it
pub record GivesSame (r v : Env × Progress) : Type 0 where
  pub names : v.1.names ≡ r.1.names
  pub known : FirmEnv (put_env r.1.types.stands r.0)
      → put_env v.1.types.stands v.0 ≡ put_env r.1.types.stands r.0
