-- Environments in whose types no other variables of a table stand than the first ones.
-- The Definition of Standard ML (Revised), section 4.2: free type variables, tyvars.
use Rattle.std.specs.Prelude.{◌≡◌, ℕ, ◌<◌, true}
use Rattle.semantic_objects.specs.declared.entry.TypeFn.{TypeFn}
use Rattle.semantic_objects.specs.Trees.{Tree, TypeScheme, frees, IsScheme}
use Rattle.semantic_objects.specs.Environments.{Env}
use Rattle.type_nodes.specs.Tables.{Table, state}
use Rattle.static_semantics.specs.Holding.{EnvHas}

-- every variable of a table that stands in a type is one of the first so many
abbrev pub FreesBelow : ℕ → Tree → Type 0
FreesBelow n tree = (v : ℕ) → frees v tree ≡ true → v < n

-- .. in a scheme, whose own variables are those that it has marks for
pub record SchemeBelow (n : ℕ) (σ : TypeScheme) : Type 0 where
  pub closed : IsScheme σ
  pub below : FreesBelow n σ.body

-- .. in a type function
abbrev pub FunctionBelow : ℕ → TypeFn → Type 0
FunctionBelow n function = FreesBelow n function.body

-- .. in every scheme and every type function of an environment, its structures included
abbrev pub StandsBelow : ℕ → Env → Type 0
StandsBelow n env = EnvHas (SchemeBelow n) (FunctionBelow n) env

-- .. one of those of a table
abbrev pub IsOfTable : Table → Env → Type 0
IsOfTable t env = StandsBelow (state t).next env
