-- Environments in whose types the unit's type names have numbers below a number.
use Rattle.std.specs.Prelude.{ℕ, List}
use Rattle.semantic_objects.specs.declared.entry.TypeFn.{TypeFn}
use Rattle.semantic_objects.specs.Trees.{TypeScheme}
use Rattle.semantic_objects.specs.Environments.{Env}
use Rattle.static_semantics.specs.Holding.{EnvHas}
use Rattle.inference_laws.specs.Nodes.{TreeOf, below_number}

-- nothing is asked of schemes
abbrev pub AnyScheme : TypeScheme → Type 0
AnyScheme σ = Unit {0}

abbrev pub FunctionBelow : List ℕ → ℕ → TypeFn → Type 0
FunctionBelow home n function = TreeOf (below_number home n) function.body

-- all type functions, those of structures included
abbrev pub TypesBelow : List ℕ → ℕ → Env → Type 0
TypesBelow home n env = EnvHas AnyScheme (FunctionBelow home n) env
