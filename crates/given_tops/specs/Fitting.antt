-- What may be given, part by part: its nodes may stand, no type variable of a table stands in it, and its tables rise.
-- Only private functions cite this file.
use Rattle.std.specs.Prelude.{ℕ, length}
use Rattle.semantic_objects.specs.declared.entry.TypeFn.{TypeFn}
use Rattle.semantic_objects.specs.declared.entry.TypeStr.{TypeStr}
use Rattle.semantic_objects.specs.Trees.{TypeScheme}
use Rattle.semantic_objects.specs.Environments.{Env, Signature, Functor, Top}
use Rattle.static_semantics.specs.Holding.{TypeHas, EnvHas}
use Rattle.inference_laws.specs.Nodes.{Nodes, SchemeOf, FunctionOf}
use Rattle.unit_semantics.specs.Promises.{IsClosedScheme, IsClosedFunction}
use Rattle.unit_laws.specs.Parts.{AreBoundFrom}
use Rattle.table_laws.specs.Rising.{RisingType, RisingEnv, TableWith}

pub record SchemeFits (q : Nodes) (σ : TypeScheme) : Type 0 where
  pub of : SchemeOf q σ
  pub closed : IsClosedScheme σ

pub record FunctionFits (q : Nodes) (function : TypeFn) : Type 0 where
  pub of : FunctionOf q function
  pub closed : IsClosedFunction function

pub record TypeFits (q : Nodes) (str : TypeStr) : Type 0 where
  pub has : TypeHas (SchemeFits q) (FunctionFits q) str
  pub rises : RisingType str

pub record EnvFits (q : Nodes) (env : Env) : Type 0 where
  pub has : EnvHas (SchemeFits q) (FunctionFits q) env
  pub rises : RisingEnv env

-- the names that it binds stand in it as any others that may
pub record SignatureFits (q : Nodes) (sig : Signature) : Type 0 where
  pub bound : AreBoundFrom 0 sig.bound
  pub env : EnvFits q sig.env

pub record FunctorFits (q : Nodes) (fun : Functor) : Type 0 where
  pub bound : AreBoundFrom 0 fun.bound
  pub further : AreBoundFrom (length fun.bound) fun.further
  pub param : EnvFits q fun.param
  pub result : EnvFits q fun.result

pub record TopFits (q : Nodes) (top : Top) : Type 0 where
  pub env : EnvFits q top.env
  pub signatures : TableWith (SignatureFits q) top.signatures
  pub functors : TableWith (FunctorFits q) top.functors
  pub funsigs : TableWith (FunctorFits q) top.funsigs
