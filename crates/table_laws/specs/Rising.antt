-- Environments, signatures, functors and tops whose tables all rise, so that each name stands once in each.
-- The Definition of Standard ML (Revised), section 4.2: environments are finite maps.
use Rattle.std.specs.Prelude.{List, map}
use Rattle.semantic_objects.specs.declared.entry.ConEntry.{ConEntry}
use Rattle.semantic_objects.specs.declared.entry.TypeStr.{TypeStr}
use Rattle.semantic_objects.specs.Tables.{Table, IsTable}
use Rattle.semantic_objects.specs.Trees.{TypeScheme}
use Rattle.semantic_objects.specs.Environments.{Env, Structures, Signature, Functor, Top, table_of}
use Rattle.static_semantics.specs.Holding.{AllRows}

-- a table that rises, whose entries are of a kind
abbrev pub TableWith : {A : Type 0} → (A → Type 0) → Table A → Type 0
TableWith R table = IsTable table × AllRows R table

-- constructors as a table
abbrev pub con_table : List ConEntry → Table TypeScheme
con_table cons = map (λ (con : ConEntry). (con.name, con.scheme)) cons

abbrev pub RisingType : TypeStr → Type 0
RisingType str = IsTable (con_table str.cons)

-- an environment, its structures included
abbrev mutual
  pub RisingEnv : Env → Type 0
  RisingEnv (Env.MakeEnv ss ts vs) =
      IsTable (table_of ss) × RisingStructures ss × TableWith RisingType ts × IsTable vs

  pub RisingStructures : Structures → Type 0
  RisingStructures Structures.Nil = Unit {0}
  RisingStructures (Structures.Cons name env rest) = RisingEnv env × RisingStructures rest

abbrev pub RisingSignature : Signature → Type 0
RisingSignature sig = RisingEnv sig.env

abbrev pub RisingFunctor : Functor → Type 0
RisingFunctor fun = RisingEnv fun.param × RisingEnv fun.result

pub record RisingTop (top : Top) : Type 0 where
  pub env : RisingEnv top.env
  pub signatures : TableWith RisingSignature top.signatures
  pub functors : TableWith RisingFunctor top.functors
  pub funsigs : TableWith RisingFunctor top.funsigs
