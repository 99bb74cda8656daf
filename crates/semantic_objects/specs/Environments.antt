-- Environments, signatures, functors and what stands at the top of a program, as trees.
-- The Definition of Standard ML (Revised), sections 4.2, 4.3 and 5.1.
use Rattle.std.specs.Prelude.{ℕ, List, [], ◌∷◌}
use Rattle.semantic_objects.specs.declared.name.TyName.{TyName}
use Rattle.semantic_objects.specs.declared.entry.TypeStr.{TypeStr}
use Rattle.semantic_objects.specs.declared.entry.ValueEntry.{ValueEntry}
use Rattle.semantic_objects.specs.Tables.{Table, with_entry, with_all}

-- an environment has structures, type structures and values, each a table by name. The structures stand as parts of the
-- tree; `structures_of` makes them of a table
mutual
  pub data Env : Type 0 where
    MakeEnv : Structures → Table TypeStr → Table ValueEntry → Env

  pub data Structures : Type 0 where
    Nil : Structures
    Cons : List ℕ → Env → Structures → Structures

-- the table of structures
abbrev pub table_of : Structures → Table Env
table_of Structures.Nil = []
table_of (Structures.Cons name env rest) = (name, env) ∷ table_of rest

-- structures as the parts of an environment
abbrev pub structures_of : Table Env → Structures
structures_of [] = Structures.Nil
structures_of (row ∷ rows) = Structures.Cons row.0 row.1 (structures_of rows)

abbrev pub structures : Env → Table Env
structures (Env.MakeEnv ss ts vs) = table_of ss

abbrev pub types : Env → Table TypeStr
types (Env.MakeEnv ss ts vs) = ts

abbrev pub values : Env → Table ValueEntry
values (Env.MakeEnv ss ts vs) = vs

-- the environment of three tables
abbrev pub env_of : Table Env → Table TypeStr → Table ValueEntry → Env
env_of ss ts vs = Env.MakeEnv (structures_of ss) ts vs

abbrev pub empty_env : Env
empty_env = Env.MakeEnv Structures.Nil [] []

abbrev pub with_structure : List ℕ → Env → Env → Env
with_structure name x env = env_of (with_entry name x (structures env)) (types env) (values env)

abbrev pub with_type : List ℕ → TypeStr → Env → Env
with_type name x env = env_of (structures env) (with_entry name x (types env)) (values env)

abbrev pub with_value : List ℕ → ValueEntry → Env → Env
with_value name x env = env_of (structures env) (types env) (with_entry name x (values env))

-- an environment modified by another one: the other's entries count
abbrev pub modified_by : Env → Env → Env
modified_by env by = env_of
    (with_all (structures by) (structures env))
    (with_all (types by) (types env))
    (with_all (values by) (values env))

-- an environment with the type names that it binds
pub record Signature : Type 0 where
  pub bound : List TyName
  pub env : Env

-- a parameter with the type names that it binds, and a result with further ones
pub record Functor : Type 0 where
  pub bound : List TyName
  pub param : Env
  pub further : List TyName
  pub result : Env

-- what stands at the top: an environment, and tables of signatures, functors and signatures of functors
pub record Top : Type 0 where
  pub env : Env
  pub signatures : Table Signature
  pub functors : Table Functor
  pub funsigs : Table Functor

abbrev pub empty_top : Top
empty_top = record { env = empty_env; signatures = []; functors = []; funsigs = [] }
