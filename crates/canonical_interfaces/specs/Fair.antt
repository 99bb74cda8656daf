-- Which tops have a canonical form that can be written: what is asked of a top before its names and variables are
-- numbered. No number of a name of the unit, of a bound name or of a variable of a scheme is asked for, and no
-- agreement of such names on arity and equality, since the form gives each of them a number of its own.
use Rattle.std.specs.Prelude.{◌≡◌, ℕ, ◌+◌, ◌<◌, ◌≤◌, ◌^◌, List, [], length, map, filter, All, Bool, true, not, ◌&&◌}
use Rattle.semantic_objects.specs.declared.name.TyName.{TyName}
use Rattle.semantic_objects.specs.declared.symbol.Symbol.{Symbol}
use Rattle.semantic_objects.specs.declared.symbol.Symbol.TheVariants as symbol
use Rattle.semantic_objects.specs.declared.entry.ConEntry.{ConEntry}
use Rattle.semantic_objects.specs.declared.entry.TypeFn.{TypeFn}
use Rattle.semantic_objects.specs.declared.entry.TypeStr.{TypeStr}
use Rattle.semantic_objects.specs.declared.entry.ValueEntry.{ValueEntry}
use Rattle.semantic_objects.specs.Symbols.{part_count}
use Rattle.semantic_objects.specs.Tables.{Table, names_of}
use Rattle.semantic_objects.specs.Trees.{Tree, Trees, TypeScheme}
use Rattle.semantic_objects.specs.Environments.{Env, Structures, Signature, Functor, Top, table_of, types, values}
use Rattle.unification.specs.Closing.{bound_in}
use Rattle.realisation.specs.Names.{names_in_env, names_in_functor, names_in_top, is_listed}
use Rattle.realisation.specs.Canonical.{met, is_own, is_bound_name, is_of_param, is_further, canonical}
use Rattle.interface_format.specs.Rules.{IsNumber, AreNames, HasText, count_trees, Agree, HasTables, HasNames}
use Rattle.interface_format.specs.Interfaces.{interface_bytes, IsInterface}

-- ---- type names

-- a name that is neither the unit's own nor bound
abbrev pub is_other : List ℕ → TyName → Bool
is_other home name = not (is_own home name) && not (is_bound_name name)

-- its owner and its arity can be written, and its number, where it keeps that
pub record IsFairName (home : List ℕ) (name : TyName) : Type 0 where
  pub owner : HasText name.owner
  pub arity : IsNumber name.arity
  pub number : is_other home name ≡ true → IsNumber name.number

-- ---- types

abbrev pub HasLabels : Symbol → Type 0
HasLabels symbol.Arrow = Unit {0}
HasLabels (symbol.Record labels) = AreNames labels
HasLabels (symbol.Name name) = Unit {0}

-- a symbol over so many parts, whichever name it is
pub record IsShapedOver (c : Symbol) (count : ℕ) : Type 0 where
  pub labels : HasLabels c
  pub parts : count ≡ part_count c

-- a type whose indexes are below the count of its binder, whichever names stand in it
abbrev mutual
  pub HasShape : ℕ → Tree → Type 0
  HasShape count (Tree.Bound i) = i < count
  HasShape count (Tree.Free n) = ⊥
  HasShape count (Tree.Made c ts) = IsShapedOver c (count_trees ts) × HaveShapes count ts

  pub HaveShapes : ℕ → Trees → Type 0
  HaveShapes count Trees.Nil = Unit {0}
  HaveShapes count (Trees.Cons t ts) = HasShape count t × HaveShapes count ts

-- ---- entries

pub record IsFairFunction (function : TypeFn) : Type 0 where
  pub arity : IsNumber function.arity
  pub body : HasShape function.arity function.body

-- the variables that occur are among the marks, and can be counted
pub record IsFairScheme (σ : TypeScheme) : Type 0 where
  pub body : HasShape (length σ.marks) σ.body
  pub count : IsNumber (length (bound_in σ.body []))

pub record IsFairType (str : TypeStr) : Type 0 where
  pub function : IsFairFunction str.function
  pub names : AreNames (map (λ (con : ConEntry). con.name) str.cons)
  pub cons : All (λ (con : ConEntry). IsFairScheme con.scheme) str.cons

abbrev pub IsFairTypeRow : List ℕ × TypeStr → Type 0
IsFairTypeRow row = IsFairType row.1

abbrev pub IsFairValueRow : List ℕ × ValueEntry → Type 0
IsFairValueRow row = IsFairScheme row.1.scheme

-- ---- environments

pub record AreFairTables (ss : Structures) (ts : Table TypeStr) (vs : Table ValueEntry) : Type 0 where
  pub structure_names : AreNames (names_of (table_of ss))
  pub type_names : AreNames (names_of ts)
  pub value_names : AreNames (names_of vs)
  pub types : All IsFairTypeRow ts
  pub values : All IsFairValueRow vs

abbrev mutual
  pub IsFairEnv : Env → Type 0
  IsFairEnv (Env.MakeEnv ss ts vs) = AreFairTables ss ts vs × AreFairEnvs ss

  pub AreFairEnvs : Structures → Type 0
  AreFairEnvs Structures.Nil = Unit {0}
  AreFairEnvs (Structures.Cons name env rest) = IsFairEnv env × AreFairEnvs rest

-- ---- signatures and functors

-- the bound names that occur can be counted
pub record IsFairSignature (sig : Signature) : Type 0 where
  pub env : IsFairEnv sig.env
  pub counted : IsNumber (length (met is_bound_name (names_in_env sig.env)))

-- the functor binds the bound names of its parameter, and those of them that stand in its result stand in its
-- parameter. All bound names can be counted together
pub record IsFairFunctor (fun : Functor) : Type 0 where
  pub param : IsFairEnv fun.param
  pub result : IsFairEnv fun.result
  pub binds : (name : TyName) → is_listed name (names_in_env fun.param) ≡ true → is_bound_name name ≡ true
      → is_listed name fun.bound ≡ true
  pub first : (name : TyName) → is_listed name (names_in_env fun.result) ≡ true → is_of_param fun name ≡ true
      → is_listed name (names_in_env fun.param) ≡ true
  pub counted : IsNumber (length (met (is_of_param fun) (names_in_functor fun))
      + length (met (is_further fun) (names_in_functor fun)))

abbrev pub IsFairSignatureRow : List ℕ × Signature → Type 0
IsFairSignatureRow row = IsFairSignature row.1

abbrev pub IsFairFunctorRow : List ℕ × Functor → Type 0
IsFairFunctorRow row = IsFairFunctor row.1

-- ---- tops

-- a top whose environment has structures alone, in which no bound name stands, and whose own names can be counted. All
-- occurrences of another name agree on arity and equality
pub record IsFairTop (home : List ℕ) (top : Top) : Type 0 where
  pub env : IsFairEnv top.env
  pub no_types : types top.env ≡ []
  pub no_values : values top.env ≡ []
  pub signature_names : AreNames (names_of top.signatures)
  pub functor_names : AreNames (names_of top.functors)
  pub funsig_names : AreNames (names_of top.funsigs)
  pub signatures : All IsFairSignatureRow top.signatures
  pub functors : All IsFairFunctorRow top.functors
  pub funsigs : All IsFairFunctorRow top.funsigs
  pub names : (name : TyName) → is_listed name (names_in_top top) ≡ true → IsFairName home name
  pub agree : Agree (filter (is_other home) (names_in_top top))
  pub inside : filter is_bound_name (names_in_env top.env) ≡ []
  pub own_counted : IsNumber (length (met (is_own home) (names_in_top top)))

-- the canonical form of a fair top meets the rules of interfaces, and its spelling is one, where it isn't longer than
-- any that is written
pub record FairTopsAreWritten : Type 0 where
  pub tables : (home : List ℕ) (top : Top) → IsFairTop home top → HasTables (canonical home top)
  pub names : (home : List ℕ) (top : Top) → IsFairTop home top → HasNames home (canonical home top)
  pub written : (home : List ℕ) (top : Top) → IsFairTop home top
      → length (interface_bytes home (canonical home top)) ≤ 2 ^ 32
      → IsInterface home (interface_bytes home (canonical home top)) (canonical home top)
