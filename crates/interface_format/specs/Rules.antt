-- Which tops an interface can be written of: what is asked of names and labels, numbers, indexes, arities, schemes, and
-- of the type names that stand in them.
use Rattle.std.specs.Prelude.{◌≡◌, ℕ, suc, ◌<◌, ◌≤◌, ◌^◌, List, [], length, map, filter, All, Bool, true, not, ◌&&◌}
use Rattle.std.specs.List.{range_with_len}
use Rattle.semantic_objects.specs.declared.name.Owner.{Owner}
use Rattle.semantic_objects.specs.declared.name.Owner.TheVariants as owner
use Rattle.semantic_objects.specs.declared.name.TyName.{TyName}
use Rattle.semantic_objects.specs.declared.symbol.Symbol.{Symbol}
use Rattle.semantic_objects.specs.declared.symbol.Symbol.TheVariants as symbol
use Rattle.semantic_objects.specs.declared.entry.ConEntry.{ConEntry}
use Rattle.semantic_objects.specs.declared.entry.TypeFn.{TypeFn}
use Rattle.semantic_objects.specs.declared.entry.TypeStr.{TypeStr}
use Rattle.semantic_objects.specs.declared.entry.ValueEntry.{ValueEntry}
use Rattle.semantic_objects.specs.Symbols.{part_count, AreRising}
use Rattle.semantic_objects.specs.Tables.{Table, names_of}
use Rattle.semantic_objects.specs.Trees.{Tree, Trees, TypeScheme}
use Rattle.semantic_objects.specs.Environments.{Env, Structures, Signature, Functor, Top, table_of, types, values}
use Rattle.unification.specs.Closing.{bound_in}
use Rattle.realisation.specs.Names.{names_in_env, names_in_functor, names_in_top, is_listed}
use Rattle.realisation.specs.Canonical.{met, is_own, is_bound_name}

-- ---- numbers, names and labels

-- a number, the length of a text and the count of a list are written in four bytes
pub record IsNumber (n : ℕ) : Type 0 where
  pub below : n < 2 ^ 32

-- a name or a label has 1 to 255 bytes from 33 to 126
pub record IsName (name : List ℕ) : Type 0 where
  pub some : 1 ≤ length name
  pub short : length name ≤ 255
  pub from : All (λ b. 33 ≤ b) name
  pub to : All (λ b. b ≤ 126) name

-- the names or labels of a list: they stand in strictly rising byte order
pub record AreNames (names : List (List ℕ)) : Type 0 where
  pub each : All IsName names
  pub rising : AreRising names
  pub counted : IsNumber (length names)

-- ---- types

-- the name of a unit may be any text
abbrev pub HasText : Owner → Type 0
HasText owner.Basis = Unit {0}
HasText (owner.«Unit» u) = IsNumber (length u)
HasText owner.Bound = Unit {0}

pub record IsTypeName (name : TyName) : Type 0 where
  pub owner : HasText name.owner
  pub number : IsNumber name.number
  pub arity : IsNumber name.arity

abbrev pub IsSymbol : Symbol → Type 0
IsSymbol symbol.Arrow = Unit {0}
IsSymbol (symbol.Record labels) = AreNames labels
IsSymbol (symbol.Name name) = IsTypeName name

abbrev pub count_trees : Trees → ℕ
count_trees Trees.Nil = 0
count_trees (Trees.Cons t ts) = suc (count_trees ts)

-- a symbol over so many parts: two below an arrow, one for each label, and as many arguments as the arity
pub record IsOver (c : Symbol) (count : ℕ) : Type 0 where
  pub symbol : IsSymbol c
  pub parts : count ≡ part_count c

-- a type whose indexes are below the count of its binder; no variable of a table stands in it
abbrev mutual
  pub IsType : ℕ → Tree → Type 0
  IsType count (Tree.Bound i) = i < count
  IsType count (Tree.Free n) = ⊥
  IsType count (Tree.Made c ts) = IsOver c (count_trees ts) × AreTypes count ts

  pub AreTypes : ℕ → Trees → Type 0
  AreTypes count Trees.Nil = Unit {0}
  AreTypes count (Trees.Cons t ts) = IsType count t × AreTypes count ts

-- ---- entries

pub record IsFunction (function : TypeFn) : Type 0 where
  pub arity : IsNumber function.arity
  pub body : IsType function.arity function.body

-- the variables of a scheme are numbered by first occurrence, and all of them occur
pub record IsClosed (σ : TypeScheme) : Type 0 where
  pub count : IsNumber (length σ.marks)
  pub body : IsType (length σ.marks) σ.body
  pub ordered : bound_in σ.body [] ≡ range_with_len 0 (length σ.marks)

pub record IsTypeStructure (str : TypeStr) : Type 0 where
  pub function : IsFunction str.function
  pub names : AreNames (map (λ (con : ConEntry). con.name) str.cons)
  pub cons : All (λ (con : ConEntry). IsClosed con.scheme) str.cons

abbrev pub IsTypeRow : List ℕ × TypeStr → Type 0
IsTypeRow row = IsTypeStructure row.1

abbrev pub IsValueRow : List ℕ × ValueEntry → Type 0
IsValueRow row = IsClosed row.1.scheme

-- ---- environments

pub record AreTables (ss : Structures) (ts : Table TypeStr) (vs : Table ValueEntry) : Type 0 where
  pub structure_names : AreNames (names_of (table_of ss))
  pub type_names : AreNames (names_of ts)
  pub value_names : AreNames (names_of vs)
  pub types : All IsTypeRow ts
  pub values : All IsValueRow vs

abbrev mutual
  pub IsEnv : Env → Type 0
  IsEnv (Env.MakeEnv ss ts vs) = AreTables ss ts vs × AreEnvs ss

  pub AreEnvs : Structures → Type 0
  AreEnvs Structures.Nil = Unit {0}
  AreEnvs (Structures.Cons name env rest) = IsEnv env × AreEnvs rest

-- ---- type names

-- names with the numbers from a first one on, in their order
abbrev pub AreNumbered : ℕ → List TyName → Type 0
AreNumbered first names = map (λ (name : TyName). name.number) names ≡ range_with_len first (length names)

-- all occurrences of one name agree on arity and equality
pub record Agree (names : List TyName) : Type 0 where
  pub agree : (m n : TyName) → is_listed m names ≡ true → is_listed n names ≡ true → m.owner ≡ n.owner
      → m.number ≡ n.number → m ≡ n

abbrev pub is_not_bound : TyName → Bool
is_not_bound name = not (is_bound_name name)

-- bound names that aren't among these
abbrev pub is_beyond : List TyName → TyName → Bool
is_beyond bound name = is_bound_name name && not (is_listed name bound)

-- a signature binds the bound names that occur in it, numbered by first occurrence
pub record IsSignature (sig : Signature) : Type 0 where
  pub env : IsEnv sig.env
  pub bound : sig.bound ≡ met is_bound_name (names_in_env sig.env)
  pub numbered : AreNumbered 0 sig.bound
  pub agree : Agree (filter is_bound_name (names_in_env sig.env))
  pub counted : IsNumber (length sig.bound)

-- a functor binds those that occur in its parameter, and further those that occur in its result alone. The further ones
-- come after the first ones
pub record IsFunctor (fun : Functor) : Type 0 where
  pub param : IsEnv fun.param
  pub result : IsEnv fun.result
  pub bound : fun.bound ≡ met is_bound_name (names_in_env fun.param)
  pub further : fun.further ≡ met (is_beyond fun.bound) (names_in_env fun.result)
  pub bound_numbered : AreNumbered 0 fun.bound
  pub further_numbered : AreNumbered (length fun.bound) fun.further
  pub agree : Agree (filter is_bound_name (names_in_functor fun))
  pub bound_counted : IsNumber (length fun.bound)
  pub further_counted : IsNumber (length fun.further)

abbrev pub IsSignatureRow : List ℕ × Signature → Type 0
IsSignatureRow row = IsSignature row.1

abbrev pub IsFunctorRow : List ℕ × Functor → Type 0
IsFunctorRow row = IsFunctor row.1

-- ---- tops

-- what is asked of each table of a top. Its environment has structures alone
pub record HasTables (top : Top) : Type 0 where
  pub env : IsEnv top.env
  pub no_types : types top.env ≡ []
  pub no_values : values top.env ≡ []
  pub signature_names : AreNames (names_of top.signatures)
  pub functor_names : AreNames (names_of top.functors)
  pub funsig_names : AreNames (names_of top.funsigs)
  pub signatures : All IsSignatureRow top.signatures
  pub functors : All IsFunctorRow top.functors
  pub funsigs : All IsFunctorRow top.funsigs

-- the names of the unit `home` are numbered by first occurrence, all names agree on arity and equality, and no bound
-- name stands outside a signature and a functor
pub record HasNames (home : List ℕ) (top : Top) : Type 0 where
  pub own : AreNumbered 0 (met (is_own home) (names_in_top top))
  pub agree : Agree (filter is_not_bound (names_in_top top))
  pub inside : filter is_bound_name (names_in_env top.env) ≡ []
