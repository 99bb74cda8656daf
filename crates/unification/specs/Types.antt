-- Types over variables, what stands for variables, and which types admit equality.
-- The Definition of Standard ML (Revised), sections 4.1, 4.2 and 4.4.
use Rattle.std.specs.Prelude.{ℕ, ◌+◌, Option, Some, None, Bool, true, false, ◌||◌, ◌&&◌, cond, eqb}
use Rattle.semantic_objects.specs.declared.name.Owner.{Owner}
use Rattle.semantic_objects.specs.declared.name.Owner.TheVariants as owner
use Rattle.semantic_objects.specs.declared.name.TyName.{TyName}
use Rattle.semantic_objects.specs.declared.symbol.Symbol.{Symbol}
use Rattle.semantic_objects.specs.declared.symbol.Symbol.TheVariants as symbol
use Rattle.unification.specs.declared.equality.Equality.{Equality}
use Rattle.unification.specs.declared.equality.Equality.TheVariants as equality

-- a type is a variable, by its number, or a symbol over any number of types
mutual
  pub data Ty : Type 0 where
    Var : ℕ → Ty
    Made : Symbol → Types → Ty

  pub data Types : Type 0 where
    Nil : Types
    Cons : Ty → Types → Types

-- a type for each variable; one for which nothing stands stands for itself
abbrev pub Substitution : Type 0
Substitution = ℕ → Ty

-- which variables are equality variables
abbrev pub Marks : Type 0
Marks = ℕ → Bool

-- how many variables there are, what stands for each of them, which of them are equality variables, and which are
-- rigid: they stand for themselves alone, as a written type variable does
pub record State : Type 0 where
  pub next : ℕ
  pub stands : Substitution
  pub marks : Marks
  pub rigid : Marks

-- a type with everything put in that stands for its variables
abbrev mutual
  pub put : Substitution → Ty → Ty
  put s (Ty.Var n) = s n
  put s (Ty.Made c ts) = Ty.Made c (put_all s ts)

  pub put_all : Substitution → Types → Types
  put_all s Types.Nil = Types.Nil
  put_all s (Types.Cons t ts) = Types.Cons (put s t) (put_all s ts)

-- whether a variable stands in a type
abbrev mutual
  pub occurs : ℕ → Ty → Bool
  occurs v (Ty.Var n) = eqb v n
  occurs v (Ty.Made c ts) = occurs_any v ts

  pub occurs_any : ℕ → Types → Bool
  occurs_any v Types.Nil = false
  occurs_any v (Types.Cons t ts) = occurs v t || occurs_any v ts

-- how many nodes a type has as a tree: variables and symbols count one each
abbrev mutual
  pub size : Ty → ℕ
  size (Ty.Var n) = 1
  size (Ty.Made c ts) = size_all ts + 1

  pub size_all : Types → ℕ
  size_all Types.Nil = 0
  size_all (Types.Cons t ts) = size t + size_all ts

abbrev pub is_basis : Owner → Bool
is_basis owner.Basis = true
is_basis (owner.«Unit» u) = false
is_basis owner.Bound = false

-- `ref` is the type name 6 of the initial basis
abbrev pub is_ref : TyName → Bool
is_ref n = is_basis n.owner && eqb n.number 6

-- an arrow never admits equality, `ref` always does, whatever its argument; a record does where its parts do, and any
-- other type name where it admits equality itself and its arguments do
abbrev pub equality_of : Symbol → Equality
equality_of symbol.Arrow = equality.Never
equality_of (symbol.Record ls) = equality.ByParts
equality_of (symbol.Name n) = cond (is_ref n) equality.Always (cond n.eq equality.ByParts equality.Never)

abbrev pub where_parts : Equality → Bool → Bool
where_parts equality.Never parts = false
where_parts equality.Always parts = true
where_parts equality.ByParts parts = parts

-- whether a type admits equality, where marked variables do
abbrev mutual
  pub admits : Marks → Ty → Bool
  admits q (Ty.Var n) = q n
  admits q (Ty.Made c ts) = where_parts (equality_of c) (admits_all q ts)

  pub admits_all : Marks → Types → Bool
  admits_all q Types.Nil = true
  admits_all q (Types.Cons t ts) = admits q t && admits_all q ts

-- the marks with one variable more
abbrev pub marked : ℕ → Marks → Marks
marked n q m = eqb n m || q m

abbrev pub and_then : Option Marks → (Marks → Option Marks) → Option Marks
and_then None f = None
and_then (Some q) f = f q

abbrev pub required_by : Equality → Marks → Option Marks → Option Marks
required_by equality.Never q parts = None
required_by equality.Always q parts = Some q
required_by equality.ByParts q parts = parts

-- a variable that is rigid or not, and marked or not: one that isn't rigid is marked, a rigid one has its mark or fails
abbrev pub require_variable : Bool → Bool → ℕ → Marks → Option Marks
require_variable false has n q = Some (marked n q)
require_variable true true n q = Some q
require_variable true false n q = None

-- the marks with which a type is an equality type, if there are any: what is needed is added, from left to right
abbrev mutual
  pub require : Marks → Ty → Marks → Option Marks
  require rigid (Ty.Var n) q = require_variable (rigid n) (q n) n q
  require rigid (Ty.Made c ts) q = required_by (equality_of c) q (require_all rigid ts q)

  pub require_all : Marks → Types → Marks → Option Marks
  require_all rigid Types.Nil q = Some q
  require_all rigid (Types.Cons t ts) q = and_then (require rigid t q) (require_all rigid ts)
