-- Realisation: type functions in place of type names. The Definition of Standard ML (Revised), section 5.2.
--
-- A bound name, of the owner `Bound`, stands only inside the environment of a signature or of a functor, and these hold
-- no signatures, so binders never stand in each other and no name is captured. In a signature that is inferred the bound
-- names are 0, 1, .. in the order in which its specifications made them, and in its canonical form by first occurrence;
-- in a functor those of the parameter come first and the further ones after. While a signature expression is open, and
-- in the body of a functor, what will be bound is a name of the unit, with a number from the next one on, as each new
-- name is; a signature or a functor that is finished closes over these. Whoever uses a named signature, or a functor's
-- parameter, puts new names for its bound ones first.
use Rattle.std.specs.Prelude.{◌≡◌, ℕ, zero, suc, List, [], ◌∷◌, Option, Some, None, Bool, true, cond}
use Rattle.semantic_objects.specs.declared.name.TyName.{TyName}
use Rattle.semantic_objects.specs.declared.entry.TypeFn.{TypeFn}
use Rattle.semantic_objects.specs.declared.symbol.Symbol.{Symbol}
use Rattle.semantic_objects.specs.declared.symbol.Symbol.TheVariants as symbol
use Rattle.semantic_objects.specs.Symbols.{same_name}
use Rattle.semantic_objects.specs.Trees.{Tree, Trees, TypeScheme}
use Rattle.semantic_objects.specs.Environments.{Env}
use Rattle.unification.specs.Types.{Ty, Types, Marks, is_ref}
use Rattle.unification.specs.Instances.{fill}
use Rattle.unification.specs.Closing.{plug}
use Rattle.unification.specs.Generality.{tree_admits}
use Rattle.realisation.specs.Environments.{by_types, changed}

-- the type function that is put for a name, if one is
abbrev pub Realisation : Type 0
Realisation = TyName → Option TypeFn

-- the realisation of rows: the first row of a name counts
abbrev pub of_rows : List (TyName × TypeFn) → Realisation
of_rows [] name = None
of_rows (row ∷ rows) name = cond (same_name row.0 name) (Some row.1) (of_rows rows name)

-- ---- types

-- the argument at a place, the empty record where there is none
abbrev pub argument : ℕ → Trees → Tree
argument i Trees.Nil = Tree.Made (symbol.Record []) Trees.Nil
argument zero (Trees.Cons t ts) = t
argument (suc i) (Trees.Cons t ts) = argument i ts

-- a type name over arguments, with what is put for it
abbrev pub put_function : TyName → Trees → Option TypeFn → Tree
put_function name args None = Tree.Made (symbol.Name name) args
put_function name args (Some function) = plug (λ i. argument i args) function.body

abbrev pub over_realised : Realisation → Symbol → Trees → Tree
over_realised φ symbol.Arrow ts = Tree.Made symbol.Arrow ts
over_realised φ (symbol.Record labels) ts = Tree.Made (symbol.Record labels) ts
over_realised φ (symbol.Name name) ts = put_function name ts (φ name)

abbrev mutual
  pub realised_tree : Realisation → Tree → Tree
  realised_tree φ (Tree.Bound i) = Tree.Bound i
  realised_tree φ (Tree.Free n) = Tree.Free n
  realised_tree φ (Tree.Made c ts) = over_realised φ c (realised_trees φ ts)

  pub realised_trees : Realisation → Trees → Trees
  realised_trees φ Trees.Nil = Trees.Nil
  realised_trees φ (Trees.Cons t ts) = Trees.Cons (realised_tree φ t) (realised_trees φ ts)

-- a type function, a scheme, an environment: constructors stay, with their types realised
abbrev pub realised_function : Realisation → TypeFn → TypeFn
realised_function φ function = (by_types (realised_tree φ)).function function

abbrev pub realised_scheme : Realisation → TypeScheme → TypeScheme
realised_scheme φ σ = (by_types (realised_tree φ)).scheme σ

abbrev pub realised : Realisation → Env → Env
realised φ env = changed (by_types (realised_tree φ)) env

-- one realisation and then another
abbrev pub function_then : Option TypeFn → Realisation → TyName → Option TypeFn
function_then None ψ name = ψ name
function_then (Some function) ψ name = Some (realised_function ψ function)

abbrev pub both : Realisation → Realisation → Realisation
both φ ψ name = function_then (φ name) ψ name

-- ---- the same over types with variables of a table

abbrev pub type_argument : ℕ → Types → Ty
type_argument i Types.Nil = Ty.Made (symbol.Record []) Types.Nil
type_argument zero (Types.Cons t ts) = t
type_argument (suc i) (Types.Cons t ts) = type_argument i ts

abbrev pub fill_function : TyName → Types → Option TypeFn → Ty
fill_function name args None = Ty.Made (symbol.Name name) args
fill_function name args (Some function) = fill (λ i. type_argument i args) Ty.Var function.body

abbrev pub over_filled : Realisation → Symbol → Types → Ty
over_filled φ symbol.Arrow ts = Ty.Made symbol.Arrow ts
over_filled φ (symbol.Record labels) ts = Ty.Made (symbol.Record labels) ts
over_filled φ (symbol.Name name) ts = fill_function name ts (φ name)

abbrev mutual
  pub realised_ty : Realisation → Ty → Ty
  realised_ty φ (Ty.Var n) = Ty.Var n
  realised_ty φ (Ty.Made c ts) = over_filled φ c (realised_types φ ts)

  pub realised_types : Realisation → Types → Types
  realised_types φ Types.Nil = Types.Nil
  realised_types φ (Types.Cons t ts) = Types.Cons (realised_ty φ t) (realised_types φ ts)

-- a type function admits equality: its type does where all its variables do, and those variables of the table that have
-- a mark. The Definition, section 4.4
abbrev pub function_admits : Marks → TypeFn → Bool
function_admits q function = tree_admits (λ i. true) q function.body

-- `ref` stays, and what is put for a name that admits equality admits it too
pub record KeepsEquality (q : Marks) (φ : Realisation) : Type 0 where
  pub ref : (name : TyName) → is_ref name ≡ true → φ name ≡ None
  pub admits : (name : TyName) (by : TypeFn) → φ name ≡ Some by → name.eq ≡ true → function_admits q by ≡ true
