-- All that an interface says by a number in four bytes is below 2^32: how long tables and lists are, how many labels,
-- variables and names there are, and arities. A unit whose source has fewer bytes than that has no more of them.
use Rattle.std.specs.Prelude.{◌≡◌, ℕ, ◌+◌, List, [], length, map, true}
use Rattle.semantic_objects.specs.declared.name.TyName.{TyName}
use Rattle.semantic_objects.specs.declared.symbol.Symbol.{Symbol}
use Rattle.semantic_objects.specs.declared.symbol.Symbol.TheVariants as symbol
use Rattle.semantic_objects.specs.declared.entry.ConEntry.{ConEntry}
use Rattle.semantic_objects.specs.declared.entry.TypeFn.{TypeFn}
use Rattle.semantic_objects.specs.declared.entry.TypeStr.{TypeStr}
use Rattle.semantic_objects.specs.declared.entry.ValueEntry.{ValueEntry}
use Rattle.semantic_objects.specs.Tables.{Table, names_of}
use Rattle.semantic_objects.specs.Trees.{Tree, Trees, TypeScheme}
use Rattle.semantic_objects.specs.Environments.{Env, Structures, Signature, Functor, Top, table_of}
use Rattle.unification.specs.Closing.{bound_in}
use Rattle.realisation.specs.Names.{names_in_env, names_in_functor, names_in_top, is_listed}
use Rattle.realisation.specs.Canonical.{met, is_own, is_bound_name, is_of_param, is_further}
use Rattle.static_semantics.specs.Holding.{AllItems, AllRows}
use Rattle.interface_format.specs.Rules.{IsNumber}

-- ---- types and entries

abbrev pub HasCountedLabels : Symbol → Type 0
HasCountedLabels symbol.Arrow = Unit {0}
HasCountedLabels (symbol.Record labels) = IsNumber (length labels)
HasCountedLabels (symbol.Name name) = Unit {0}

abbrev mutual
  pub CountedTree : Tree → Type 0
  CountedTree (Tree.Bound i) = Unit {0}
  CountedTree (Tree.Free n) = Unit {0}
  CountedTree (Tree.Made c ts) = HasCountedLabels c × CountedTrees ts

  pub CountedTrees : Trees → Type 0
  CountedTrees Trees.Nil = Unit {0}
  CountedTrees (Trees.Cons t ts) = CountedTree t × CountedTrees ts

pub record CountedFunction (function : TypeFn) : Type 0 where
  pub arity : IsNumber function.arity
  pub body : CountedTree function.body

pub record CountedScheme (σ : TypeScheme) : Type 0 where
  pub body : CountedTree σ.body
  pub count : IsNumber (length (bound_in σ.body []))

abbrev pub CountedCon : ConEntry → Type 0
CountedCon con = CountedScheme con.scheme

pub record CountedType (str : TypeStr) : Type 0 where
  pub function : CountedFunction str.function
  pub names : IsNumber (length (map (λ (con : ConEntry). con.name) str.cons))
  pub cons : AllItems CountedCon str.cons

abbrev pub CountedValue : ValueEntry → Type 0
CountedValue value = CountedScheme value.scheme

-- ---- environments, signatures, functors

pub record CountedTables (ss : Structures) (ts : Table TypeStr) (vs : Table ValueEntry) : Type 0 where
  pub structure_names : IsNumber (length (names_of (table_of ss)))
  pub type_names : IsNumber (length (names_of ts))
  pub value_names : IsNumber (length (names_of vs))
  pub types : AllRows CountedType ts
  pub values : AllRows CountedValue vs

abbrev mutual
  pub CountedEnv : Env → Type 0
  CountedEnv (Env.MakeEnv ss ts vs) = CountedTables ss ts vs × CountedEnvs ss

  pub CountedEnvs : Structures → Type 0
  CountedEnvs Structures.Nil = Unit {0}
  CountedEnvs (Structures.Cons name env rest) = CountedEnv env × CountedEnvs rest

pub record CountedSignature (sig : Signature) : Type 0 where
  pub env : CountedEnv sig.env
  pub bound : IsNumber (length (met is_bound_name (names_in_env sig.env)))

pub record CountedFunctor (fun : Functor) : Type 0 where
  pub param : CountedEnv fun.param
  pub result : CountedEnv fun.result
  pub bound : IsNumber (length (met (is_of_param fun) (names_in_functor fun))
      + length (met (is_further fun) (names_in_functor fun)))

-- ---- what stands at the top of the unit `home`

pub record CountedTop (home : List ℕ) (top : Top) : Type 0 where
  pub env : CountedEnv top.env
  pub signature_names : IsNumber (length (names_of top.signatures))
  pub functor_names : IsNumber (length (names_of top.functors))
  pub funsig_names : IsNumber (length (names_of top.funsigs))
  pub signatures : AllRows CountedSignature top.signatures
  pub functors : AllRows CountedFunctor top.functors
  pub funsigs : AllRows CountedFunctor top.funsigs
  pub arities : (name : TyName) → is_listed name (names_in_top top) ≡ true → IsNumber name.arity
  pub own : IsNumber (length (met (is_own home) (names_in_top top)))
