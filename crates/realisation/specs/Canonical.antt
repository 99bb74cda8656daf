-- The canonical form of what a unit defines. Its own type names are numbered from 0 by their first occurrence in the
-- walk of all that it defines, and the bound names of each signature and functor by their first occurrence in it, a
-- functor's further ones after those of its parameter; names that don't occur are gone. So are the variables of schemes
-- that don't occur, and the others are numbered by first occurrence. Arities, equality, the order of arguments of type
-- functions, and all other names stay.
use Rattle.std.specs.Prelude.{ℕ, ◌+◌, List, filter, length, map, Bool, ◌&&◌, not, cond}
use Rattle.semantic_objects.specs.declared.name.Owner.TheVariants as owner
use Rattle.semantic_objects.specs.declared.name.TyName.{TyName}
use Rattle.semantic_objects.specs.declared.symbol.Symbol.{Symbol}
use Rattle.semantic_objects.specs.declared.symbol.Symbol.TheVariants as symbol
use Rattle.semantic_objects.specs.Symbols.{same_owner}
use Rattle.semantic_objects.specs.Trees.{Tree, Trees}
use Rattle.semantic_objects.specs.Environments.{Env, Signature, Functor, Top}
use Rattle.unification.specs.Closing.{canonical_scheme}
use Rattle.env_parts.specs.Types.{is_bound}
use Rattle.realisation.specs.Names.{names_in_env, names_in_functor, names_in_top, is_listed, once, place_in}
use Rattle.realisation.specs.Environments.{Change, by_types, changed, each_row}

-- ---- other names

abbrev pub renamed_symbol : (TyName → TyName) → Symbol → Symbol
renamed_symbol h symbol.Arrow = symbol.Arrow
renamed_symbol h (symbol.Record labels) = symbol.Record labels
renamed_symbol h (symbol.Name name) = symbol.Name (h name)

abbrev mutual
  pub renamed : (TyName → TyName) → Tree → Tree
  renamed h (Tree.Bound i) = Tree.Bound i
  renamed h (Tree.Free n) = Tree.Free n
  renamed h (Tree.Made c ts) = Tree.Made (renamed_symbol h c) (renamed_all h ts)

  pub renamed_all : (TyName → TyName) → Trees → Trees
  renamed_all h Trees.Nil = Trees.Nil
  renamed_all h (Trees.Cons t ts) = Trees.Cons (renamed h t) (renamed_all h ts)

-- with other names, and each scheme in its one form
abbrev pub to_canonical : (TyName → TyName) → Change
to_canonical h = record {
  function = (by_types (renamed h)).function;
  scheme = λ σ. canonical_scheme ((by_types (renamed h)).scheme σ);
}

abbrev pub canonical_env : (TyName → TyName) → Env → Env
canonical_env h env = changed (to_canonical h) env

-- ---- numbers

-- those of the names that are asked for, each once, by first occurrence
abbrev pub met : (TyName → Bool) → List TyName → List TyName
met asked names = once (filter asked names)

abbrev pub with_number : ℕ → TyName → TyName
with_number number name = record { owner = name.owner; number = number; arity = name.arity; eq = name.eq }

-- a name with its place among these for its number, counted from a first one on
abbrev pub numbered_in : List TyName → ℕ → TyName → TyName
numbered_in order first name = with_number (first + place_in name order) name

-- names that are asked for with their numbers, and others as another function has them
abbrev pub numbered : (TyName → Bool) → List TyName → ℕ → (TyName → TyName) → TyName → TyName
numbered asked names first others name =
    cond (asked name) (numbered_in (met asked names) first name) (others name)

-- ---- own and bound names

abbrev pub is_own : List ℕ → TyName → Bool
is_own home name = same_owner (owner.«Unit» home) name.owner

abbrev pub is_bound_name : TyName → Bool
is_bound_name name = is_bound name.owner

-- of the names that a functor binds: those of its parameter, and the further ones
abbrev pub is_of_param : Functor → TyName → Bool
is_of_param fun name = is_bound_name name && is_listed name fun.bound

abbrev pub is_further : Functor → TyName → Bool
is_further fun name = is_bound_name name && not (is_listed name fun.bound)

-- ---- the form

-- the unit's own names are `own`'s matter
abbrev pub signature_name : (TyName → TyName) → Signature → TyName → TyName
signature_name own sig = numbered is_bound_name (names_in_env sig.env) 0 own

abbrev pub canonical_signature : (TyName → TyName) → Signature → Signature
canonical_signature own sig = record {
  bound = map (signature_name own sig) (met is_bound_name (names_in_env sig.env));
  env = canonical_env (signature_name own sig) sig.env;
}

abbrev pub functor_name : (TyName → TyName) → Functor → TyName → TyName
functor_name own fun = numbered (is_of_param fun) (names_in_functor fun) 0
    (numbered (is_further fun) (names_in_functor fun) (length (met (is_of_param fun) (names_in_functor fun))) own)

abbrev pub canonical_functor : (TyName → TyName) → Functor → Functor
canonical_functor own fun = record {
  bound = map (functor_name own fun) (met (is_of_param fun) (names_in_functor fun));
  param = canonical_env (functor_name own fun) fun.param;
  further = map (functor_name own fun) (met (is_further fun) (names_in_functor fun));
  result = canonical_env (functor_name own fun) fun.result;
}

-- the unit's own names in all that it defines
abbrev pub own_name : List ℕ → Top → TyName → TyName
own_name home top = numbered (is_own home) (names_in_top top) 0 (λ name. name)

abbrev pub canonical : List ℕ → Top → Top
canonical home top = record {
  env = canonical_env (own_name home top) top.env;
  signatures = each_row (canonical_signature (own_name home top)) top.signatures;
  functors = each_row (canonical_functor (own_name home top)) top.functors;
  funsigs = each_row (canonical_functor (own_name home top)) top.funsigs;
}
