-- The type names that stand in types, in the order of the walk: a name before its arguments, parts from left to right.
-- In an environment it goes through the structures with all that is inside them, then the types, then the values, each
-- table by byte order; in a type structure through its function, then its constructors; in a functor through its
-- parameter, then its result; at the top through the environment, then signatures, functors and funsigs.
use Rattle.std.specs.Prelude.{ℕ, zero, suc, List, [], ◌∷◌, ◌++◌, filter, Bool, false, ◌||◌, not, cond}
use Rattle.semantic_objects.specs.declared.name.TyName.{TyName}
use Rattle.semantic_objects.specs.declared.symbol.Symbol.{Symbol}
use Rattle.semantic_objects.specs.declared.symbol.Symbol.TheVariants as symbol
use Rattle.semantic_objects.specs.Symbols.{same_name}
use Rattle.semantic_objects.specs.Tables.{Table}
use Rattle.semantic_objects.specs.Trees.{Tree, Trees}
use Rattle.semantic_objects.specs.Environments.{Env, Signature, Functor, Top}
use Rattle.env_parts.specs.Types.{types_in}

abbrev pub names_of_symbol : Symbol → List TyName
names_of_symbol symbol.Arrow = []
names_of_symbol (symbol.Record labels) = []
names_of_symbol (symbol.Name name) = name ∷ []

-- each occurrence counts
abbrev mutual
  pub names_in : Tree → List TyName
  names_in (Tree.Bound i) = []
  names_in (Tree.Free n) = []
  names_in (Tree.Made c ts) = names_of_symbol c ++ names_in_all ts

  pub names_in_all : Trees → List TyName
  names_in_all Trees.Nil = []
  names_in_all (Trees.Cons t ts) = names_in t ++ names_in_all ts

abbrev pub names_in_list : List Tree → List TyName
names_in_list [] = []
names_in_list (t ∷ ts) = names_in t ++ names_in_list ts

abbrev pub names_in_env : Env → List TyName
names_in_env env = names_in_list (types_in env)

abbrev pub names_in_functor : Functor → List TyName
names_in_functor fun = names_in_env fun.param ++ names_in_env fun.result

abbrev pub names_in_signatures : Table Signature → List TyName
names_in_signatures [] = []
names_in_signatures (row ∷ rows) = names_in_env row.1.env ++ names_in_signatures rows

abbrev pub names_in_functors : Table Functor → List TyName
names_in_functors [] = []
names_in_functors (row ∷ rows) = names_in_functor row.1 ++ names_in_functors rows

abbrev pub names_in_top : Top → List TyName
names_in_top top = names_in_env top.env
    ++ (names_in_signatures top.signatures ++ (names_in_functors top.functors ++ names_in_functors top.funsigs))

-- whether a name stands in a list
abbrev pub is_listed : TyName → List TyName → Bool
is_listed name [] = false
is_listed name (m ∷ ms) = same_name name m || is_listed name ms

-- the names of a list, each once, by their first places
abbrev pub once : List TyName → List TyName
once [] = []
once (name ∷ names) = name ∷ filter (λ m. not (same_name name m)) (once names)

-- the place at which a name first stands in a list
abbrev pub place_in : TyName → List TyName → ℕ
place_in name [] = zero
place_in name (m ∷ ms) = cond (same_name name m) zero (suc (place_in name ms))

-- the names that occur in an environment, each once, in the order of the walk
abbrev pub names_of : Env → List TyName
names_of env = once (names_in_env env)
