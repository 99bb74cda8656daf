-- The type names that a signature binds: bound ones while it is finished, names of the unit while it is open.
use Rattle.std.specs.Prelude.{ℕ, zero, suc, List, [], ◌∷◌, ◌++◌, length, Option, Some, None, Bool, ◌&&◌, cond, eqb}
use Rattle.semantic_objects.specs.declared.name.Owner.TheVariants as owner
use Rattle.semantic_objects.specs.declared.name.TyName.{TyName}
use Rattle.semantic_objects.specs.declared.symbol.Symbol.TheVariants as symbol
use Rattle.semantic_objects.specs.declared.entry.TypeFn.{TypeFn}
use Rattle.semantic_objects.specs.Trees.{Tree, Trees}
use Rattle.semantic_objects.specs.Environments.{Env, Signature, empty_env}
use Rattle.unification.specs.Generality.{same_trees}
use Rattle.realisation.specs.Realised.{of_rows, realised}
use Rattle.static_semantics.specs.Inferring.{Progress}
use Rattle.static_semantics.specs.DatatypeInference.{own_name, own_type, after_names}

-- ---- a name by itself

abbrev pub variables_from : ℕ → ℕ → Trees
variables_from zero first = Trees.Nil
variables_from (suc n) first = Trees.Cons (Tree.Bound first) (variables_from n (suc first))

abbrev pub if_all : Bool → TyName → Option TyName
if_all all name = cond all (Some name) None

-- the type name that a type function applies to its own variables in their order, if it does that
abbrev pub applies_all : ℕ → TyName → Trees → Bool
applies_all arity name args = eqb name.arity arity && same_trees args (variables_from arity 0)

abbrev pub name_over : ℕ → Tree → Option TyName
name_over arity (Tree.Bound i) = None
name_over arity (Tree.Free n) = None
name_over arity (Tree.Made symbol.Arrow ts) = None
name_over arity (Tree.Made (symbol.Record labels) ts) = None
name_over arity (Tree.Made (symbol.Name name) ts) = if_all (applies_all arity name ts) name

abbrev pub name_alone : TypeFn → Option TyName
name_alone function = name_over function.arity function.body

-- ---- other names for the bound ones

-- the rows that put one name for another, place by place
abbrev pub rows_between : List TyName → List TyName → List (TyName × TypeFn)
rows_between [] news = []
rows_between (old ∷ olds) [] = []
rows_between (old ∷ olds) (new ∷ news) = (old, (own_type new).function) ∷ rows_between olds news

abbrev pub with_bound_names : List TyName → Signature → Signature
with_bound_names news sig = record { bound = news; env = realised (of_rows (rows_between sig.bound news)) sig.env }

-- names of the unit of the same arities and equality, from a number on
abbrev pub unit_names : List ℕ → ℕ → List TyName → List TyName
unit_names home number [] = []
unit_names home number (name ∷ names) =
    own_name home number name.arity name.eq ∷ unit_names home (suc number) names

-- bound names of the same arities and equality, from a number on
abbrev pub bound_names : ℕ → List TyName → List TyName
bound_names number [] = []
bound_names number (name ∷ names) =
    (let new : TyName = record { owner = owner.Bound; number = number; arity = name.arity; eq = name.eq } in new)
    ∷ bound_names (suc number) names

-- a finished signature with new names of the unit in the order of its list
abbrev pub opened : List ℕ → Signature → Progress → Signature × Progress
opened home sig st =
    (with_bound_names (unit_names home st.names sig.bound) sig, after_names (length sig.bound) st)

-- an open signature with bound names in the order of its list
abbrev pub closed : Signature → Signature
closed sig = with_bound_names (bound_names 0 sig.bound) sig

-- what a structure is under an opaque signature: the signature's environment with new names in the order of its list.
-- The Definition, rule 53
abbrev pub sealed : List ℕ → Signature → Progress → Env × Progress
sealed home sig st = ((opened home sig st).0.env, (opened home sig st).1)

abbrev pub empty_signature : Signature
empty_signature = record { bound = []; env = empty_env }

abbrev pub also_bound : List TyName → Signature → Signature
also_bound names sig = record { bound = sig.bound ++ names; env = sig.env }
