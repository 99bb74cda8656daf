-- Small tops with their canonical form, and a scheme with its one form, by computation.
use Rattle.std.proofs.Common.{◌≡◌, ℕ, List, [], ◌∷◌, refl, Bool, true, false}
use Rattle.std.specs.Prelude.{codes}
use Rattle.semantic_objects.specs.declared.name.Owner.{Owner}
use Rattle.semantic_objects.specs.declared.name.Owner.TheVariants as owner
use Rattle.semantic_objects.specs.declared.name.TyName.{TyName}
use Rattle.semantic_objects.specs.declared.symbol.Symbol.TheVariants as symbol
use Rattle.semantic_objects.specs.declared.entry.TypeStr.{TypeStr}
use Rattle.semantic_objects.specs.declared.entry.ValueEntry.{ValueEntry}
use Rattle.semantic_objects.specs.declared.entry.VidStatus.TheVariants as status
use Rattle.semantic_objects.specs.Tables.{Table}
use Rattle.semantic_objects.specs.Trees.{Tree, Trees, TypeScheme}
use Rattle.semantic_objects.specs.Environments.{Env, Signature, Functor, Top, empty_env, with_structure, with_type, with_value}
use Rattle.unification.specs.Closing.{canonical_scheme}
use Rattle.realisation.specs.Canonical.{canonical}

-- ---- names and types

abbrev name : Owner → ℕ → TyName
name of number = record { owner = of; number = number; arity = 0; eq = false }

abbrev home : List ℕ
home = codes "u"

abbrev own : ℕ → TyName
own number = name (owner.«Unit» home) number

abbrev foreign : ℕ → TyName
foreign number = name (owner.«Unit» (codes "w")) number

abbrev bound : ℕ → TyName
bound number = name owner.Bound number

abbrev alone : TyName → Tree
alone n = Tree.Made (symbol.Name n) Trees.Nil

abbrev arrow : Tree → Tree → Tree
arrow from to = Tree.Made symbol.Arrow (Trees.Cons from (Trees.Cons to Trees.Nil))

abbrev type_is : List ℕ → TyName → Env → Env
type_is text n env = with_type text
    (let str : TypeStr = record { function = record { arity = 0; body = alone n }; cons = [] } in str) env

abbrev scheme : List Bool → Tree → TypeScheme
scheme marks body = record { marks = marks; body = body }

abbrev value_is : List ℕ → List Bool → Tree → Env → Env
value_is text marks body env = with_value text
    (let value : ValueEntry = record { status = status.Variable; scheme = scheme marks body } in value) env

abbrev top_of : Env → Table Signature → Table Functor → Top
top_of env sigs funs = record { env = env; signatures = sigs; functors = funs; funsigs = [] }

-- ---- own names, by the walk: types before values, each in byte order; the numbers 9 and 4 are gone

canon_1 : canonical home (top_of (with_structure (codes "A") (type_is (codes "t") (own 9) (type_is (codes "s") (own 4)
    (value_is (codes "f") [] (arrow (alone (own 9)) (alone (own 4))) empty_env))) empty_env) [] [])
    ≡ top_of (with_structure (codes "A") (type_is (codes "t") (own 1) (type_is (codes "s") (own 0)
    (value_is (codes "f") [] (arrow (alone (own 1)) (alone (own 0))) empty_env))) empty_env) [] []
canon_1 = refl

-- a structure inside comes before the types beside it, and names of other units stay

canon_2 : canonical home (top_of (with_structure (codes "A") (type_is (codes "a") (own 5) (type_is (codes "b")
    (foreign 5)
    (with_structure (codes "B") (type_is (codes "z") (own 6) empty_env) empty_env))) empty_env) [] [])
    ≡ top_of (with_structure (codes "A") (type_is (codes "a") (own 1) (type_is (codes "b") (foreign 5)
    (with_structure (codes "B") (type_is (codes "z") (own 0) empty_env) empty_env))) empty_env) [] []
canon_2 = refl

-- ---- signatures: bound names by first occurrence, and one that doesn't occur is gone; an own name, after those before

canon_3 : canonical home (top_of (with_structure (codes "A") (type_is (codes "t") (own 7) empty_env) empty_env)
    ((
      codes "S",
      (let sig : Signature = record {
        bound = bound 0 ∷ bound 1 ∷ bound 2 ∷ [];
        env = type_is (codes "t") (bound 2) (type_is (codes "u") (own 3) (value_is (codes "x") []
            (arrow (alone (bound 0)) (alone (own 7))) empty_env));
      } in sig),
    ) ∷ []) [])
    ≡ top_of (with_structure (codes "A") (type_is (codes "t") (own 0) empty_env) empty_env)
    ((
      codes "S",
      (let sig : Signature = record {
        bound = bound 0 ∷ bound 1 ∷ [];
        env = type_is (codes "t") (bound 0) (type_is (codes "u") (own 1) (value_is (codes "x") []
            (arrow (alone (bound 1)) (alone (own 0))) empty_env));
      } in sig),
    ) ∷ []) []
canon_3 = refl

-- ---- functors: the parameter's names first, and the further ones after them, each by first occurrence

canon_4 : canonical home (top_of empty_env [] ((
  codes "F",
  (let fun : Functor = record {
    bound = bound 0 ∷ bound 1 ∷ [];
    param = type_is (codes "t") (bound 1) (type_is (codes "u") (bound 0) empty_env);
    further = bound 2 ∷ bound 3 ∷ [];
    result = type_is (codes "a") (bound 3) (type_is (codes "b") (bound 0) (type_is (codes "c") (bound 2) empty_env));
  } in fun),
) ∷ []))
    ≡ top_of empty_env [] ((
      codes "F",
      (let fun : Functor = record {
        bound = bound 0 ∷ bound 1 ∷ [];
        param = type_is (codes "t") (bound 0) (type_is (codes "u") (bound 1) empty_env);
        further = bound 2 ∷ bound 3 ∷ [];
        result = type_is (codes "a") (bound 2) (type_is (codes "b") (bound 1) (type_is (codes "c") (bound 3)
            empty_env));
      } in fun),
    ) ∷ [])
canon_4 = refl

-- ---- schemes: the variables by first occurrence with their marks, and one that doesn't occur is gone

form_1 : canonical_scheme (scheme (false ∷ false ∷ true ∷ []) (arrow (Tree.Bound 2) (arrow (Tree.Bound 0) (Tree.Bound
    2))))
    ≡ scheme (true ∷ false ∷ []) (arrow (Tree.Bound 0) (arrow (Tree.Bound 1) (Tree.Bound 0)))
form_1 = refl

canon_5 : canonical home (top_of (value_is (codes "x") (false ∷ true ∷ []) (arrow (Tree.Bound 1) (alone (own 2)))
    empty_env)
    [] [])
    ≡ top_of (value_is (codes "x") (true ∷ []) (arrow (Tree.Bound 0) (alone (own 0))) empty_env) [] []
canon_5 = refl
