-- Environments in which no type variable stands, and that they stay such where type names are replaced.
use Rattle.std.proofs.Common.{◌≡◌, ℕ, zero, suc, List, [], ◌∷◌, ◌++◌, map, refl, sym, ◌∙◌, subst, Option, Some, None, Bool, true, false, ◌||◌, cond}
use Rattle.std.specs.Prelude.{eqb}
use Rattle.std.specs.List.{list_any}
use Rattle.std.proofs.lemmas.Bool.{eq-eqb}
use Rattle.std.proofs.lemmas.List.Folds.{list_any-append}
use Rattle.semantic_objects.specs.declared.name.TyName.{TyName}
use Rattle.semantic_objects.specs.declared.symbol.Symbol.{Symbol}
use Rattle.semantic_objects.specs.declared.symbol.Symbol.TheVariants as symbol
use Rattle.semantic_objects.specs.declared.entry.ConEntry.{ConEntry}
use Rattle.semantic_objects.specs.declared.entry.TypeFn.{TypeFn}
use Rattle.semantic_objects.specs.declared.entry.TypeStr.{TypeStr}
use Rattle.semantic_objects.specs.declared.entry.ValueEntry.{ValueEntry}
use Rattle.semantic_objects.specs.Symbols.{same_name}
use Rattle.semantic_objects.specs.Tables.{Table}
use Rattle.semantic_objects.specs.Trees.{Tree, Trees}
use Rattle.semantic_objects.specs.Environments.{Env, Structures}
use Rattle.env_parts.specs.Types.{holds_free, any_holds_free, con_types, type_types, types_in, types_in_types, types_in_values, types_in_structures}
use Rattle.unification.specs.Types.{Ty}
use Rattle.unification.specs.Closing.{is_among, place_of, closed_over_all, plug, plug_all}
use Rattle.unification.proofs.Walking.{or_left, or_right, or_false_left, or_false_right}
use Rattle.realisation.specs.Environments.{changed_con, changed_type, changed_value, each_row, by_types, changed_structures}
use Rattle.realisation.specs.Realised.{Realisation, of_rows, argument, put_function, over_realised, realised_tree, realised_trees, realised}
use Rattle.static_semantics.specs.BasicTypes.{types_of}
use Rattle.static_semantics.specs.DatatypeInference.{counted, own_type}
use Rattle.static_semantics.specs.Holding.{AllItems, AllRows, ConHas, TypeHas, ValueHas, StructuresHave}
use Rattle.module_semantics.specs.SignatureNames.{rows_between}
use Rattle.unit_semantics.specs.UnitInference.{has_variable}
use Rattle.unit_semantics.specs.Promises.{IsClosedScheme, IsClosedFunction, IsClosedEnv}

-- ---- where none was found

pub neither : (a b : Bool) → a ≡ false → b ≡ false → (a || b) ≡ false
neither false b h k = k
neither true b h k = absurd (cc)

any_left : (xs ys : List Tree) → list_any holds_free (xs ++ ys) ≡ false → list_any holds_free xs ≡ false
any_left xs ys h = or_false_left (list_any holds_free xs) (list_any holds_free ys)
    (sym (list_any-append holds_free xs ys) ∙ h)

any_right : (xs ys : List Tree) → list_any holds_free (xs ++ ys) ≡ false → list_any holds_free ys ≡ false
any_right xs ys h = or_false_right (list_any holds_free xs) (list_any holds_free ys)
    (sym (list_any-append holds_free xs ys) ∙ h)

cons_closed : (cons : List ConEntry) → list_any holds_free (con_types cons) ≡ false
    → AllItems (ConHas IsClosedScheme) cons
cons_closed [] h = tt
cons_closed (con ∷ cons) h = (
  or_false_left (holds_free con.scheme.body) (list_any holds_free (con_types cons)) h,
  cons_closed cons (or_false_right (holds_free con.scheme.body) (list_any holds_free (con_types cons)) h),
)

type_closed : (str : TypeStr) → list_any holds_free (type_types str) ≡ false
    → TypeHas IsClosedScheme IsClosedFunction str
type_closed str h = (
  or_false_left (holds_free str.function.body) (list_any holds_free (con_types str.cons)) h,
  cons_closed str.cons (or_false_right (holds_free str.function.body) (list_any holds_free (con_types str.cons)) h),
)

types_closed : (ts : Table TypeStr) → list_any holds_free (types_in_types ts) ≡ false
    → AllRows (TypeHas IsClosedScheme IsClosedFunction) ts
types_closed [] h = tt
types_closed (row ∷ rows) h = (
  type_closed row.1 (any_left (type_types row.1) (types_in_types rows) h),
  types_closed rows (any_right (type_types row.1) (types_in_types rows) h),
)

values_closed : (vs : Table ValueEntry) → list_any holds_free (types_in_values vs) ≡ false
    → AllRows (ValueHas IsClosedScheme) vs
values_closed [] h = tt
values_closed (row ∷ rows) h = (
  or_false_left (holds_free row.1.scheme.body) (list_any holds_free (types_in_values rows)) h,
  values_closed rows (or_false_right (holds_free row.1.scheme.body) (list_any holds_free (types_in_values rows)) h),
)

mutual
  pub env_closed : (env : Env) → has_variable env ≡ false → IsClosedEnv env
  env_closed (Env.MakeEnv ss ts vs) h =
      let rest : list_any holds_free (types_in_types ts ++ types_in_values vs) ≡ false =
      any_right (types_in_structures ss) (types_in_types ts ++ types_in_values vs) h in (
        structures_closed ss (any_left (types_in_structures ss) (types_in_types ts ++ types_in_values vs) h),
        types_closed ts (any_left (types_in_types ts) (types_in_values vs) rest),
        values_closed vs (any_right (types_in_types ts) (types_in_values vs) rest),
      )

  structures_closed : (ss : Structures) → list_any holds_free (types_in_structures ss) ≡ false
      → StructuresHave IsClosedScheme IsClosedFunction ss
  structures_closed Structures.Nil h = tt
  structures_closed (Structures.Cons name env rest) h = (
    env_closed env (any_left (types_in env) (types_in_structures rest) h),
    structures_closed rest (any_right (types_in env) (types_in_structures rest) h),
  )

-- ---- types that are put in

argument_closed : (i : ℕ) (ts : Trees) → any_holds_free ts ≡ false → holds_free (argument i ts) ≡ false
argument_closed i Trees.Nil h = refl
argument_closed zero (Trees.Cons t ts) h = or_false_left (holds_free t) (any_holds_free ts) h
argument_closed (suc i) (Trees.Cons t ts) h =
    argument_closed i ts (or_false_right (holds_free t) (any_holds_free ts) h)

mutual
  plug_closed : (θ : ℕ → Tree) → ((i : ℕ) → holds_free (θ i) ≡ false) → (x : Tree) → holds_free x ≡ false
      → holds_free (plug θ x) ≡ false
  plug_closed θ k (Tree.Bound i) h = k i
  plug_closed θ k (Tree.Free n) h = absurd (cc)
  plug_closed θ k (Tree.Made c ts) h = plug_all_closed θ k ts h

  plug_all_closed : (θ : ℕ → Tree) → ((i : ℕ) → holds_free (θ i) ≡ false) → (xs : Trees) → any_holds_free xs ≡ false
      → any_holds_free (plug_all θ xs) ≡ false
  plug_all_closed θ k Trees.Nil h = refl
  plug_all_closed θ k (Trees.Cons t ts) h = neither (holds_free (plug θ t)) (any_holds_free (plug_all θ ts))
      (plug_closed θ k t (or_false_left (holds_free t) (any_holds_free ts) h))
      (plug_all_closed θ k ts (or_false_right (holds_free t) (any_holds_free ts) h))

-- a realisation by type functions in which no variable stands
pub record PutsClosed (φ : Realisation) : Type 0 where
  pub by : (name : TyName) (function : TypeFn) → φ name ≡ Some function → IsClosedFunction function

function_closed : (name : TyName) (ts : Trees) (by : Option TypeFn)
    → ((function : TypeFn) → by ≡ Some function → IsClosedFunction function) → any_holds_free ts ≡ false
    → holds_free (put_function name ts by) ≡ false
function_closed name ts None k h = h
function_closed name ts (Some function) k h =
    plug_closed (λ i. argument i ts) (λ i. argument_closed i ts h) function.body (k function refl)

over_closed : (φ : Realisation) → PutsClosed φ → (c : Symbol) (ts : Trees) → any_holds_free ts ≡ false
    → holds_free (over_realised φ c ts) ≡ false
over_closed φ k symbol.Arrow ts h = h
over_closed φ k (symbol.Record labels) ts h = h
over_closed φ k (symbol.Name name) ts h = function_closed name ts (φ name) (λ function e. k.by name function e) h

mutual
  tree_closed : (φ : Realisation) → PutsClosed φ → (t : Tree) → holds_free t ≡ false
      → holds_free (realised_tree φ t) ≡ false
  tree_closed φ k (Tree.Bound i) h = refl
  tree_closed φ k (Tree.Free n) h = absurd (cc)
  tree_closed φ k (Tree.Made c ts) h = over_closed φ k c (realised_trees φ ts) (trees_closed φ k ts h)

  trees_closed : (φ : Realisation) → PutsClosed φ → (ts : Trees) → any_holds_free ts ≡ false
      → any_holds_free (realised_trees φ ts) ≡ false
  trees_closed φ k Trees.Nil h = refl
  trees_closed φ k (Trees.Cons t ts) h = neither (holds_free (realised_tree φ t)) (any_holds_free (realised_trees φ ts))
      (tree_closed φ k t (or_false_left (holds_free t) (any_holds_free ts) h))
      (trees_closed φ k ts (or_false_right (holds_free t) (any_holds_free ts) h))

-- ---- environments

rows_changed : {A : Type 0} (R : A → Type 0) (f : A → A) (rows : Table A) → ((x : A) → R x → R (f x)) → AllRows R rows
    → AllRows R (each_row f rows)
rows_changed R f [] k h = tt
rows_changed R f (row ∷ rows) k h = (k row.1 h.0, rows_changed R f rows k h.1)

items_changed : {A : Type 0} (R : A → Type 0) (f : A → A) (xs : List A) → ((x : A) → R x → R (f x)) → AllItems R xs
    → AllItems R (map f xs)
items_changed R f [] k h = tt
items_changed R f (x ∷ xs) k h = (k x h.0, items_changed R f xs k h.1)

module _ (φ : Realisation) (k : PutsClosed φ) where
  mutual
    pub realised_closed : (env : Env) → IsClosedEnv env → IsClosedEnv (realised φ env)
    realised_closed (Env.MakeEnv ss ts vs) h = (
      realised_structures ss h.0,
      rows_changed (TypeHas IsClosedScheme IsClosedFunction) (changed_type (by_types (realised_tree φ))) ts
          (λ str i. (
            tree_closed φ k str.function.body i.0,
            items_changed (ConHas IsClosedScheme) (changed_con (by_types (realised_tree φ))) str.cons
                (λ con j. tree_closed φ k con.scheme.body j) i.1,
          )) h.1,
      rows_changed (ValueHas IsClosedScheme) (changed_value (by_types (realised_tree φ))) vs
          (λ value i. tree_closed φ k value.scheme.body i) h.2,
    )

    realised_structures : (ss : Structures) → StructuresHave IsClosedScheme IsClosedFunction ss
        → StructuresHave IsClosedScheme IsClosedFunction (changed_structures (by_types (realised_tree φ)) ss)
    realised_structures Structures.Nil h = tt
    realised_structures (Structures.Cons name env rest) h =
        (realised_closed env h.0, realised_structures rest h.1)

-- ---- names in place of names

pub bound_where : (c : Bool) (i n : ℕ) → c ≡ true → holds_free (cond c (Tree.Bound i) (Tree.Free n)) ≡ false
bound_where true i n h = refl
bound_where false i n h = absurd (cc)

all_bound : (vs ws : List ℕ) → ((w : ℕ) → is_among w ws ≡ true → is_among w vs ≡ true)
    → any_holds_free (closed_over_all vs (types_of (map Ty.Var ws))) ≡ false
all_bound vs [] h = refl
all_bound vs (w ∷ ws) h = neither (holds_free (cond (is_among w vs) (Tree.Bound (place_of w vs)) (Tree.Free w)))
    (any_holds_free (closed_over_all vs (types_of (map Ty.Var ws))))
    (bound_where (is_among w vs) (place_of w vs) w (h w (or_left (eqb w w) (is_among w ws) (eq-eqb w w refl))))
    (all_bound vs ws (λ u e. h u (or_right (eqb u w) (is_among u ws) e)))

pub own_closed : (name : TyName) → IsClosedFunction (own_type name).function
own_closed name = all_bound (counted name.arity 0) (counted name.arity 0) (λ w e. e)

pub first_closed : (c : Bool) (f by : TypeFn) (rest : Option TypeFn) → IsClosedFunction f
    → (rest ≡ Some by → IsClosedFunction by) → cond c (Some f) rest ≡ Some by → IsClosedFunction by
first_closed true f by rest h k e = subst IsClosedFunction (let i : f ≡ by = cc in i) h
first_closed false f by rest h k e = k e

between_closed : (olds news : List TyName) (name : TyName) (by : TypeFn)
    → of_rows (rows_between olds news) name ≡ Some by → IsClosedFunction by
between_closed [] news name by h = absurd (cc)
between_closed (old ∷ olds) [] name by h = absurd (cc)
between_closed (old ∷ olds) (new ∷ news) name by h = first_closed (same_name old name) (own_type new).function by
    (of_rows (rows_between olds news) name) (own_closed new) (λ e. between_closed olds news name by e) h

pub puts_names : (olds news : List TyName) → PutsClosed (of_rows (rows_between olds news))
puts_names olds news = record { by = between_closed olds news }
