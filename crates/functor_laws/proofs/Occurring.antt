-- Nodes of an environment and the type names that occur in it.
use Rattle.std.proofs.Common.{◌≡◌, ℕ, List, [], ◌∷◌, ◌++◌, map, true, ◌&&◌}
use Rattle.semantic_objects.specs.declared.name.TyName.{TyName}
use Rattle.semantic_objects.specs.declared.symbol.Symbol.{Symbol}
use Rattle.semantic_objects.specs.declared.symbol.Symbol.TheVariants as symbol
use Rattle.semantic_objects.specs.declared.entry.ConEntry.{ConEntry}
use Rattle.semantic_objects.specs.declared.entry.TypeStr.{TypeStr}
use Rattle.semantic_objects.specs.declared.entry.ValueEntry.{ValueEntry}
use Rattle.semantic_objects.specs.Tables.{Table}
use Rattle.semantic_objects.specs.Trees.{Tree, Trees}
use Rattle.semantic_objects.specs.Environments.{Env, Structures}
use Rattle.unification.proofs.Walking.{or_either, and_both}
use Rattle.env_parts.specs.Types.{con_types, type_types, types_in, types_in_types, types_in_values, types_in_structures}
use Rattle.realisation.specs.Names.{names_of_symbol, names_in, names_in_all, names_in_list, names_in_env, is_listed}
use Rattle.realisation.proofs.Listing.{name_is, Named, named_left, named_right, named_first, Each, each_left, each_right, each_by_names}
use Rattle.static_semantics.specs.Holding.{AllItems, AllRows, ConHas, TypeHas, ValueHas, StructuresHave}
use Rattle.inference_laws.specs.Nodes.{Nodes, count_trees, TreeOf, TreesOf, SchemeOf, FunctionOf, EnvOf}
use Rattle.unit_laws.proofs.ModulesMade.{listed_either}

-- such a symbol, and if it is a type name, one of these
abbrev pub among : List TyName → Nodes → Nodes
among names q symbol.Arrow parts = q symbol.Arrow parts
among names q (symbol.Record labels) parts = q (symbol.Record labels) parts
among names q (symbol.Name name) parts = is_listed name names && q (symbol.Name name) parts

-- ---- what occurs is among the names that occur

module _ (q : Nodes) (names : List TyName) where
  abbrev IsIn : TyName → Type 0
  IsIn name = is_listed name names ≡ true

  abbrev HasIn : Tree → Type 0
  HasIn t = Named IsIn (names_in t)

  symbol_among : (c : Symbol) (k : ℕ) → q c k ≡ true → Named IsIn (names_of_symbol c) → among names q c k ≡ true
  symbol_among symbol.Arrow k h n = h
  symbol_among (symbol.Record labels) k h n = h
  symbol_among (symbol.Name name) k h n =
      and_both (is_listed name names) (q (symbol.Name name) k) (named_first IsIn name [] n) h

  mutual
    tree_among : (t : Tree) → TreeOf q t → HasIn t → TreeOf (among names q) t
    tree_among (Tree.Bound i) h n = tt
    tree_among (Tree.Free m) h n = tt
    tree_among (Tree.Made c ts) h n = (
      symbol_among c (count_trees ts) h.0 (named_left IsIn (names_of_symbol c) (names_in_all ts) n),
      trees_among ts h.1 (named_right IsIn (names_of_symbol c) (names_in_all ts) n),
    )

    trees_among : (ts : Trees) → TreesOf q ts → Named IsIn (names_in_all ts) → TreesOf (among names q) ts
    trees_among Trees.Nil h n = tt
    trees_among (Trees.Cons t ts) h n = (
      tree_among t h.0 (named_left IsIn (names_in t) (names_in_all ts) n),
      trees_among ts h.1 (named_right IsIn (names_in t) (names_in_all ts) n),
    )

  cons_among : (cons : List ConEntry) → AllItems (ConHas (SchemeOf q)) cons → Each HasIn (con_types cons)
      → AllItems (ConHas (SchemeOf (among names q))) cons
  cons_among [] h n = tt
  cons_among (con ∷ cons) h n =
      (record { closed = h.0.closed; body = tree_among con.scheme.body h.0.body n.0 }, cons_among cons h.1 n.1)

  types_among : (rows : Table TypeStr) → AllRows (TypeHas (SchemeOf q) (FunctionOf q)) rows
      → Each HasIn (types_in_types rows)
      → AllRows (TypeHas (SchemeOf (among names q)) (FunctionOf (among names q))) rows
  types_among [] h n = tt
  types_among (row ∷ rows) h n =
      let here : Each HasIn (type_types row.1) = each_left HasIn (type_types row.1) (types_in_types rows) n in (
        (
          record {
            closed = h.0.0.closed;
            body = tree_among row.1.function.body h.0.0.body here.0;
          },
          cons_among row.1.cons h.0.1 here.1,
        ),
        types_among rows h.1 (each_right HasIn (type_types row.1) (types_in_types rows) n),
      )

  values_among : (rows : Table ValueEntry) → AllRows (ValueHas (SchemeOf q)) rows → Each HasIn (types_in_values rows)
      → AllRows (ValueHas (SchemeOf (among names q))) rows
  values_among [] h n = tt
  values_among (row ∷ rows) h n = (
    record { closed = h.0.closed; body = tree_among row.1.scheme.body h.0.body n.0 },
    values_among rows h.1 n.1,
  )

  mutual
    env_types_among : (env : Env) → EnvOf q env → Each HasIn (types_in env) → EnvOf (among names q) env
    env_types_among (Env.MakeEnv ss ts vs) h n =
        let rest : Each HasIn (types_in_types ts ++ types_in_values vs) =
        each_right HasIn (types_in_structures ss) (types_in_types ts ++ types_in_values vs) n in (
          structures_among ss h.0
              (each_left HasIn (types_in_structures ss) (types_in_types ts ++ types_in_values vs) n),
          types_among ts h.1 (each_left HasIn (types_in_types ts) (types_in_values vs) rest),
          values_among vs h.2 (each_right HasIn (types_in_types ts) (types_in_values vs) rest),
        )

    structures_among : (ss : Structures) → StructuresHave (SchemeOf q) (FunctionOf q) ss
        → Each HasIn (types_in_structures ss)
        → StructuresHave (SchemeOf (among names q)) (FunctionOf (among names q)) ss
    structures_among Structures.Nil h n = tt
    structures_among (Structures.Cons name env rest) h n = (
      env_types_among env h.0 (each_left HasIn (types_in env) (types_in_structures rest) n),
      structures_among rest h.1 (each_right HasIn (types_in env) (types_in_structures rest) n),
    )

  env_named : (env : Env) → EnvOf q env → Named IsIn (names_in_env env) → EnvOf (among names q) env
  env_named env h n = env_types_among env h (each_by_names IsIn HasIn (λ t k. k) (types_in env) n)

-- each node of an environment that is a type name is one of those that occur
pub env_among : (q : Nodes) (env : Env) → EnvOf q env → EnvOf (among (names_in_env env) q) env
env_among q env h = env_named q (names_in_env env) env h (λ name l. l)

-- ---- a name that occurs may stand

module _ (q : Nodes) where
  -- with some number of parts
  abbrev pub Stands : TyName → Type 0
  Stands name = (parts : ℕ) × (q (symbol.Name name) parts ≡ true)

  nothing_listed : {P : Type 0} (name : TyName) → is_listed name [] ≡ true → P
  nothing_listed name l = absurd (cc)

  one_listed : (name m : TyName) (k : ℕ) → q (symbol.Name m) k ≡ true → is_listed name (m ∷ []) ≡ true → Stands name
  one_listed name m k h l = or_either (Rattle.semantic_objects.specs.Symbols.same_name name m) (is_listed name []) l
      (λ e. (
        k,
        Rattle.std.proofs.Common.subst (λ z. q (symbol.Name z) k ≡ true)
            (Rattle.std.proofs.Common.sym (name_is name m e)) h,
      ))
      (λ e. nothing_listed name e)

  symbol_stands : (name : TyName) (c : Symbol) (k : ℕ) → q c k ≡ true → is_listed name (names_of_symbol c) ≡ true
      → Stands name
  symbol_stands name symbol.Arrow k h l = nothing_listed name l
  symbol_stands name (symbol.Record labels) k h l = nothing_listed name l
  symbol_stands name (symbol.Name m) k h l = one_listed name m k h l

  mutual
    tree_stands : (name : TyName) (t : Tree) → TreeOf q t → is_listed name (names_in t) ≡ true → Stands name
    tree_stands name (Tree.Bound i) h l = nothing_listed name l
    tree_stands name (Tree.Free n) h l = nothing_listed name l
    tree_stands name (Tree.Made c ts) h l = listed_either name (names_of_symbol c) (names_in_all ts) l
        (λ i. symbol_stands name c (count_trees ts) h.0 i) (λ i. trees_stand name ts h.1 i)

    trees_stand : (name : TyName) (ts : Trees) → TreesOf q ts → is_listed name (names_in_all ts) ≡ true → Stands name
    trees_stand name Trees.Nil h l = nothing_listed name l
    trees_stand name (Trees.Cons t ts) h l = listed_either name (names_in t) (names_in_all ts) l
        (λ i. tree_stands name t h.0 i) (λ i. trees_stand name ts h.1 i)

  list_stands : (name : TyName) (ts : List Tree) → Each (TreeOf q) ts → is_listed name (names_in_list ts) ≡ true
      → Stands name
  list_stands name [] h l = nothing_listed name l
  list_stands name (t ∷ ts) h l = listed_either name (names_in t) (names_in_list ts) l
      (λ i. tree_stands name t h.0 i) (λ i. list_stands name ts h.1 i)

  each_both : (xs ys : List Tree) → Each (TreeOf q) xs → Each (TreeOf q) ys → Each (TreeOf q) (xs ++ ys)
  each_both [] ys h k = k
  each_both (x ∷ xs) ys h k = (h.0, each_both xs ys h.1 k)

  cons_each : (cons : List ConEntry) → AllItems (ConHas (SchemeOf q)) cons → Each (TreeOf q) (con_types cons)
  cons_each [] h = tt
  cons_each (con ∷ cons) h = (h.0.body, cons_each cons h.1)

  types_each : (rows : Table TypeStr) → AllRows (TypeHas (SchemeOf q) (FunctionOf q)) rows
      → Each (TreeOf q) (types_in_types rows)
  types_each [] h = tt
  types_each (row ∷ rows) h = each_both (type_types row.1) (types_in_types rows)
      (h.0.0.body, cons_each row.1.cons h.0.1) (types_each rows h.1)

  values_each : (rows : Table ValueEntry) → AllRows (ValueHas (SchemeOf q)) rows
      → Each (TreeOf q) (types_in_values rows)
  values_each [] h = tt
  values_each (row ∷ rows) h = (h.0.body, values_each rows h.1)

  mutual
    env_each : (env : Env) → EnvOf q env → Each (TreeOf q) (types_in env)
    env_each (Env.MakeEnv ss ts vs) h = each_both (types_in_structures ss) (types_in_types ts ++ types_in_values vs)
        (structures_each ss h.0)
        (each_both (types_in_types ts) (types_in_values vs) (types_each ts h.1) (values_each vs h.2))

    structures_each : (ss : Structures) → StructuresHave (SchemeOf q) (FunctionOf q) ss
        → Each (TreeOf q) (types_in_structures ss)
    structures_each Structures.Nil h = tt
    structures_each (Structures.Cons name env rest) h =
        each_both (types_in env) (types_in_structures rest) (env_each env h.0) (structures_each rest h.1)

  pub env_stands : (env : Env) (name : TyName) → EnvOf q env → is_listed name (names_in_env env) ≡ true → Stands name
  env_stands env name h l = list_stands name (types_in env) (env_each env h) l
