-- Two things that hold of the nodes of a type, a tree, an environment, as one.
use Rattle.std.proofs.Common.{◌≡◌, ℕ, List, [], ◌∷◌, true}
use Rattle.semantic_objects.specs.declared.symbol.Symbol.{Symbol}
use Rattle.semantic_objects.specs.declared.entry.TypeStr.{TypeStr}
use Rattle.semantic_objects.specs.declared.entry.ConEntry.{ConEntry}
use Rattle.semantic_objects.specs.declared.entry.ValueEntry.{ValueEntry}
use Rattle.semantic_objects.specs.declared.entry.TypeFn.{TypeFn}
use Rattle.semantic_objects.specs.Tables.{Table}
use Rattle.semantic_objects.specs.Trees.{Tree, Trees, TypeScheme}
use Rattle.semantic_objects.specs.Environments.{Env, Structures}
use Rattle.unification.specs.Types.{Ty, Types}
use Rattle.static_semantics.specs.Holding.{AllItems, AllRows, ConHas, TypeHas, ValueHas, StructuresHave}
use Rattle.inference_laws.specs.Nodes.{Nodes, count_types, count_trees, TyOf, TysOf, TreeOf, TreesOf, SchemeOf, FunctionOf, EnvOf}

-- two tests of a node make a third hold
abbrev pub Join : Nodes → Nodes → Nodes → Type 0
Join q r t = (c : Symbol) (k : ℕ) → q c k ≡ true → r c k ≡ true → t c k ≡ true

module _ (q r t : Nodes) (f : Join q r t) where
  mutual
    pub ty_both : (x : Ty) → TyOf q x → TyOf r x → TyOf t x
    ty_both (Ty.Var n) h k = tt
    ty_both (Ty.Made c ts) h k = (f c (count_types ts) h.0 k.0, tys_both ts h.1 k.1)

    tys_both : (xs : Types) → TysOf q xs → TysOf r xs → TysOf t xs
    tys_both Types.Nil h k = tt
    tys_both (Types.Cons x xs) h k = (ty_both x h.0 k.0, tys_both xs h.1 k.1)

  mutual
    pub tree_both : (x : Tree) → TreeOf q x → TreeOf r x → TreeOf t x
    tree_both (Tree.Bound i) h k = tt
    tree_both (Tree.Free n) h k = tt
    tree_both (Tree.Made c ts) h k = (f c (count_trees ts) h.0 k.0, trees_both ts h.1 k.1)

    trees_both : (xs : Trees) → TreesOf q xs → TreesOf r xs → TreesOf t xs
    trees_both Trees.Nil h k = tt
    trees_both (Trees.Cons x xs) h k = (tree_both x h.0 k.0, trees_both xs h.1 k.1)

  pub rows_both : (rows : Table Ty) → AllRows (TyOf q) rows → AllRows (TyOf r) rows → AllRows (TyOf t) rows
  rows_both [] h k = tt
  rows_both (row ∷ rows) h k = (ty_both row.1 h.0 k.0, rows_both rows h.1 k.1)

  scheme_both : (σ : TypeScheme) → SchemeOf q σ → SchemeOf r σ → SchemeOf t σ
  scheme_both σ h k = record { closed = h.closed; body = tree_both σ.body h.body k.body }

  function_both : (function : TypeFn) → FunctionOf q function → FunctionOf r function → FunctionOf t function
  function_both function h k = record { closed = h.closed; body = tree_both function.body h.body k.body }

  cons_both : (cons : List ConEntry) → AllItems (ConHas (SchemeOf q)) cons → AllItems (ConHas (SchemeOf r)) cons
      → AllItems (ConHas (SchemeOf t)) cons
  cons_both [] h k = tt
  cons_both (con ∷ cons) h k = (scheme_both con.scheme h.0 k.0, cons_both cons h.1 k.1)

  types_both : (rows : Table TypeStr) → AllRows (TypeHas (SchemeOf q) (FunctionOf q)) rows
      → AllRows (TypeHas (SchemeOf r) (FunctionOf r)) rows → AllRows (TypeHas (SchemeOf t) (FunctionOf t)) rows
  types_both [] h k = tt
  types_both (row ∷ rows) h k = (
    (function_both row.1.function h.0.0 k.0.0, cons_both row.1.cons h.0.1 k.0.1),
    types_both rows h.1 k.1,
  )

  values_both : (rows : Table ValueEntry) → AllRows (ValueHas (SchemeOf q)) rows → AllRows (ValueHas (SchemeOf r)) rows
      → AllRows (ValueHas (SchemeOf t)) rows
  values_both [] h k = tt
  values_both (row ∷ rows) h k = (scheme_both row.1.scheme h.0 k.0, values_both rows h.1 k.1)

  mutual
    pub env_both : (env : Env) → EnvOf q env → EnvOf r env → EnvOf t env
    env_both (Env.MakeEnv ss ts vs) h k = (structures_both ss h.0 k.0, types_both ts h.1 k.1, values_both vs h.2 k.2)

    structures_both : (ss : Structures) → StructuresHave (SchemeOf q) (FunctionOf q) ss
        → StructuresHave (SchemeOf r) (FunctionOf r) ss → StructuresHave (SchemeOf t) (FunctionOf t) ss
    structures_both Structures.Nil h k = tt
    structures_both (Structures.Cons name env rest) h k = (env_both env h.0 k.0, structures_both rest h.1 k.1)
