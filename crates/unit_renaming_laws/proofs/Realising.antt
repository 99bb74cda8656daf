-- Realisation moves with the variables.
use Rattle.std.proofs.Common.{◌≡◌, ℕ, zero, suc, List, [], ◌∷◌, map, refl, sym, ap, ap₂, ◌∙◌, Option, Some, None, cond}
use Rattle.semantic_objects.specs.declared.name.TyName.{TyName}
use Rattle.semantic_objects.specs.declared.symbol.Symbol.{Symbol}
use Rattle.semantic_objects.specs.declared.symbol.Symbol.TheVariants as symbol
use Rattle.semantic_objects.specs.declared.entry.ConEntry.{ConEntry}
use Rattle.semantic_objects.specs.declared.entry.TypeFn.{TypeFn}
use Rattle.semantic_objects.specs.declared.entry.TypeStr.{TypeStr}
use Rattle.semantic_objects.specs.declared.entry.ValueEntry.{ValueEntry}
use Rattle.semantic_objects.specs.Symbols.{same_name}
use Rattle.semantic_objects.specs.Trees.{Tree, Trees}
use Rattle.semantic_objects.specs.Environments.{Env, Structures, Signature}
use Rattle.unification.specs.Closing.{plug, plug_all, put_tree, put_trees}
use Rattle.realisation.specs.Environments.{by_types, changed_con, changed_type, changed_value, changed_structures}
use Rattle.realisation.specs.Realised.{Realisation, of_rows, argument, put_function, over_realised, realised_tree, realised_trees, realised}
use Rattle.static_semantics.specs.EnvironmentsPut.{put_con, put_type, put_value, each_entry, put_env, put_structures}
use Rattle.module_semantics.specs.SignatureNames.{rows_between, with_bound_names}
use Rattle.module_semantics.specs.ElaboratesSignatures.{sig_of}
use Rattle.module_semantics.specs.Matching.{Rows}
use Rattle.renaming_laws.specs.Moved.{moved}
use Rattle.renaming_laws.proofs.Answers.{mapped}
use Rattle.renaming_laws.proofs.Environments.{or_mapped}
use Rattle.renaming_laws.proofs.TypesMoved.{own_stays}
use Rattle.renaming_laws.proofs.Beginning.{rows_twice, con_of, str_of, value_of}
use Rattle.unit_renaming_laws.specs.Moved.{put_type_function, put_realising, put_signature}

-- ---- types

argument_moved : (k i : ℕ) (ts : Trees) → argument i (put_trees (moved k) ts) ≡ put_tree (moved k) (argument i ts)
argument_moved k i Trees.Nil = refl
argument_moved k zero (Trees.Cons t ts) = refl
argument_moved k (suc i) (Trees.Cons t ts) = argument_moved k i ts

module _ (k : ℕ) (θ η : ℕ → Tree) (alike : (i : ℕ) → η i ≡ put_tree (moved k) (θ i)) where
  mutual
    plug_moved : (t : Tree) → plug η (put_tree (moved k) t) ≡ put_tree (moved k) (plug θ t)
    plug_moved (Tree.Bound i) = alike i
    plug_moved (Tree.Free n) = refl
    plug_moved (Tree.Made c ts) = ap (Tree.Made c) (plug_all_moved ts)

    plug_all_moved : (ts : Trees) → plug_all η (put_trees (moved k) ts) ≡ put_trees (moved k) (plug_all θ ts)
    plug_all_moved Trees.Nil = refl
    plug_all_moved (Trees.Cons t ts) = ap₂ Trees.Cons (plug_moved t) (plug_all_moved ts)

function_put : (k : ℕ) (name : TyName) (args : Trees) (o : Option TypeFn)
    → put_function name (put_trees (moved k) args) (mapped (put_type_function (moved k)) o)
    ≡ put_tree (moved k) (put_function name args o)
function_put k name args None = refl
function_put k name args (Some function) =
    plug_moved k (λ i. argument i args) (λ i. argument i (put_trees (moved k) args)) (λ i. argument_moved k i args)
    function.body

-- two realisations of which the second puts for each name what the first does, moved
abbrev pub RealisesAlike : ℕ → Realisation → Realisation → Type 0
RealisesAlike k φ ψ = (name : TyName) → ψ name ≡ mapped (put_type_function (moved k)) (φ name)

module _ (k : ℕ) (φ ψ : Realisation) (alike : RealisesAlike k φ ψ) where
  over_moved : (c : Symbol) (ts : Trees)
      → over_realised ψ c (put_trees (moved k) ts) ≡ put_tree (moved k) (over_realised φ c ts)
  over_moved symbol.Arrow ts = refl
  over_moved (symbol.Record labels) ts = refl
  over_moved (symbol.Name name) ts =
      ap (put_function name (put_trees (moved k) ts)) (alike name) ∙ function_put k name ts (φ name)

  mutual
    tree_moved : (t : Tree) → realised_tree ψ (put_tree (moved k) t) ≡ put_tree (moved k) (realised_tree φ t)
    tree_moved (Tree.Bound i) = refl
    tree_moved (Tree.Free n) = refl
    tree_moved (Tree.Made c ts) = ap (over_realised ψ c) (trees_moved ts) ∙ over_moved c (realised_trees φ ts)

    trees_moved : (ts : Trees) → realised_trees ψ (put_trees (moved k) ts) ≡ put_trees (moved k) (realised_trees φ ts)
    trees_moved Trees.Nil = refl
    trees_moved (Trees.Cons t ts) = ap₂ Trees.Cons (tree_moved t) (trees_moved ts)

  cons_moved : (cons : List ConEntry)
      → map (changed_con (by_types (realised_tree ψ))) (map (put_con (moved k)) cons)
      ≡ map (put_con (moved k)) (map (changed_con (by_types (realised_tree φ))) cons)
  cons_moved [] = refl
  cons_moved (con ∷ cons) = ap₂ (λ x rest. con_of con.name con.scheme.marks x ∷ rest) (tree_moved con.scheme.body)
      (cons_moved cons)

  type_moved : (str : TypeStr)
      → changed_type (by_types (realised_tree ψ)) (put_type (moved k) str)
      ≡ put_type (moved k) (changed_type (by_types (realised_tree φ)) str)
  type_moved str = ap₂ (str_of str.function.arity) (tree_moved str.function.body) (cons_moved str.cons)

  value_moved : (v : ValueEntry)
      → changed_value (by_types (realised_tree ψ)) (put_value (moved k) v)
      ≡ put_value (moved k) (changed_value (by_types (realised_tree φ)) v)
  value_moved v = ap (value_of v) (tree_moved v.scheme.body)

  mutual
    pub realised_moved : (env : Env) → realised ψ (put_env (moved k) env) ≡ put_env (moved k) (realised φ env)
    realised_moved (Env.MakeEnv ss ts vs) =
        ap (λ z. Env.MakeEnv z
        (each_entry (changed_type (by_types (realised_tree ψ))) (each_entry (put_type (moved k)) ts))
        (each_entry (changed_value (by_types (realised_tree ψ))) (each_entry (put_value (moved k)) vs)))
        (structures_moved ss)
        ∙ ap₂ (Env.MakeEnv (put_structures (moved k) (changed_structures (by_types (realised_tree φ)) ss)))
        (rows_twice (changed_type (by_types (realised_tree ψ))) (put_type (moved k)) (put_type (moved k))
        (changed_type (by_types (realised_tree φ))) ts type_moved)
        (rows_twice (changed_value (by_types (realised_tree ψ))) (put_value (moved k)) (put_value (moved k))
        (changed_value (by_types (realised_tree φ))) vs value_moved)

    structures_moved : (ss : Structures)
        → changed_structures (by_types (realised_tree ψ)) (put_structures (moved k) ss)
        ≡ put_structures (moved k) (changed_structures (by_types (realised_tree φ)) ss)
    structures_moved Structures.Nil = refl
    structures_moved (Structures.Cons name env rest) =
        ap₂ (Structures.Cons name) (realised_moved env) (structures_moved rest)

-- ---- rows

pub rows_alike : (k : ℕ) (rows : Rows) → RealisesAlike k (of_rows rows) (of_rows (put_realising (moved k) rows))
rows_alike k [] name = refl
rows_alike k (row ∷ rows) name =
    ap (cond (same_name row.0 name) (Some (put_type_function (moved k) row.1))) (rows_alike k rows name)
    ∙ or_mapped (put_type_function (moved k)) (same_name row.0 name) row.1 (of_rows rows name)

pub between_stay : (k : ℕ) (olds news : List TyName)
    → put_realising (moved k) (rows_between olds news) ≡ rows_between olds news
between_stay k [] news = refl
between_stay k (old ∷ olds) [] = refl
between_stay k (old ∷ olds) (new ∷ news) =
    ap₂ (λ (str : TypeStr) rest. (old, str.function) ∷ rest) (own_stays k new) (between_stay k olds news)

pub realised_by_moved : (k : ℕ) (rows : Rows) (env : Env)
    → realised (of_rows (put_realising (moved k) rows)) (put_env (moved k) env)
    ≡ put_env (moved k) (realised (of_rows rows) env)
realised_by_moved k rows env =
    realised_moved k (of_rows rows) (of_rows (put_realising (moved k) rows)) (rows_alike k rows) env

pub realised_between_moved : (k : ℕ) (olds news : List TyName) (env : Env)
    → realised (of_rows (rows_between olds news)) (put_env (moved k) env)
    ≡ put_env (moved k) (realised (of_rows (rows_between olds news)) env)
realised_between_moved k olds news env =
    ap (λ rows. realised (of_rows rows) (put_env (moved k) env)) (sym (between_stay k olds news))
    ∙ realised_by_moved k (rows_between olds news) env

pub with_names_moved : (k : ℕ) (news : List TyName) (sig : Signature)
    → with_bound_names news (put_signature (moved k) sig) ≡ put_signature (moved k) (with_bound_names news sig)
with_names_moved k news sig = ap (sig_of news) (realised_between_moved k sig.bound news sig.env)
