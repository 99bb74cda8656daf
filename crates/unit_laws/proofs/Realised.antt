-- What realised types, schemes and environments are made of.
use Rattle.std.proofs.Common.{◌≡◌, ℕ, zero, suc, ◌<◌, List, [], ◌∷◌, ◌++◌, map, length, refl, sym, ap, ◌∙◌, subst, Option, Some, None, Bool, true, false, ◌||◌, ◌&&◌, cond, eqb}
use Rattle.semantic_objects.specs.declared.name.TyName.{TyName}
use Rattle.semantic_objects.specs.declared.symbol.Symbol.{Symbol}
use Rattle.semantic_objects.specs.declared.symbol.Symbol.TheVariants as symbol
use Rattle.semantic_objects.specs.declared.entry.ConEntry.{ConEntry}
use Rattle.semantic_objects.specs.declared.entry.TypeFn.{TypeFn}
use Rattle.semantic_objects.specs.declared.entry.TypeStr.{TypeStr}
use Rattle.semantic_objects.specs.declared.entry.ValueEntry.{ValueEntry}
use Rattle.semantic_objects.specs.Tables.{Table}
use Rattle.semantic_objects.specs.Trees.{Tree, Trees, TypeScheme, binds, binds_any}
use Rattle.semantic_objects.specs.Environments.{Env, Structures}
use Rattle.unification.specs.Types.{Substitution}
use Rattle.unification.specs.Closing.{plug, plug_all, put_tree, put_trees}
use Rattle.unification.proofs.Walking.{or_left, or_right, or_either}
use Rattle.realisation.specs.Environments.{Change, by_types, changed_con, changed_type, changed_value, each_row, changed, changed_structures}
use Rattle.realisation.specs.Realised.{Realisation, argument, put_function, over_realised, realised_tree, realised_trees, realised}
use Rattle.static_semantics.specs.EnvironmentsPut.{put_scheme, put_env, put_structures}
use Rattle.static_semantics.specs.Holding.{AllItems, AllRows, ConHas, TypeHas, ValueHas, EnvHas, StructuresHave}
use Rattle.inference_laws.specs.Nodes.{Nodes, count_trees, TyOf, TreeOf, TreesOf, SchemeOf, FunctionOf, EnvOf}
use Rattle.inference_laws.proofs.Nodes.{tree_closed, closed_binds}

-- ---- trees that are put in

count_plugged : (θ : ℕ → Tree) (xs : Trees) → count_trees (plug_all θ xs) ≡ count_trees xs
count_plugged θ Trees.Nil = refl
count_plugged θ (Trees.Cons x xs) = ap suc (count_plugged θ xs)

mutual
  plugged_of : (q : Nodes) (θ : ℕ → Tree) (x : Tree) → ((i : ℕ) → TreeOf q (θ i)) → TreeOf q x → TreeOf q (plug θ x)
  plugged_of q θ (Tree.Bound i) h k = h i
  plugged_of q θ (Tree.Free n) h k = tt
  plugged_of q θ (Tree.Made c xs) h k =
      (subst (λ z. q c z ≡ true) (sym (count_plugged θ xs)) k.0, plugged_all_of q θ xs h k.1)

  plugged_all_of : (q : Nodes) (θ : ℕ → Tree) (xs : Trees) → ((i : ℕ) → TreeOf q (θ i)) → TreesOf q xs
      → TreesOf q (plug_all θ xs)
  plugged_all_of q θ Trees.Nil h k = tt
  plugged_all_of q θ (Trees.Cons x xs) h k = (plugged_of q θ x h k.0, plugged_all_of q θ xs h k.1)

argument_of : (q : Nodes) (i : ℕ) (ts : Trees) → q (symbol.Record []) 0 ≡ true → TreesOf q ts → TreeOf q (argument i ts)
argument_of q i Trees.Nil h k = (h, tt)
argument_of q zero (Trees.Cons t ts) h k = k.0
argument_of q (suc i) (Trees.Cons t ts) h k = argument_of q i ts h k.1

-- ---- realised trees

-- what is put for a name is made of such nodes, or it may stand itself
abbrev pub PutOf : Nodes → TyName → ℕ → Option TypeFn → Type 0
PutOf r name parts None = r (symbol.Name name) parts ≡ true
PutOf r name parts (Some f) = TreeOf r f.body

-- a realisation makes nodes of the second kind of those of the first
pub record Realises (q r : Nodes) (φ : Realisation) : Type 0 where
  pub arrow : (parts : ℕ) → q symbol.Arrow parts ≡ true → r symbol.Arrow parts ≡ true
  pub record_ : (labels : List (List ℕ)) (parts : ℕ) → q (symbol.Record labels) parts ≡ true
      → r (symbol.Record labels) parts ≡ true
  pub empty : r (symbol.Record []) 0 ≡ true
  pub names : (name : TyName) (parts : ℕ) → q (symbol.Name name) parts ≡ true → PutOf r name parts (φ name)

count_realised : (φ : Realisation) (ts : Trees) → count_trees (realised_trees φ ts) ≡ count_trees ts
count_realised φ Trees.Nil = refl
count_realised φ (Trees.Cons t ts) = ap suc (count_realised φ ts)

put_of : (r : Nodes) (name : TyName) (ts : Trees) (o : Option TypeFn) → r (symbol.Record []) 0 ≡ true
    → PutOf r name (count_trees ts) o → TreesOf r ts → TreeOf r (put_function name ts o)
put_of r name ts None e h k = (h, k)
put_of r name ts (Some f) e h k = plugged_of r (λ i. argument i ts) f.body (λ i. argument_of r i ts e k) h

over_of : (q r : Nodes) (φ : Realisation) → Realises q r φ → (c : Symbol) (ts : Trees) → q c (count_trees ts) ≡ true
    → TreesOf r ts → TreeOf r (over_realised φ c ts)
over_of q r φ w symbol.Arrow ts h k = (w.arrow (count_trees ts) h, k)
over_of q r φ w (symbol.Record labels) ts h k = (w.record_ labels (count_trees ts) h, k)
over_of q r φ w (symbol.Name name) ts h k = put_of r name ts (φ name) w.empty (w.names name (count_trees ts) h) k

mutual
  realised_of : (q r : Nodes) (φ : Realisation) → Realises q r φ → (t : Tree) → TreeOf q t
      → TreeOf r (realised_tree φ t)
  realised_of q r φ w (Tree.Bound i) h = tt
  realised_of q r φ w (Tree.Free n) h = tt
  realised_of q r φ w (Tree.Made c ts) h = over_of q r φ w c (realised_trees φ ts)
      (subst (λ z. q c z ≡ true) (sym (count_realised φ ts)) h.0) (realised_all_of q r φ w ts h.1)

  realised_all_of : (q r : Nodes) (φ : Realisation) → Realises q r φ → (ts : Trees) → TreesOf q ts
      → TreesOf r (realised_trees φ ts)
  realised_all_of q r φ w Trees.Nil h = tt
  realised_all_of q r φ w (Trees.Cons t ts) h = (realised_of q r φ w t h.0, realised_all_of q r φ w ts h.1)

-- ---- variables of what is realised

argument_binds : (i j : ℕ) (ts : Trees) → binds i (argument j ts) ≡ true → binds_any i ts ≡ true
argument_binds i j Trees.Nil h = absurd (cc)
argument_binds i zero (Trees.Cons t ts) h = or_left (binds i t) (binds_any i ts) h
argument_binds i (suc j) (Trees.Cons t ts) h = or_right (binds i t) (binds_any i ts) (argument_binds i j ts h)

mutual
  plug_binds : (θ : ℕ → Tree) (i : ℕ) (x : Tree) → binds i (plug θ x) ≡ true → (j : ℕ) × (binds i (θ j) ≡ true)
  plug_binds θ i (Tree.Bound j) h = (j, h)
  plug_binds θ i (Tree.Free n) h = absurd (cc)
  plug_binds θ i (Tree.Made c xs) h = plug_all_binds θ i xs h

  plug_all_binds : (θ : ℕ → Tree) (i : ℕ) (xs : Trees) → binds_any i (plug_all θ xs) ≡ true
      → (j : ℕ) × (binds i (θ j) ≡ true)
  plug_all_binds θ i Trees.Nil h = absurd (cc)
  plug_all_binds θ i (Trees.Cons x xs) h = or_either (binds i (plug θ x)) (binds_any i (plug_all θ xs)) h
      (plug_binds θ i x) (plug_all_binds θ i xs)

put_binds : (i : ℕ) (name : TyName) (ts : Trees) (o : Option TypeFn) → binds i (put_function name ts o) ≡ true
    → binds_any i ts ≡ true
put_binds i name ts None h = h
put_binds i name ts (Some f) h =
    let j : (j : ℕ) × (binds i (argument j ts) ≡ true) = plug_binds (λ j. argument j ts) i f.body h in
    argument_binds i j.0 ts j.1

over_binds : (φ : Realisation) (i : ℕ) (c : Symbol) (ts : Trees) → binds i (over_realised φ c ts) ≡ true
    → binds_any i ts ≡ true
over_binds φ i symbol.Arrow ts h = h
over_binds φ i (symbol.Record labels) ts h = h
over_binds φ i (symbol.Name name) ts h = put_binds i name ts (φ name) h

mutual
  realised_binds : (φ : Realisation) (i : ℕ) (t : Tree) → binds i (realised_tree φ t) ≡ true → binds i t ≡ true
  realised_binds φ i (Tree.Bound j) h = h
  realised_binds φ i (Tree.Free n) h = h
  realised_binds φ i (Tree.Made c ts) h = realised_all_bind φ i ts (over_binds φ i c (realised_trees φ ts) h)

  realised_all_bind : (φ : Realisation) (i : ℕ) (ts : Trees) → binds_any i (realised_trees φ ts) ≡ true
      → binds_any i ts ≡ true
  realised_all_bind φ i Trees.Nil h = h
  realised_all_bind φ i (Trees.Cons t ts) h = or_either (binds i (realised_tree φ t)) (binds_any i (realised_trees φ
      ts)) h
      (λ e. or_left (binds i t) (binds_any i ts) (realised_binds φ i t e))
      (λ e. or_right (binds i t) (binds_any i ts) (realised_all_bind φ i ts e))

-- ---- environments that are changed

module _ (S U : TypeScheme → Type 0) (F G : TypeFn → Type 0) (c : Change) (s : (σ : TypeScheme) → S σ → U (c.scheme σ))
    (f : (x : TypeFn) → F x → G (c.function x)) where
  cons_changed : (cons : List ConEntry) → AllItems (ConHas S) cons → AllItems (ConHas U) (map (changed_con c) cons)
  cons_changed [] h = tt
  cons_changed (con ∷ cons) h = (s con.scheme h.0, cons_changed cons h.1)

  types_changed : (rows : Table TypeStr) → AllRows (TypeHas S F) rows
      → AllRows (TypeHas U G) (each_row (changed_type c) rows)
  types_changed [] h = tt
  types_changed (row ∷ rows) h = ((f row.1.function h.0.0, cons_changed row.1.cons h.0.1), types_changed rows h.1)

  values_changed : (rows : Table ValueEntry) → AllRows (ValueHas S) rows
      → AllRows (ValueHas U) (each_row (changed_value c) rows)
  values_changed [] h = tt
  values_changed (row ∷ rows) h = (s row.1.scheme h.0, values_changed rows h.1)

  mutual
    pub env_changed : (env : Env) → EnvHas S F env → EnvHas U G (changed c env)
    env_changed (Env.MakeEnv ss ts vs) h = (structures_changed ss h.0, types_changed ts h.1, values_changed vs h.2)

    structures_changed : (ss : Structures) → StructuresHave S F ss → StructuresHave U G (changed_structures c ss)
    structures_changed Structures.Nil h = tt
    structures_changed (Structures.Cons name env rest) h = (env_changed env h.0, structures_changed rest h.1)

pub env_realised : (q r : Nodes) (φ : Realisation) → Realises q r φ → (env : Env) → EnvOf q env
    → EnvOf r (realised φ env)
env_realised q r φ w = env_changed (SchemeOf q) (SchemeOf r) (FunctionOf q) (FunctionOf r) (by_types (realised_tree φ))
    (λ σ h. record {
      closed = λ i k. h.closed i (realised_binds φ i σ.body k);
      body = realised_of q r φ w σ.body h.body;
    })
    (λ x h. record {
      closed = λ i k. h.closed i (realised_binds φ i x.body k);
      body = realised_of q r φ w x.body h.body;
    })

-- ---- environments as they are known

count_put : (s : Substitution) (ts : Trees) → count_trees (put_trees s ts) ≡ count_trees ts
count_put s Trees.Nil = refl
count_put s (Trees.Cons t ts) = ap suc (count_put s ts)

mutual
  put_tree_of : (q : Nodes) (s : Substitution) (t : Tree) → ((n : ℕ) → TyOf q (s n)) → TreeOf q t
      → TreeOf q (put_tree s t)
  put_tree_of q s (Tree.Bound i) h k = tt
  put_tree_of q s (Tree.Free n) h k = tree_closed q [] (s n) (h n)
  put_tree_of q s (Tree.Made c ts) h k =
      (subst (λ z. q c z ≡ true) (sym (count_put s ts)) k.0, put_trees_of q s ts h k.1)

  put_trees_of : (q : Nodes) (s : Substitution) (ts : Trees) → ((n : ℕ) → TyOf q (s n)) → TreesOf q ts
      → TreesOf q (put_trees s ts)
  put_trees_of q s Trees.Nil h k = tt
  put_trees_of q s (Trees.Cons t ts) h k = (put_tree_of q s t h k.0, put_trees_of q s ts h k.1)

none_below : (i : ℕ) → i < 0 → ⊥
none_below i h = absurd (omega (Rattle.std.proofs.Common.arith, h))

mutual
  put_tree_binds : (s : Substitution) (i : ℕ) (t : Tree) → binds i (put_tree s t) ≡ true → binds i t ≡ true
  put_tree_binds s i (Tree.Bound j) h = h
  put_tree_binds s i (Tree.Free n) h = absurd (none_below i (closed_binds [] (s n) i h))
  put_tree_binds s i (Tree.Made c ts) h = put_trees_bind s i ts h

  put_trees_bind : (s : Substitution) (i : ℕ) (ts : Trees) → binds_any i (put_trees s ts) ≡ true
      → binds_any i ts ≡ true
  put_trees_bind s i Trees.Nil h = h
  put_trees_bind s i (Trees.Cons t ts) h = or_either (binds i (put_tree s t)) (binds_any i (put_trees s ts)) h
      (λ e. or_left (binds i t) (binds_any i ts) (put_tree_binds s i t e))
      (λ e. or_right (binds i t) (binds_any i ts) (put_trees_bind s i ts e))

abbrev pub to_known : Substitution → Change
to_known s = record {
  function = λ x. record { arity = x.arity; body = put_tree s x.body };
  scheme = put_scheme s;
}

mutual
  pub put_is_changed : (s : Substitution) (env : Env) → put_env s env ≡ changed (to_known s) env
  put_is_changed s (Env.MakeEnv ss ts vs) = ap (λ z. Env.MakeEnv z (each_row (changed_type (to_known s)) ts)
      (each_row (changed_value (to_known s)) vs)) (put_structures_are s ss)

  put_structures_are : (s : Substitution) (ss : Structures) → put_structures s ss ≡ changed_structures (to_known s) ss
  put_structures_are s Structures.Nil = refl
  put_structures_are s (Structures.Cons name env rest) =
      ap (λ z. Structures.Cons name z (put_structures s rest)) (put_is_changed s env)
      ∙ ap (Structures.Cons name (changed (to_known s) env)) (put_structures_are s rest)

pub env_known : (q : Nodes) (s : Substitution) (env : Env) → ((n : ℕ) → TyOf q (s n)) → EnvOf q env
    → EnvOf q (put_env s env)
env_known q s env h k = subst (EnvOf q) (sym (put_is_changed s env))
    (env_changed (SchemeOf q) (SchemeOf q) (FunctionOf q) (FunctionOf q) (to_known s)
    (λ σ l. record {
      closed = λ i e. l.closed i (put_tree_binds s i σ.body e);
      body = put_tree_of q s σ.body h l.body;
    })
    (λ x l. record {
      closed = λ i e. l.closed i (put_tree_binds s i x.body e);
      body = put_tree_of q s x.body h l.body;
    }) env k)
