-- Environments whose names are renamed, with their schemes as they are or in their one form.
use Rattle.std.proofs.Common.{◌≡◌, ℕ, refl, sym, ap, ap₂, ◌∙◌, List, [], ◌∷◌, ◌++◌, map, Bool}
use Rattle.std.proofs.lemmas.List.{map-append}
use Rattle.semantic_objects.specs.declared.name.TyName.{TyName}
use Rattle.semantic_objects.specs.declared.entry.ConEntry.{ConEntry}
use Rattle.semantic_objects.specs.declared.entry.TypeFn.{TypeFn}
use Rattle.semantic_objects.specs.declared.entry.TypeStr.{TypeStr}
use Rattle.semantic_objects.specs.declared.entry.ValueEntry.{ValueEntry}
use Rattle.semantic_objects.specs.declared.symbol.Symbol.{Symbol}
use Rattle.semantic_objects.specs.declared.symbol.Symbol.TheVariants as symbol
use Rattle.semantic_objects.specs.Tables.{Table}
use Rattle.semantic_objects.specs.Trees.{Tree, Trees, TypeScheme}
use Rattle.semantic_objects.specs.Environments.{Env, Structures}
use Rattle.env_parts.specs.Types.{con_types, type_types, types_in, types_in_types, types_in_values, types_in_structures}
use Rattle.unification.specs.Closing.{plug, plug_all, place_of, bound_in, canonical_scheme}
use Rattle.realisation.specs.Names.{names_of_symbol, names_in, names_in_all, names_in_list, names_in_env}
use Rattle.realisation.specs.Environments.{Change, by_types, changed_con, changed_type, changed_value, each_row, changed, changed_structures}
use Rattle.realisation.specs.Canonical.{renamed_symbol, renamed, renamed_all, to_canonical, canonical_env}
use Rattle.realisation.proofs.Listing.{Named, named_left, named_right, named_first, each_by_names, each_always}
use Rattle.realisation.proofs.Changing.{changed_agree, followed, changed_followed}
use Rattle.canonical_laws.specs.Renumbering.{renumbered_env}
use Rattle.canonical_laws.proofs.Schemes.{renamed_twice, form_twice}

-- ---- names of types

symbol_names : (h : TyName → TyName) (c : Symbol) → names_of_symbol (renamed_symbol h c) ≡ map h (names_of_symbol c)
symbol_names h symbol.Arrow = refl
symbol_names h (symbol.Record labels) = refl
symbol_names h (symbol.Name name) = refl

mutual
  renamed_names : (h : TyName → TyName) (t : Tree) → names_in (renamed h t) ≡ map h (names_in t)
  renamed_names h (Tree.Bound i) = refl
  renamed_names h (Tree.Free n) = refl
  renamed_names h (Tree.Made c ts) = ap₂ (λ xs ys. xs ++ ys) (symbol_names h c) (renamed_all_names h ts)
      ∙ sym (map-append h (names_of_symbol c) (names_in_all ts))

  renamed_all_names : (h : TyName → TyName) (ts : Trees) → names_in_all (renamed_all h ts) ≡ map h (names_in_all ts)
  renamed_all_names h Trees.Nil = refl
  renamed_all_names h (Trees.Cons t ts) = ap₂ (λ xs ys. xs ++ ys) (renamed_names h t) (renamed_all_names h ts)
      ∙ sym (map-append h (names_in t) (names_in_all ts))

abbrev by_number : (ℕ → ℕ) → ℕ → Tree
by_number f i = Tree.Bound (f i)

mutual
  plug_names : (f : ℕ → ℕ) (t : Tree) → names_in (plug (by_number f) t) ≡ names_in t
  plug_names f (Tree.Bound i) = refl
  plug_names f (Tree.Free n) = refl
  plug_names f (Tree.Made c ts) = ap (λ xs. names_of_symbol c ++ xs) (plug_all_names f ts)

  plug_all_names : (f : ℕ → ℕ) (ts : Trees) → names_in_all (plug_all (by_number f) ts) ≡ names_in_all ts
  plug_all_names f Trees.Nil = refl
  plug_all_names f (Trees.Cons t ts) = ap₂ (λ xs ys. xs ++ ys) (plug_names f t) (plug_all_names f ts)

-- ---- names of environments

-- a change that renames the names of each type
record Renames (h : TyName → TyName) (c : Change) : Type 0 where
  function : (x : TypeFn) → names_in (c.function x).body ≡ map h (names_in x.body)
  scheme : (σ : TypeScheme) → names_in (c.scheme σ).body ≡ map h (names_in σ.body)

names_of_list : (xs ys : List Tree) → names_in_list (xs ++ ys) ≡ names_in_list xs ++ names_in_list ys
names_of_list [] ys = refl
names_of_list (x ∷ xs) ys = ap (λ zs. names_in x ++ zs) (names_of_list xs ys)
    ∙ sym (Rattle.std.proofs.Common.append_assoc (names_in x) (names_in_list xs) (names_in_list ys))

-- two lists of types, of which the second has the names of the first renamed
abbrev Alike : (TyName → TyName) → List Tree → List Tree → Type 0
Alike h xs ys = names_in_list ys ≡ map h (names_in_list xs)

alike_both : (h : TyName → TyName) (xs ys us vs : List Tree) → Alike h xs us → Alike h ys vs
    → Alike h (xs ++ ys) (us ++ vs)
alike_both h xs ys us vs a b = names_of_list us vs ∙ ap₂ (λ x y. x ++ y) a b
    ∙ sym (map-append h (names_in_list xs) (names_in_list ys)) ∙ sym (ap (map h) (names_of_list xs ys))

alike_more : (h : TyName → TyName) (x u : Tree) (ys vs : List Tree) → names_in u ≡ map h (names_in x) → Alike h ys vs
    → Alike h (x ∷ ys) (u ∷ vs)
alike_more h x u ys vs a b = ap₂ (λ x y. x ++ y) a b ∙ sym (map-append h (names_in x) (names_in_list ys))

cons_alike : (h : TyName → TyName) (c : Change) → Renames h c → (cons : List ConEntry)
    → Alike h (con_types cons) (con_types (map (changed_con c) cons))
cons_alike h c r [] = refl
cons_alike h c r (con ∷ cons) = alike_more h con.scheme.body (c.scheme con.scheme).body (con_types cons)
    (con_types (map (changed_con c) cons)) (r.scheme con.scheme) (cons_alike h c r cons)

types_alike : (h : TyName → TyName) (c : Change) → Renames h c → (ts : Table TypeStr)
    → Alike h (types_in_types ts) (types_in_types (each_row (changed_type c) ts))
types_alike h c r [] = refl
types_alike h c r (row ∷ rows) = alike_both h (type_types row.1) (types_in_types rows)
    (type_types (changed_type c row.1)) (types_in_types (each_row (changed_type c) rows))
    (alike_more h row.1.function.body (c.function row.1.function).body (con_types row.1.cons)
    (con_types (map (changed_con c) row.1.cons)) (r.function row.1.function) (cons_alike h c r row.1.cons))
    (types_alike h c r rows)

values_alike : (h : TyName → TyName) (c : Change) → Renames h c → (vs : Table ValueEntry)
    → Alike h (types_in_values vs) (types_in_values (each_row (changed_value c) vs))
values_alike h c r [] = refl
values_alike h c r (row ∷ rows) = alike_more h row.1.scheme.body (c.scheme row.1.scheme).body (types_in_values rows)
    (types_in_values (each_row (changed_value c) rows)) (r.scheme row.1.scheme) (values_alike h c r rows)

mutual
  env_alike : (h : TyName → TyName) (c : Change) → Renames h c → (env : Env)
      → Alike h (types_in env) (types_in (changed c env))
  env_alike h c r (Env.MakeEnv ss ts vs) = alike_both h (types_in_structures ss) (types_in_types ts ++ types_in_values
      vs)
      (types_in_structures (changed_structures c ss))
      (types_in_types (each_row (changed_type c) ts) ++ types_in_values (each_row (changed_value c) vs))
      (structures_alike h c r ss)
      (alike_both h (types_in_types ts) (types_in_values vs) (types_in_types (each_row (changed_type c) ts))
      (types_in_values (each_row (changed_value c) vs)) (types_alike h c r ts) (values_alike h c r vs))

  structures_alike : (h : TyName → TyName) (c : Change) → Renames h c → (ss : Structures)
      → Alike h (types_in_structures ss) (types_in_structures (changed_structures c ss))
  structures_alike h c r Structures.Nil = refl
  structures_alike h c r (Structures.Cons name env rest) = alike_both h (types_in env) (types_in_structures rest)
      (types_in (changed c env)) (types_in_structures (changed_structures c rest)) (env_alike h c r env)
      (structures_alike h c r rest)

-- ---- the two changes

abbrev function_of : ℕ → Tree → TypeFn
function_of arity body = record { arity = arity; body = body }

to_canonical_renames : (h : TyName → TyName) → Renames h (to_canonical h)
to_canonical_renames h = record {
  function = λ x. renamed_names h x.body;
  scheme = λ σ. plug_names (λ i. place_of i (bound_in (renamed h σ.body) [])) (renamed h σ.body)
      ∙ renamed_names h σ.body;
}

renumbering_renames : (h : TyName → TyName) → Renames h (by_types (renamed h))
renumbering_renames h = record {
  function = λ x. renamed_names h x.body;
  scheme = λ σ. renamed_names h σ.body;
}

abbrev Always : Tree → Type 0
Always t = Unit {0}

-- an environment after another one: its names are renamed, and what it becomes with other names is known of the first
pub record Follows (h : TyName → TyName) (env other : Env) : Type 0 where
  pub names : names_in_env other ≡ map h (names_in_env env)
  pub form : (k : TyName → TyName) → canonical_env k other ≡ canonical_env (λ n. k (h n)) env

pub canonical_follows : (h : TyName → TyName) (env : Env) → Follows h env (canonical_env h env)
canonical_follows h env = record {
  names = env_alike h (to_canonical h) (to_canonical_renames h) env;
  form = λ k. changed_followed (to_canonical h) (to_canonical k) env
      ∙ changed_agree Always (followed (to_canonical h) (to_canonical k)) (to_canonical (λ n. k (h n)))
      (record {
        function = λ x _. ap (function_of x.arity) (renamed_twice h k x.body);
        scheme = λ σ _. form_twice h k σ;
      }) env (each_always Always (λ t. tt) (types_in env));
}

pub renumbered_follows : (h : TyName → TyName) (env : Env) → Follows h env (renumbered_env h env)
renumbered_follows h env = record {
  names = env_alike h (by_types (renamed h)) (renumbering_renames h) env;
  form = λ k. changed_followed (by_types (renamed h)) (to_canonical k) env
      ∙ changed_agree Always (followed (by_types (renamed h)) (to_canonical k)) (to_canonical (λ n. k (h n)))
      (record {
        function = λ x _. ap (function_of x.arity) (renamed_twice h k x.body);
        scheme = λ σ _. ap (λ t. canonical_scheme (let τ : TypeScheme = record { marks = σ.marks; body = t } in τ))
            (renamed_twice h k σ.body);
      }) env (each_always Always (λ t. tt) (types_in env));
}

-- ---- renamings that agree on the names of an environment

mutual
  pub renamed_agrees : (h k : TyName → TyName) (t : Tree) → Named (λ n. h n ≡ k n) (names_in t)
      → renamed h t ≡ renamed k t
  renamed_agrees h k (Tree.Bound i) e = refl
  renamed_agrees h k (Tree.Free n) e = refl
  renamed_agrees h k (Tree.Made c ts) e = ap₂ Tree.Made
      (symbol_agrees c (named_left (λ n. h n ≡ k n) (names_of_symbol c) (names_in_all ts) e))
      (renamed_all_agree h k ts (named_right (λ n. h n ≡ k n) (names_of_symbol c) (names_in_all ts) e))
    where
      symbol_agrees : (c : Symbol) → Named (λ n. h n ≡ k n) (names_of_symbol c)
          → renamed_symbol h c ≡ renamed_symbol k c
      symbol_agrees symbol.Arrow e = refl
      symbol_agrees (symbol.Record labels) e = refl
      symbol_agrees (symbol.Name name) e = ap symbol.Name (named_first (λ n. h n ≡ k n) name [] e)

  renamed_all_agree : (h k : TyName → TyName) (ts : Trees) → Named (λ n. h n ≡ k n) (names_in_all ts)
      → renamed_all h ts ≡ renamed_all k ts
  renamed_all_agree h k Trees.Nil e = refl
  renamed_all_agree h k (Trees.Cons t ts) e = ap₂ Trees.Cons
      (renamed_agrees h k t (named_left (λ n. h n ≡ k n) (names_in t) (names_in_all ts) e))
      (renamed_all_agree h k ts (named_right (λ n. h n ≡ k n) (names_in t) (names_in_all ts) e))

pub form_agrees : (h k : TyName → TyName) (env : Env) → Named (λ n. h n ≡ k n) (names_in_env env)
    → canonical_env h env ≡ canonical_env k env
form_agrees h k env e = changed_agree (λ t. renamed h t ≡ renamed k t) (to_canonical h) (to_canonical k)
    (record {
      function = λ x i. ap (function_of x.arity) i;
      scheme = λ σ i. ap (λ t. canonical_scheme (let τ : TypeScheme = record { marks = σ.marks; body = t } in τ)) i;
    }) env (each_by_names (λ n. h n ≡ k n) (λ t. renamed h t ≡ renamed k t) (renamed_agrees h k) (types_in env) e)
