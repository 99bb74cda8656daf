-- Environments in which no variable of a table stands.
use Rattle.std.proofs.Common.{◌≡◌, ℕ, List, [], ◌∷◌, map, refl, ap, ap₂, ◌∙◌, true, false, eqb}
use Rattle.std.proofs.lemmas.Bool.{eq-eqb}
use Rattle.semantic_objects.specs.declared.entry.ConEntry.{ConEntry}
use Rattle.semantic_objects.specs.declared.entry.TypeStr.{TypeStr}
use Rattle.semantic_objects.specs.declared.entry.ValueEntry.{ValueEntry}
use Rattle.semantic_objects.specs.Tables.{Table}
use Rattle.semantic_objects.specs.Trees.{Tree, Trees, frees, frees_any}
use Rattle.semantic_objects.specs.Environments.{Env, Structures}
use Rattle.unification.specs.Types.{Substitution}
use Rattle.unification.specs.Closing.{put_tree, put_trees}
use Rattle.unification.proofs.Walking.{or_false_left, or_false_right}
use Rattle.env_parts.specs.Types.{holds_free, any_holds_free}
use Rattle.static_semantics.specs.EnvironmentsPut.{put_con, put_type, put_value, each_entry, put_env, put_structures}
use Rattle.static_semantics.specs.Holding.{AllItems, AllRows, ConHas, TypeHas, ValueHas, StructuresHave}
use Rattle.inference_laws.specs.Naming.{RowsWith, StructuresWith}
use Rattle.inference_laws.specs.Alike.{is_variable_tree, IsFirm, FirmType, FirmValue, AnyName, FirmEnv}
use Rattle.unit_semantics.specs.Promises.{IsClosedScheme, IsClosedFunction, IsClosedEnv}
use Rattle.unit_semantics.proofs.Closed.{neither}

-- ---- types

not_itself : (n : ℕ) → eqb n n ≡ false → ⊥
not_itself n h = let k : eqb n n ≡ true = eq-eqb n n refl in absurd (cc)

mutual
  pub none_free : (t : Tree) → IsFirm t → holds_free t ≡ false
  none_free (Tree.Bound i) h = refl
  none_free (Tree.Free n) h = absurd (not_itself n (h n))
  none_free (Tree.Made c ts) h = none_free_in ts h

  none_free_in : (ts : Trees) → ((n : ℕ) → frees_any n ts ≡ false) → any_holds_free ts ≡ false
  none_free_in Trees.Nil h = refl
  none_free_in (Trees.Cons t ts) h = neither (holds_free t) (any_holds_free ts)
      (none_free t (λ n. or_false_left (frees n t) (frees_any n ts) (h n)))
      (none_free_in ts (λ n. or_false_right (frees n t) (frees_any n ts) (h n)))

mutual
  pub free_none : (t : Tree) → holds_free t ≡ false → IsFirm t
  free_none (Tree.Bound i) h n = refl
  free_none (Tree.Free m) h n = absurd (cc)
  free_none (Tree.Made c ts) h n = free_none_in ts h n

  free_none_in : (ts : Trees) → any_holds_free ts ≡ false → (n : ℕ) → frees_any n ts ≡ false
  free_none_in Trees.Nil h n = refl
  free_none_in (Trees.Cons t ts) h n = neither (frees n t) (frees_any n ts)
      (free_none t (or_false_left (holds_free t) (any_holds_free ts) h) n)
      (free_none_in ts (or_false_right (holds_free t) (any_holds_free ts) h) n)

mutual
  pub tree_stays : (s : Substitution) (t : Tree) → holds_free t ≡ false → put_tree s t ≡ t
  tree_stays s (Tree.Bound i) h = refl
  tree_stays s (Tree.Free n) h = absurd (cc)
  tree_stays s (Tree.Made c ts) h = ap (Tree.Made c) (trees_stay s ts h)

  trees_stay : (s : Substitution) (ts : Trees) → any_holds_free ts ≡ false → put_trees s ts ≡ ts
  trees_stay s Trees.Nil h = refl
  trees_stay s (Trees.Cons t ts) h = ap₂ Trees.Cons
      (tree_stays s t (or_false_left (holds_free t) (any_holds_free ts) h))
      (trees_stay s ts (or_false_right (holds_free t) (any_holds_free ts) h))

not_variable : (t : Tree) → holds_free t ≡ false → is_variable_tree t ≡ false
not_variable (Tree.Bound i) h = refl
not_variable (Tree.Free n) h = absurd (cc)
not_variable (Tree.Made c ts) h = refl

-- ---- they stay what they are, whatever is put in

cons_stay : (s : Substitution) (cons : List ConEntry) → AllItems (ConHas IsClosedScheme) cons
    → map (put_con s) cons ≡ cons
cons_stay s [] h = refl
cons_stay s (con ∷ cons) h = ap₂ (λ (body : Tree) (rest : List ConEntry).
    (let x : ConEntry = record { name = con.name; scheme = record { marks = con.scheme.marks; body = body } } in x) ∷ rest)
    (tree_stays s con.scheme.body h.0) (cons_stay s cons h.1)

pub type_stays : (s : Substitution) (str : TypeStr) → TypeHas IsClosedScheme IsClosedFunction str → put_type s str ≡ str
type_stays s str h = ap₂ (λ (body : Tree) (cons : List ConEntry).
    (let x : TypeStr = record { function = record { arity = str.function.arity; body = body }; cons = cons } in x))
    (tree_stays s str.function.body h.0) (cons_stay s str.cons h.1)

value_stays : (s : Substitution) (value : ValueEntry) → ValueHas IsClosedScheme value → put_value s value ≡ value
value_stays s value h = ap (λ (body : Tree).
    (let x : ValueEntry = record { status = value.status; scheme = record { marks = value.scheme.marks; body = body } } in
    x)) (tree_stays s value.scheme.body h)

rows_stay : {A : Type 0} (R : A → Type 0) (f : A → A) (rows : Table A) → ((x : A) → R x → f x ≡ x) → AllRows R rows
    → each_entry f rows ≡ rows
rows_stay R f [] g h = refl
rows_stay R f (row ∷ rows) g h = ap₂ (λ x rest. (row.0, x) ∷ rest) (g row.1 h.0) (rows_stay R f rows g h.1)

mutual
  pub env_stays : (s : Substitution) (env : Env) → IsClosedEnv env → put_env s env ≡ env
  env_stays s (Env.MakeEnv ss ts vs) h =
      ap (λ z. Env.MakeEnv z (each_entry (put_type s) ts) (each_entry (put_value s) vs)) (structures_stay s ss h.0)
      ∙ ap₂ (Env.MakeEnv ss)
      (rows_stay (TypeHas IsClosedScheme IsClosedFunction) (put_type s) ts (type_stays s) h.1)
      (rows_stay (ValueHas IsClosedScheme) (put_value s) vs (value_stays s) h.2)

  structures_stay : (s : Substitution) (ss : Structures) → StructuresHave IsClosedScheme IsClosedFunction ss
      → put_structures s ss ≡ ss
  structures_stay s Structures.Nil h = refl
  structures_stay s (Structures.Cons name env rest) h =
      ap₂ (λ e rest. Structures.Cons name e rest) (env_stays s env h.0) (structures_stay s rest h.1)

-- ---- they are firm, and what is firm is closed

cons_firm : (cons : List ConEntry) → AllItems (ConHas IsClosedScheme) cons
    → AllItems (λ (con : ConEntry). IsFirm con.scheme.body) cons
cons_firm [] h = tt
cons_firm (con ∷ cons) h = (free_none con.scheme.body h.0, cons_firm cons h.1)

types_firm : (ts : Table TypeStr) → AllRows (TypeHas IsClosedScheme IsClosedFunction) ts → RowsWith AnyName FirmType ts
types_firm [] h = tt
types_firm (row ∷ rows) h =
    (tt, (free_none row.1.function.body h.0.0, cons_firm row.1.cons h.0.1), types_firm rows h.1)

values_firm : (vs : Table ValueEntry) → AllRows (ValueHas IsClosedScheme) vs → RowsWith AnyName FirmValue vs
values_firm [] h = tt
values_firm (row ∷ rows) h = (tt, (λ e. not_variable row.1.scheme.body h.0), values_firm rows h.1)

mutual
  pub closed_firm : (env : Env) → IsClosedEnv env → FirmEnv env
  closed_firm (Env.MakeEnv ss ts vs) h = (structures_firm ss h.0, types_firm ts h.1, values_firm vs h.2)

  structures_firm : (ss : Structures) → StructuresHave IsClosedScheme IsClosedFunction ss
      → StructuresWith AnyName FirmType FirmValue ss
  structures_firm Structures.Nil h = tt
  structures_firm (Structures.Cons name env rest) h = (tt, closed_firm env h.0, structures_firm rest h.1)

cons_closed : (cons : List ConEntry) → AllItems (λ (con : ConEntry). IsFirm con.scheme.body) cons
    → AllItems (ConHas IsClosedScheme) cons
cons_closed [] h = tt
cons_closed (con ∷ cons) h = (none_free con.scheme.body h.0, cons_closed cons h.1)

pub firm_closed : (str : TypeStr) → FirmType str → TypeHas IsClosedScheme IsClosedFunction str
firm_closed str h = (none_free str.function.body h.0, cons_closed str.cons h.1)
