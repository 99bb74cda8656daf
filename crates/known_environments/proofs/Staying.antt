-- What has no variable of a table in it stays, and what becomes of a whole environment.
use Rattle.std.proofs.Common.{◌≡◌, ℕ, refl, sym, ap, ap₂, ◌∙◌, List, [], ◌∷◌, map, Bool, true, false, ◌||◌}
use Rattle.std.specs.Prelude.{not}
use Rattle.semantic_objects.specs.declared.entry.ConEntry.{ConEntry}
use Rattle.semantic_objects.specs.declared.entry.TypeFn.{TypeFn}
use Rattle.semantic_objects.specs.declared.entry.TypeStr.{TypeStr}
use Rattle.semantic_objects.specs.declared.entry.ValueEntry.{ValueEntry}
use Rattle.semantic_objects.specs.declared.entry.VidStatus.{VidStatus}
use Rattle.semantic_objects.specs.Trees.{Tree, Trees, TypeScheme}
use Rattle.semantic_objects.specs.Environments.{Env, Structures}
use Rattle.env_parts.specs.declared.facts.Facts.{Facts}
use Rattle.env_parts.specs.Types.{holds_free, any_holds_free, facts_of, con_types, type_types, value_types, types_in}
use Rattle.unification.specs.Types.{Substitution}
use Rattle.unification.specs.Closing.{put_tree, put_trees}
use Rattle.realisation.specs.Environments.{changed_con, changed_type, changed_value, changed, changed_structures}
use Rattle.realisation.proofs.Listing.{Each}
use Rattle.realisation.proofs.Changing.{changed_agree, changed_stays, stays}
use Rattle.realisation.proofs.Realising.{by_types_stays}
use Rattle.static_semantics.specs.EnvironmentsPut.{put_env, put_structures, put_type, put_value, each_entry}
use Rattle.environment_walks.specs.Changing.{KeepsAllWith}
use Rattle.known_environments.specs.Known.{putting}

or_first : (a b : Bool) → (a || b) ≡ false → a ≡ false
or_first false b h = refl
or_first true b h = absurd (cc)

or_second : (a b : Bool) → (a || b) ≡ false → b ≡ false
or_second false b h = h
or_second true b h = absurd (cc)

pub not_true : (b : Bool) → not b ≡ true → b ≡ false
not_true false h = refl
not_true true h = absurd (cc)

mutual
  put_stays : (s : Substitution) (t : Tree) → holds_free t ≡ false → put_tree s t ≡ t
  put_stays s (Tree.Bound i) h = refl
  put_stays s (Tree.Free n) h = absurd (cc)
  put_stays s (Tree.Made c ts) h = ap (Tree.Made c) (put_stays_all s ts h)

  put_stays_all : (s : Substitution) (ts : Trees) → any_holds_free ts ≡ false → put_trees s ts ≡ ts
  put_stays_all s Trees.Nil h = refl
  put_stays_all s (Trees.Cons t ts) h = ap₂ Trees.Cons
      (put_stays s t (or_first (holds_free t) (any_holds_free ts) h))
      (put_stays_all s ts (or_second (holds_free t) (any_holds_free ts) h))

each_stays : (s : Substitution) (ts : List Tree) → (facts_of ts).has_free ≡ false → Each (λ t. put_tree s t ≡ t) ts
each_stays s [] h = tt
each_stays s (t ∷ ts) h = (
  put_stays s t (or_first (holds_free t) (facts_of ts).has_free h),
  each_stays s ts (or_second (holds_free t) (facts_of ts).has_free h),
)

-- ---- entries

abbrev function_with : ℕ → Tree → TypeFn
function_with arity body = record { arity = arity; body = body }

abbrev scheme_with : List Bool → Tree → TypeScheme
scheme_with marks body = record { marks = marks; body = body }

abbrev con_with : List ℕ → TypeScheme → ConEntry
con_with name σ = record { name = name; scheme = σ }

abbrev type_with : TypeFn → List ConEntry → TypeStr
type_with function cons = record { function = function; cons = cons }

abbrev value_with : VidStatus → TypeScheme → ValueEntry
value_with status σ = record { status = status; scheme = σ }

cons_stay : (s : Substitution) (cons : List ConEntry) → Each (λ t. put_tree s t ≡ t) (con_types cons)
    → map (changed_con (putting s)) cons ≡ cons
cons_stay s [] h = refl
cons_stay s (con ∷ cons) h = ap₂ (λ x xs. x ∷ xs)
    (ap (con_with con.name) (ap (scheme_with con.scheme.marks) h.0))
    (cons_stay s cons h.1)

pub type_stays : (s : Substitution) (str : TypeStr) (facts : Facts) → facts ≡ facts_of (type_types str)
    → facts.has_free ≡ false → changed_type (putting s) str ≡ str
type_stays s str facts e h =
    let each : Each (λ t. put_tree s t ≡ t) (type_types str) =
    each_stays s (type_types str) (sym (ap (λ (f : Facts). f.has_free) e) ∙ h) in
    ap₂ type_with (ap (function_with str.function.arity) each.0) (cons_stay s str.cons each.1)

pub value_stays : (s : Substitution) (value : ValueEntry) (facts : Facts) → facts ≡ facts_of (value_types value)
    → facts.has_free ≡ false → changed_value (putting s) value ≡ value
value_stays s value facts e h =
    let each : Each (λ t. put_tree s t ≡ t) (value_types value) =
    each_stays s (value_types value) (sym (ap (λ (f : Facts). f.has_free) e) ∙ h) in
    ap (value_with value.status) (ap (scheme_with value.scheme.marks) each.0)

-- ---- environments

pub envs_stay : (s : Substitution) (facts : Facts) → facts.has_free ≡ false → KeepsAllWith (putting s) facts
envs_stay s facts h env e =
    changed_agree (λ t. put_tree s t ≡ t) (putting s) stays (by_types_stays (put_tree s)) env
    (each_stays s (types_in env) (ap (λ (f : Facts). f.has_free) e ∙ h))
    ∙ changed_stays env

mutual
  pub put_changed : (s : Substitution) (env : Env) → changed (putting s) env ≡ put_env s env
  put_changed s (Env.MakeEnv ss ts vs) =
      ap (λ z. Env.MakeEnv z (each_entry (put_type s) ts) (each_entry (put_value s) vs)) (puts_changed s ss)

  puts_changed : (s : Substitution) (ss : Structures) → changed_structures (putting s) ss ≡ put_structures s ss
  puts_changed s Structures.Nil = refl
  puts_changed s (Structures.Cons name env rest) =
      ap₂ (Structures.Cons name) (put_changed s env) (puts_changed s rest)
