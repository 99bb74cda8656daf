-- An environment that meets the rules of interfaces is its own canonical form, where each name stays.
use Rattle.std.proofs.Common.{◌≡◌, ℕ, refl, sym, ap, ap₂, ◌∙◌, List, [], ◌∷◌, map, Bool, All}
use Rattle.std.proofs.lemmas.List.Elements.{All-head, All-tail}
use Rattle.semantic_objects.specs.declared.name.TyName.{TyName}
use Rattle.semantic_objects.specs.declared.entry.ConEntry.{ConEntry}
use Rattle.semantic_objects.specs.declared.entry.TypeFn.{TypeFn}
use Rattle.semantic_objects.specs.declared.entry.TypeStr.{TypeStr}
use Rattle.semantic_objects.specs.declared.entry.ValueEntry.{ValueEntry}
use Rattle.semantic_objects.specs.Tables.{Table}
use Rattle.semantic_objects.specs.Trees.{Tree, TypeScheme}
use Rattle.semantic_objects.specs.Environments.{Env, Structures}
use Rattle.unification.specs.Closing.{canonical_scheme}
use Rattle.realisation.specs.Names.{names_in_env}
use Rattle.realisation.specs.Environments.{changed_con, changed_type, changed_value, each_row, changed, changed_structures}
use Rattle.realisation.specs.Canonical.{to_canonical, canonical_env}
use Rattle.realisation.proofs.Listing.{Named}
use Rattle.interface_format.specs.Rules.{IsClosed, IsTypeRow, IsValueRow, IsEnv, AreEnvs}
use Rattle.canonical_laws.proofs.Envs.{form_agrees}
use Rattle.interface_laws.proofs.Schemes.{as_it_is, closed_same, renamed_same}

abbrev scheme_of : List Bool → Tree → TypeScheme
scheme_of marks body = record { marks = marks; body = body }

scheme_same : (σ : TypeScheme) → IsClosed σ → (to_canonical as_it_is).scheme σ ≡ σ
scheme_same σ h = ap (λ (t : Tree). canonical_scheme (scheme_of σ.marks t)) (renamed_same σ.body) ∙ closed_same σ h

abbrev function_of : ℕ → Tree → TypeFn
function_of arity body = record { arity = arity; body = body }

function_same : (f : TypeFn) → (to_canonical as_it_is).function f ≡ f
function_same f = ap (function_of f.arity) (renamed_same f.body)

abbrev con_of : List ℕ → TypeScheme → ConEntry
con_of name scheme = record { name = name; scheme = scheme }

cons_same : (cons : List ConEntry) → All (λ (con : ConEntry). IsClosed con.scheme) cons
    → map (changed_con (to_canonical as_it_is)) cons ≡ cons
cons_same [] h = refl
cons_same (con ∷ cons) h =
    ap₂ (λ (c : ConEntry) cs. c ∷ cs)
    (ap (con_of con.name) (scheme_same con.scheme (All-head (λ (c : ConEntry). IsClosed c.scheme) con cons h)))
    (cons_same cons (All-tail (λ (c : ConEntry). IsClosed c.scheme) con cons h))

abbrev type_of : TypeFn → List ConEntry → TypeStr
type_of function cons = record { function = function; cons = cons }

types_same : (ts : Table TypeStr) → All IsTypeRow ts → each_row (changed_type (to_canonical as_it_is)) ts ≡ ts
types_same [] h = refl
types_same (row ∷ rows) h =
    ap₂ (λ (x : TypeStr) xs. (row.0, x) ∷ xs)
    (ap₂ type_of (function_same row.1.function) (cons_same row.1.cons (All-head IsTypeRow row rows h).cons))
    (types_same rows (All-tail IsTypeRow row rows h))

abbrev value_of : ValueEntry → TypeScheme → ValueEntry
value_of value scheme = record { status = value.status; scheme = scheme }

values_same : (vs : Table ValueEntry) → All IsValueRow vs → each_row (changed_value (to_canonical as_it_is)) vs ≡ vs
values_same [] h = refl
values_same (row ∷ rows) h =
    ap₂ (λ (x : ValueEntry) xs. (row.0, x) ∷ xs)
    (ap (value_of row.1) (scheme_same row.1.scheme (All-head IsValueRow row rows h)))
    (values_same rows (All-tail IsValueRow row rows h))

mutual
  env_as_it_is : (env : Env) → IsEnv env → changed (to_canonical as_it_is) env ≡ env
  env_as_it_is (Env.MakeEnv ss ts vs) h =
      ap (λ (s : Structures). Env.MakeEnv s (each_row (changed_type (to_canonical as_it_is)) ts)
      (each_row (changed_value (to_canonical as_it_is)) vs)) (structures_as_they_are ss h.1)
      ∙ ap₂ (λ (t : Table TypeStr) (v : Table ValueEntry). Env.MakeEnv ss t v) (types_same ts h.0.types)
      (values_same vs h.0.values)

  structures_as_they_are : (ss : Structures) → AreEnvs ss → changed_structures (to_canonical as_it_is) ss ≡ ss
  structures_as_they_are Structures.Nil h = refl
  structures_as_they_are (Structures.Cons name env rest) h =
      ap₂ (λ (e : Env) (s : Structures). Structures.Cons name e s) (env_as_it_is env h.0)
      (structures_as_they_are rest h.1)

pub env_same : (h : TyName → TyName) (env : Env) → IsEnv env → Named (λ n. h n ≡ n) (names_in_env env)
    → canonical_env h env ≡ env
env_same h env is stays = form_agrees h as_it_is env stays ∙ env_as_it_is env is
