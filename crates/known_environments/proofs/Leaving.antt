-- Variables that are left.
use Rattle.std.proofs.Common.{◌≡◌, refl, sym, ap, ap₂, ◌∙◌, subst, List, [], ◌∷◌, Bool, true, false, ◌||◌, length}
use Rattle.std.specs.Prelude.{Err}
use Rattle.std.specs.List.{list_any}
use Rattle.cm_base.specs.declared.fault.Fault.{Fault}
use Rattle.sml_trees.specs.declared.name.Name.{Name}
use Rattle.semantic_objects.specs.Trees.{Tree}
use Rattle.semantic_objects.specs.Environments.{Env}
use Rattle.env_parts.specs.declared.facts.Facts.{Facts}
use Rattle.env_parts.specs.Types.{holds_free, facts_of, types_in}
use Rattle.type_nodes.specs.Tables.{Table, state}
use Rattle.sml_modules.specs.declared.id.EnvId.{EnvId}
use Rattle.sml_modules.specs.Graphs.{Graph, GivesEnv}
use Rattle.known_environments.specs.Grows.{GrowsByNodes}
use Rattle.static_semantics.specs.Inferring.{Progress, Scope, Answer, ◌>>=◌, gives, refuses_where, name_at}
use Rattle.static_semantics.specs.EnvironmentsPut.{put_env}
use Rattle.type_phrases.specs.Inferred.{Answers, Refuses, progress}
use Rattle.type_phrases.proofs.Steps.{refused}
use Rattle.unit_semantics.specs.UnitInference.{without_variables}

free_in : (ts : List Tree) → (facts_of ts).has_free ≡ list_any holds_free ts
free_in [] = refl
free_in (t ∷ ts) = ap (λ b. holds_free t || b) (free_in ts)

told : (t : Table) (g : Graph) (env known : Env) (facts : Facts) (b : Bool) → known ≡ put_env (state t).stands env
    → facts ≡ facts_of (types_in known) → facts.has_free ≡ b
    → list_any holds_free (types_in (put_env (state t).stands env)) ≡ b
told t g env known facts b k f h =
    ap (λ (e : Env). list_any holds_free (types_in e)) (sym k)
    ∙ sym (free_in (types_in known)) ∙ sym (ap (λ (x : Facts). x.has_free) f) ∙ h

progress_same : (t u : Table) (g h : Graph) → u ≡ t → h.made ≡ g.made → progress t g ≡ progress u h
progress_same t u g h e m = ap₂ (λ (x : Table) n. let p : Progress = record { types = state x; names = n } in p)
    (sym e) (ap length (sym m))

pub none_left : (t u : Table) (g h : Graph) (inner : Scope) (name : Name) (env known : Env) (facts : Facts)
    → known ≡ put_env (state t).stands env → facts ≡ facts_of (types_in known) → facts.has_free ≡ false
    → u ≡ t → h.made ≡ g.made
    → without_variables inner name (env, progress t g) ≡ gives (known, progress u h)
none_left t u g h inner name env known facts k f n e m =
    ap (λ b. refuses_where b 42 inner (name_at name)
    >>= λ v. gives (put_env (state t).stands env, progress t g)) (told t g env known facts false k f n)
    ∙ ap₂ (λ (x : Env) (p : Progress). gives (x, p)) (sym k) (progress_same t u g h e m)

pub one_left : {R : Type 0} (t : Table) (g h : Graph) (inner : Scope) (name : Name) (env known : Env) (facts : Facts)
    (read : R → Env × Progress) (e : Fault) → known ≡ put_env (state t).stands env → facts ≡ facts_of (types_in known)
    → facts.has_free ≡ true → inner.home ≡ h.home → Refuses h 42 (name_at name) [] e
    → Answers (without_variables inner name (env, progress t g)) read (Err e)
one_left t g h inner name env known facts read e k f n home r =
    subst (λ (w : Answer (Env × Progress)). Answers w read (Err e))
    (sym (ap (λ b. refuses_where b 42 inner (name_at name)
    >>= λ v. gives (put_env (state t).stands env, progress t g)) (told t g env known facts true k f n)))
    (refused h inner 42 (name_at name) [] read e home r)

-- ---- graphs that grow

pub grows_none : (g : Graph) → GrowsByNodes g g
grows_none g = record {
  keeps = record {
    has_env = λ id h. h;
    env = λ id h. refl;
    has_signature = λ id h. h;
    signature = λ id h. refl;
    has_functor = λ id h. h;
    functor = λ id h. refl;
    has_top = λ id h. h;
    top = λ id h. refl;
  };
  home = refl;
  made = refl;
}

pub grows_same : (g h : Graph) → h ≡ g → GrowsByNodes g h
grows_same g h e = subst (GrowsByNodes g) (sym e) (grows_none g)

pub grows_env : (g h : Graph) (env : Env) (id : EnvId) → GivesEnv g h env id → GrowsByNodes g h
grows_env g h env id a = record { keeps = a.keeps; home = a.home; made = a.made }
