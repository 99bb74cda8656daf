-- Environments of structures under a choice, and what is in scope.
use Rattle.std.proofs.Common.{◌≡◌, ℕ, List, [], ◌∷◌, refl, sym, ap, ◌∙◌, Option, Some, None, false}
use Rattle.std.specs.Option.{is_some}
use Rattle.semantic_objects.specs.Tables.{Table, entry, with_entry}
use Rattle.semantic_objects.specs.Environments.{Env, Structures, Functor, Top, table_of, structures_of, structures, with_structure}
use Rattle.unification.specs.Types.{Substitution}
use Rattle.static_semantics.specs.Inferring.{found_at}
use Rattle.static_semantics.specs.EnvironmentsPut.{put_type, put_value, each_entry, put_env, put_structures}
use Rattle.static_semantics.specs.Holding.{IfSome}
use Rattle.phrase_laws.proofs.Finding.{no_entry_put, with_entry_put, structures_put, modified_put}
use Rattle.unit_semantics.specs.StructureInference.{top_under}
use Rattle.unit_semantics.specs.Promises.{IsClosedFunctor}
use Rattle.module_laws.specs.Derived.{top_under_choice}

structures_of_put : (s : Substitution) (rows : Table Env)
    → structures_of (each_entry (put_env s) rows) ≡ put_structures s (structures_of rows)
structures_of_put s [] = refl
structures_of_put s (row ∷ rows) = ap (Structures.Cons row.0 (put_env s row.1)) (structures_of_put s rows)

pub with_structure_put : (s : Substitution) (name : List ℕ) (x env : Env)
    → with_structure name (put_env s x) (put_env s env) ≡ put_env s (with_structure name x env)
with_structure_put s name x (Env.MakeEnv ss ts vs) =
    ap (λ z. Env.MakeEnv z (each_entry (put_type s) ts) (each_entry (put_value s) vs))
    (ap (λ rows. structures_of (with_entry name (put_env s x) rows)) (structures_put s (Env.MakeEnv ss ts vs))
    ∙ ap structures_of (with_entry_put (put_env s) name x (table_of ss))
    ∙ structures_of_put s (with_entry name x (table_of ss)))

-- what isn't there
pub not_there : {A : Type 0} (o : Option A) → is_some o ≡ false → o ≡ None
not_there None h = refl
not_there (Some x) h = absurd (cc)

pub no_structure : (s : Substitution) (name : List ℕ) (env : Env) → is_some (entry name (structures env)) ≡ false
    → entry name (structures (put_env s env)) ≡ None
no_structure s name env h = ap (entry name) (structures_put s env)
    ∙ no_entry_put (put_env s) name (structures env) (not_there (entry name (structures env)) h)

-- what is in scope after a declaration, under a choice
pub under_choice : (s : Substitution) (made : Env) (top : Top)
    → top_under_choice s (top_under made top) ≡ top_under (put_env s made) (top_under_choice s top)
under_choice s made top = ap (λ (env : Env). (let x : Top = record {
  env = env;
  signatures = top.signatures;
  functors = top.functors;
  funsigs = top.funsigs;
} in x)) (sym (modified_put s top.env made))

-- ---- what is found

pub record StructureFound (env : Env) (path : List (List ℕ)) (found : Env) : Type 0 where
  pub is : found_at structures path env ≡ Some found

pub structure_found : (env : Env) (path : List (List ℕ)) (o : Option Env) → found_at structures path env ≡ o
    → IfSome (StructureFound env path) o
structure_found env path None e = tt
structure_found env path (Some found) e = record { is = e }

pub record FunctorFound (rows : Table Functor) (name : List ℕ) (fun : Functor) : Type 0 where
  pub is : entry name rows ≡ Some fun
  pub closed : IsClosedFunctor fun

pub functor_found : (rows : Table Functor) (name : List ℕ) (o : Option Functor) → entry name rows ≡ o
    → IfSome IsClosedFunctor o → IfSome (FunctorFound rows name) o
functor_found rows name None e h = tt
functor_found rows name (Some fun) e h = record { is = e; closed = h }
