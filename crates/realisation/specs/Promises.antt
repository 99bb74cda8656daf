-- The laws of realisation, as the public functions of this crate state them.
use Rattle.std.specs.Prelude.{◌≡◌, true, None}
use Rattle.semantic_objects.specs.declared.name.TyName.{TyName}
use Rattle.semantic_objects.specs.Trees.{TypeScheme}
use Rattle.semantic_objects.specs.Environments.{Env}
use Rattle.unification.specs.Types.{Ty, Marks}
use Rattle.unification.specs.Instances.{IsInstance}
use Rattle.realisation.specs.Names.{names_in_env, is_listed}
use Rattle.realisation.specs.Realised.{Realisation, realised, realised_scheme, both, realised_ty, KeepsEquality}

-- what is put for names that don't occur changes nothing; realisations that agree on those that occur give the same;
-- two of them, one after the other, are one; and a type that is realised is an instance of the scheme that is realised
pub record RealisesTypes : Type 0 where
  pub untouched : (φ : Realisation) (env : Env)
      → ((name : TyName) → is_listed name (names_in_env env) ≡ true → φ name ≡ None) → realised φ env ≡ env
  pub agreeing : (φ ψ : Realisation) (env : Env)
      → ((name : TyName) → is_listed name (names_in_env env) ≡ true → φ name ≡ ψ name)
      → realised φ env ≡ realised ψ env
  pub twice : (φ ψ : Realisation) (env : Env) → realised ψ (realised φ env) ≡ realised (both φ ψ) env
  pub instances : (q : Marks) (φ : Realisation) (σ : TypeScheme) (t : Ty) → KeepsEquality q φ → IsInstance q σ t
      → IsInstance q (realised_scheme φ σ) (realised_ty φ t)
