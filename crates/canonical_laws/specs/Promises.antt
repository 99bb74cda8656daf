-- The laws of the canonical form, as the public functions of this crate state them.
use Rattle.std.specs.Prelude.{◌≡◌, ℕ, List}
use Rattle.semantic_objects.specs.declared.name.TyName.{TyName}
use Rattle.semantic_objects.specs.Trees.{TypeScheme}
use Rattle.semantic_objects.specs.Environments.{Signature, Functor, Top}
use Rattle.unification.specs.Closing.{canonical_scheme}
use Rattle.realisation.specs.Canonical.{is_own, is_bound_name, canonical_signature, canonical_functor, canonical}
use Rattle.canonical_laws.specs.Renumbering.{Renumbers, renumbered_signature, renumbered_functor, renumbered_top, RenumbersVariables}

-- the canonical form of a canonical form is itself
pub record CanonicalIsCanonical : Type 0 where
  pub again : (home : List ℕ) (top : Top) → canonical home (canonical home top) ≡ canonical home top

-- so that it hangs on nothing else: other numbers for the unit's own names change nothing, nor do other numbers for the
-- names that a signature or a functor binds, whatever becomes of the unit's own, nor for the variables of a scheme
pub record NumbersChangeNothing : Type 0 where
  pub own : (home : List ℕ) (top : Top) (h : TyName → TyName) → Renumbers (is_own home) h
      → canonical home (renumbered_top h top) ≡ canonical home top
  pub of_signature : (own : TyName → TyName) (sig : Signature) (h : TyName → TyName) → Renumbers is_bound_name h
      → canonical_signature own (renumbered_signature h sig) ≡ canonical_signature own sig
  pub of_functor : (own : TyName → TyName) (fun : Functor) (h : TyName → TyName) → Renumbers is_bound_name h
      → canonical_functor own (renumbered_functor h fun) ≡ canonical_functor own fun
  pub of_scheme : (f : ℕ → ℕ) (σ τ : TypeScheme) → RenumbersVariables f σ τ → canonical_scheme τ ≡ canonical_scheme σ
