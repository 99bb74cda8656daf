-- Other numbers for the type names of a unit, for those that a signature or a functor binds, and for the variables of
-- schemes: what two trees that differ in nothing else differ in.
use Rattle.std.specs.Prelude.{◌≡◌, ℕ, map, Bool, true, false}
use Rattle.semantic_objects.specs.declared.name.TyName.{TyName}
use Rattle.semantic_objects.specs.Trees.{Tree, TypeScheme, binds}
use Rattle.semantic_objects.specs.Environments.{Env, Signature, Functor, Top}
use Rattle.unification.specs.Closing.{plug}
use Rattle.unification.specs.Instances.{mark_of}
use Rattle.realisation.specs.Environments.{by_types, changed, each_row}
use Rattle.realisation.specs.Canonical.{renamed, with_number}

-- names with other numbers: those that are asked for alone, and no two get one number
pub record Renumbers (asked : TyName → Bool) (h : TyName → TyName) : Type 0 where
  pub keeps : (name : TyName) → h name ≡ with_number (h name).number name
  pub others : (name : TyName) → asked name ≡ false → h name ≡ name
  pub apart : (m n : TyName) → h m ≡ h n → m ≡ n

abbrev pub renumbered_env : (TyName → TyName) → Env → Env
renumbered_env h env = changed (by_types (renamed h)) env

abbrev pub renumbered_signature : (TyName → TyName) → Signature → Signature
renumbered_signature h sig = record { bound = map h sig.bound; env = renumbered_env h sig.env }

abbrev pub renumbered_functor : (TyName → TyName) → Functor → Functor
renumbered_functor h fun = record {
  bound = map h fun.bound;
  param = renumbered_env h fun.param;
  further = map h fun.further;
  result = renumbered_env h fun.result;
}

abbrev pub renumbered_top : (TyName → TyName) → Top → Top
renumbered_top h top = record {
  env = renumbered_env h top.env;
  signatures = each_row (renumbered_signature h) top.signatures;
  functors = each_row (renumbered_functor h) top.functors;
  funsigs = each_row (renumbered_functor h) top.funsigs;
}

-- a scheme with other numbers for its variables, each with the mark that it had
pub record RenumbersVariables (f : ℕ → ℕ) (σ τ : TypeScheme) : Type 0 where
  pub body : τ.body ≡ plug (λ i. Tree.Bound (f i)) σ.body
  pub marks : (i : ℕ) → binds i σ.body ≡ true → mark_of τ.marks (f i) ≡ mark_of σ.marks i
  pub apart : (i j : ℕ) → binds i σ.body ≡ true → binds j σ.body ≡ true → f i ≡ f j → i ≡ j
