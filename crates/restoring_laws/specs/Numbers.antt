-- What numbers by first occurrence say of names, as the public function states it.
use Rattle.std.specs.Prelude.{ℕ, List, ◌++◌, filter, length}
use Rattle.semantic_objects.specs.declared.name.TyName.{TyName}
use Rattle.realisation.specs.Canonical.{met, is_own, is_bound_name}
use Rattle.interface_format.specs.Rules.{AreNumbered, Agree, is_not_bound, is_beyond}
use Rattle.canonical_interfaces.specs.Fair.{is_other}

-- names with numbers of their own agree on arity and equality, so that this is asked of other names alone
pub record NumberedNamesAgree : Type 0 where
  -- those of a signature
  pub signature : (names : List TyName) → AreNumbered 0 (met is_bound_name names) → Agree (filter is_bound_name names)
  -- those of a functor, with the further ones of its result
  pub functor : (param result : List TyName) → AreNumbered 0 (met is_bound_name param)
      → AreNumbered (length (met is_bound_name param)) (met (is_beyond (met is_bound_name param)) result)
      → Agree (filter is_bound_name (param ++ result))
  -- all names of a unit, where its own are numbered and the other ones agree
  pub unit : (home : List ℕ) (names : List TyName) → AreNumbered 0 (met (is_own home) names)
      → Agree (filter (is_other home) names) → Agree (filter is_not_bound names)
