-- The law of names that are known while imports are read, as the public function states it.
use Rattle.std.specs.Prelude.{◌≡◌, ℕ, List, [], ◌++◌, filter, true}
use Rattle.std.specs.List.{list_all}
use Rattle.semantic_objects.specs.declared.name.TyName.{TyName}
use Rattle.realisation.specs.Names.{once}
use Rattle.interface_format.specs.Rules.{Agree, is_not_bound}
use Rattle.initial_basis.specs.Basis.{basis_type_names}
use Rattle.imported_interfaces.specs.Usable.{names_fit}
use Rattle.imported_interfaces.specs.Known.{fits, noted_all, Knows}

pub record KnownNamesFit : Type 0 where
  -- at first those of the basis are known
  pub first : Knows basis_type_names []
  -- each name of an interface fits to what is known, exactly where the conditions on the names that it writes hold
  pub is : (known earlier names : List TyName) (unit : List ℕ) → Knows known earlier
      → list_all (fits known unit) (once names) ≡ names_fit unit earlier (filter is_not_bound names)
  -- and then they are known as well
  pub then : (known earlier names : List TyName) (unit : List ℕ) → Knows known earlier
      → Agree (filter is_not_bound names) → names_fit unit earlier (filter is_not_bound names) ≡ true
      → Knows (noted_all known (once names)) (earlier ++ filter is_not_bound names)
