-- The law, as the public function of this crate states it.
use Rattle.std.specs.Prelude.{◌≡◌, ℕ, List, Ok}
use Rattle.cm_base.specs.declared.record.Given.{Given}
use Rattle.semantic_objects.specs.Environments.{empty_top}
use Rattle.static_semantics.specs.Inferring.{Progress}
use Rattle.imported_interfaces.specs.Imported.{Imports, imported}
use Rattle.basis_laws.specs.Promises.{MayBeGiven}

-- where nothing may be given to a unit, what its imports give may be, whichever interfaces are handed in, if all can be
-- used: no name in them is the unit's own, their tables rise, and no variable stands in them
pub record ImportsMayBeGiven : Type 0 where
  pub given : (unit : List ℕ) (st : Progress) (imports : List Given) (made : Imports)
      → imported unit imports ≡ Ok made → MayBeGiven unit empty_top st → MayBeGiven unit made.top st
