-- The law of what interfaces say, as the public function states it.
use Rattle.std.specs.Prelude.{◌≡◌, ℕ, List}
use Rattle.semantic_objects.specs.Environments.{Top}
use Rattle.realisation.specs.Canonical.{canonical}
use Rattle.interface_format.specs.Interfaces.{CanBeWritten}

-- what can be written is its own canonical form
abbrev pub InterfacesAreCanonical : Type 0
InterfacesAreCanonical = (home : List ℕ) (top : Top) → CanBeWritten home top → canonical home top ≡ top
