-- Diagnostics at a place.
use Rattle.std.specs.Prelude.{◌≡◌, ℕ, List}
use Rattle.cm_base.specs.declared.diag.Place.{Place}
use Rattle.cm_base.specs.declared.fault.Fault.{Fault}
use Rattle.cm_base.specs.declared.fault.Fault.TheVariants as fault

-- the answer of a check that failed. Only private functions cite this
abbrev pub Refuses : Place → ℕ → List (List ℕ) → Fault → Type 0
Refuses place number names (fault.Diag diag) = diag ≡ record { number = number; at = place; names = names }
Refuses place number names fault.NoMemory = Unit {0}
