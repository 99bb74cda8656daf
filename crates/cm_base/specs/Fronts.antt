-- Fronts of lists: how far a call came that was cut off.
use Rattle.std.specs.Prelude.{◌≡◌, List, ◌++◌}

-- a list is a front of another
abbrev pub IsFront : {A : Type 0} → List A → List A → Type 0
IsFront {A} front whole = (rest : List A) × (front ++ rest ≡ whole)

-- a list grew by a front of what was to be added
abbrev pub GrowsUpTo : {A : Type 0} → List A → List A → List A → Type 0
GrowsUpTo {A} old new added = (front : List A) × (new ≡ old ++ front) × IsFront front added
