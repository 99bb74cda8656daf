-- What a call of the reader answers, by the step of reading that it takes.
use Rattle.std.specs.Prelude.{◌≡◌, ℕ, List, Some, None, Result, Ok, Err}
use Rattle.cm_bytes.specs.Fields.{Step}
use Rattle.cm_bytes.specs.declared.short.Short.{Short}

-- The value that the step reads, with the bytes that it leaves, or too few bytes and the place where it was.
abbrev pub Reads : {X A : Type 0} → (X → A) → Step A → Result X Short → List ℕ → List ℕ → Type 0
Reads value step (Ok x) old new = step old ≡ Some (value x, new)
Reads value step (Err short) old new = (step old ≡ None) × (new ≡ old)
