-- Diagnostics that several crates give, and steps of work that a diagnostic ends.
use Rattle.std.specs.Prelude.{ℕ, List, [], Result, Ok, Err}
use Rattle.cm_base.specs.declared.diag.Diag.{Diag}

-- a diagnostic on a whole file, without names
abbrev pub whole_file : ℕ → List ℕ → Diag
whole_file number file = record { number = number; at = record { file = file; line = 0; col = 0 }; names = [] }

-- one step of work and then the next, up to the first refusal
infixl 10 ◌>>=◌
abbrev pub ◌>>=◌ : {A B : Type 0} → Result A Diag → (A → Result B Diag) → Result B Diag
(Ok value) >>= next = next value
(Err diag) >>= next = Err diag
