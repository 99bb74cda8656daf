-- Steps of reading that are put together from others, and what it is for a step to be exact.
use Rattle.std.specs.Prelude.{ℕ, List, Option, Some, None, nat_eq, if◌then◌else◌}
use Rattle.cm_bytes.specs.Fields.{Step, ◌>>=◌, IsReadAgain, ReadsSpelled, byte_at}

-- what was read, made into something else
abbrev pub turned : {A B : Type 0} → (A → B) → A × List ℕ → Option (B × List ℕ)
turned f x = Some (f x.0, x.1)

-- what a step reads, made into something else
unfoldable pub made : {A B : Type 0} → (A → B) → Step A → Step B
made f item_at bytes = item_at bytes >>= turned f

-- what was read, beside what is read after it
abbrev pub beside : {A B : Type 0} → Step B → A × List ℕ → Option ((A × B) × List ℕ)
beside b_at x = b_at x.1 >>= turned (λ y. (x.0, y))

-- one step and then another
unfoldable pub both : {A B : Type 0} → Step A → Step B → Step (A × B)
both a_at b_at bytes = a_at bytes >>= beside b_at

-- a step for each tag
abbrev pub Table : Type 0 → Type 0
Table A = ℕ → Step A

-- no tag is known
abbrev pub no_tag : {A : Type 0} → Table A
no_tag tag bytes = None

-- one tag more, and what is read after it
unfoldable pub or_tag : {A : Type 0} → ℕ → Step A → Table A → Table A
or_tag t item_at others tag = if nat_eq tag t then item_at else others tag

-- the step that reads a tag and then what belongs to it
unfoldable pub tagged : {A : Type 0} → Table A → Step A
tagged table bytes = byte_at bytes >>= λ tag. table tag.0 tag.1

-- the step that reads nothing
abbrev pub nothing_at : Step (Unit {0})
nothing_at bytes = Some (tt, bytes)

-- what is read after the byte that says whether something is there
abbrev pub option_table : {A : Type 0} → Step A → Table (Option A)
option_table item_at = or_tag 0 (made (λ x. None) nothing_at) (or_tag 1 (made Some item_at) no_tag)

-- the step that reads what may be absent
unfoldable pub option_at : {A : Type 0} → Step A → Step (Option A)
option_at item_at = tagged (option_table item_at)

-- a step reads exactly what is spelled so: what fits is read again, and what is read is spelled so and fits
pub record IsExact {A : Type 0} (item_of : A → List ℕ) (item_at : Step A) (Fits : A → Type 0) : Type 0 where
  pub again : (x : A) → Fits x → IsReadAgain item_of item_at x
  pub spelled : ReadsSpelled item_of item_at Fits
