-- Why a call may answer that an object failed: the object's count of faults rose in that call.
use Rattle.std.specs.Prelude.{ℕ, ◌+◌, ◌-◌, ◌^◌, ◌≤◌, min}

-- the count rose, or stands at the greatest number that it can have
abbrev pub Rose : ℕ → ℕ → Type 0
Rose before now = min (before + 1) (2 ^ 64 - 1) ≤ now

-- a count that never falls, and that rose where the call answers so
pub record HasCause (before now : ℕ) (failed : Type 0) : Type 0 where
  pub later : before ≤ now
  pub rose : failed → Rose before now

-- one more call, up to the greatest number
abbrev pub one_more : ℕ → ℕ
one_more count = min (count + 1) (2 ^ 64 - 1)
