-- What is noted of units on cycles. Only private functions cite this file.
use Rattle.std.specs.Prelude.{◌≡◌, ℕ, ◌<◌, Bool, true, false, List, length, slice_index_or, Option, Some, None}
use Rattle.dependency_graph.specs.Cycle.{IsOnCycle, IsNotAfter}

-- the flag of a unit
abbrev pub flag_of : List Bool → ℕ → Bool
flag_of flags unit = slice_index_or flags unit false

-- the flags of the first units say which of them lie on a cycle
pub record AreOnCycles (edges : List (List ℕ)) (flags : List Bool) (count : ℕ) : Type 0 where
  pub counted : length flags ≡ count
  pub on : (unit : ℕ) → flag_of flags unit ≡ true → IsOnCycle edges unit
  pub off : (unit : ℕ) → unit < count → flag_of flags unit ≡ false → IsOnCycle edges unit → ⊥

-- of the first units with a flag the one with the least name
pub record IsLeast (names : List (List ℕ)) (flags : List Bool) (count unit : ℕ) : Type 0 where
  pub known : unit < count
  pub flagged : flag_of flags unit ≡ true
  pub least : (other : ℕ) → other < count → flag_of flags other ≡ true → IsNotAfter names unit other

-- the least of the first units with a flag, or none has one
abbrev pub IsLeastFlag : List (List ℕ) → List Bool → ℕ → Option ℕ → Type 0
IsLeastFlag names flags count None = (unit : ℕ) → unit < count → flag_of flags unit ≡ false
IsLeastFlag names flags count (Some unit) = IsLeast names flags count unit
