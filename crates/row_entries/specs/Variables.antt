-- The variables that stand in a type, and whether they are numbered by first occurrence.
use Rattle.std.specs.Prelude.{◌≡◌, ◌≢◌, ℕ, List, [], ◌++◌, Option, Some, None}
use Rattle.std.specs.List.{range_with_len}
use Rattle.semantic_objects.specs.Trees.{Tree}
use Rattle.semantic_objects.specs.Nodes.{AreBelow}
use Rattle.unification.specs.Closing.{is_among, bound_in}
use Rattle.name_walks.specs.Noting.{noted_all}
use Rattle.name_walks.specs.Visits.{variables_in}

-- the first variables were met, and these come next: so many are met then, or they aren't met in the order of numbers,
-- whatever comes behind them
abbrev pub NumbersOn : ℕ → List ℕ → Option ℕ → Type 0
NumbersOn count vs (Some n) = noted_all is_among (range_with_len 0 count) vs ≡ range_with_len 0 n
NumbersOn count vs None = (more : List ℕ) (n : ℕ)
    → noted_all is_among (range_with_len 0 count) (vs ++ more) ≢ range_with_len 0 n

-- the variables of a type are the first ones by first occurrence, so many of them
abbrev pub AreFirst : Tree → ℕ → Type 0
AreFirst t n = bound_in t [] ≡ range_with_len 0 n

-- the variables of a type are among the first ones
abbrev pub AreAmong : Tree → ℕ → Type 0
AreAmong t n = AreBelow n (variables_in t)

-- how many there are, or that they aren't in the order of numbers
abbrev pub CountsFirst : Tree → Option ℕ → Type 0
CountsFirst t (Some n) = AreFirst t n
CountsFirst t None = (n : ℕ) → AreFirst t n → ⊥
