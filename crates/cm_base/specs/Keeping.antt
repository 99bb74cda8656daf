-- What stays of a folder while files are written: each path that isn't written, and at a written path, where
-- a call failed, its old bytes, nothing, or a front of the new bytes.
use Rattle.std.specs.Prelude.{◌≡◌, ◌≢◌, ◌⊎◌, ℕ, Option, None, Some, List, Contains, take}
use Rattle.std.specs.FinMap.{get}
use Rattle.cm_base.specs.Files.{Files, Told}

-- each path outside the list is as it was
pub record Keeps (old new : Option Files) (paths : List (List ℕ)) : Type 0 where
  pub rest : Told old (λ before. (after : Files) × (new ≡ Some after)
      × ((q : List ℕ) → (Contains paths q → ⊥) → get after q ≡ get before q))

-- a write of one file, whatever its answer: each other path is as it was, and this one has its old bytes,
-- nothing, or a front of the new bytes
pub record Touches (old new : Option Files) (path bytes : List ℕ) : Type 0 where
  pub rest : Told old (λ before. (after : Files) × (new ≡ Some after)
      × ((q : List ℕ) → q ≢ path → get after q ≡ get before q)
      × ((get after path ≡ get before path) ⊎ ((get after path ≡ None) ⊎ ((n : ℕ) × (get after path ≡ Some (take n bytes))))))
