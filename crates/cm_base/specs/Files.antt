-- What a folder holds: a finite map from paths to bytes. What an object tells of itself is an `Option`:
-- a folder over a disk tells nothing, and then nothing is said of its content.
use Rattle.std.specs.Prelude.{◌≡◌, ◌+◌, ℕ, Bool, false, not, Option, None, Some, List, [], ◌∷◌, filter, take}
use Rattle.std.specs.Ordering.{nat_cmp}
use Rattle.std.specs.Cmp.Lexicographic.{slice_cmp}
use Rattle.std.specs.List.{starts_with}
use Rattle.std.specs.FinMap.{FinMap, get, keys, retain_keys}
use Rattle.std.specs.Prelude.{nat_eq}

-- the files of a folder, by path in byte order
abbrev pub Files : Type 0
Files = FinMap (slice_cmp nat_cmp) (List ℕ)

-- a change of what is told; an object that tells nothing goes on to tell nothing
abbrev pub told : {A : Type 0} → (A → A) → Option A → Option A
told f None = None
told f (Some a) = Some (f a)

-- what holds of what is told
abbrev pub Told : {A : Type 0} → Option A → (A → Type 0) → Type 0
Told {A} holds P = (a : A) → holds ≡ Some a → P a

-- the first `max + 1` bytes of a file, which show whether it has more than `max`; none where it isn't there
abbrev pub read_bytes : ℕ → Option (List ℕ) → List ℕ
read_bytes max None = []
read_bytes max (Some bytes) = take (max + 1) bytes

-- .. of a file that is there
abbrev pub front_read : ℕ → Option (List ℕ) → Option (List ℕ)
front_read max None = None
front_read max (Some bytes) = Some (take (max + 1) bytes)

-- the paths that begin so, in byte order
abbrev pub paths_below : Files → List ℕ → List (List ℕ)
paths_below files prefix = filter (λ path. starts_with nat_eq path prefix) (keys files)

-- `.cm/`, below which the store of a project lies
unfoldable pub store_prefix : List ℕ
store_prefix = 46 ∷ 99 ∷ 109 ∷ 47 ∷ []

-- a path of the store
unfoldable pub is_stored : List ℕ → Bool
is_stored path = starts_with nat_eq path store_prefix

-- the files of the store, and those of the project beside it
unfoldable pub store_part : Files → Files
store_part files = retain_keys files is_stored

unfoldable pub project_part : Files → Files
project_part files = retain_keys files (λ path. not (is_stored path))

-- a folder in which no store was begun: each of its files is one of the project
pub record HasNoStore (files : Files) : Type 0 where
  pub none : (path bytes : List ℕ) → get files path ≡ Some bytes → is_stored path ≡ false
