-- Fields that are lists of fields.
use Rattle.std.specs.Prelude.{◌≡◌, ℕ, List, length, map}
use Rattle.std.specs.List.{AllByRecursion}
use Rattle.node_bytes.specs.Nodes.{Node}
use Rattle.interface_format.specs.Tags.{ValueRow}
use Rattle.interface_format.specs.Rules.{IsNumber}
use Rattle.row_fields.specs.Taking.{IsText}

-- what is given for each item stands for it
abbrev pub each_of : {X A : Type 0} → (List Node → X → A) → List Node → List X → List A
each_of value made xs = map (value made) xs

-- so many items
pub record AreMany {A : Type 0} (count : ℕ) (Fits : A → Type 0) (xs : List A) : Type 0 where
  pub counted : length xs ≡ count
  pub each : AllByRecursion Fits xs

-- items of which the count has four bytes
pub record AreItems {A : Type 0} (Fits : A → Type 0) (xs : List A) : Type 0 where
  pub counted : IsNumber (length xs)
  pub each : AllByRecursion Fits xs

-- the name of a row has a length of four bytes
abbrev pub HasName : List ℕ × Node → Type 0
HasName row = IsText row.0

abbrev pub IsValueName : ValueRow → Type 0
IsValueName row = IsText row.name
