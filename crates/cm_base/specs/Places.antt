-- Tables of places: where an item stands in a list.
use Rattle.std.specs.Prelude.{ℕ, List, Option, None, Some, slice_get}

-- the item at a place, if there is a place
abbrev pub item_at : {A : Type 0} → List A → Option ℕ → Option A
item_at items None = None
item_at items (Some place) = slice_get items place
