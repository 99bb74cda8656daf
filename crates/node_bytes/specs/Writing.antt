-- What each call does that writes a node of a table.
use Rattle.std.specs.Prelude.{◌≡◌, ℕ, ◌+◌, ◌<◌, ◌≤◌, List, [], ◌∷◌, ◌++◌, length, get_or, set, slice_get, Option, Some, None, Result, Ok, Err}
use Rattle.cm_bytes.specs.Fields.{u32_of}
use Rattle.node_bytes.specs.declared.table.Item.{Item}
use Rattle.node_bytes.specs.declared.table.Item.TheVariants as item
use Rattle.node_bytes.specs.declared.table.Row.{Row}
use Rattle.node_bytes.specs.declared.write.Open.{Open}
use Rattle.node_bytes.specs.declared.write.Writing.{Writing}
use Rattle.node_bytes.specs.declared.fault.WriteFault.{WriteFault}
use Rattle.node_bytes.specs.declared.fault.WriteFault.TheVariants as fault

-- bytes are appended, or pass the limit
abbrev pub Appended : ℕ → List ℕ → List ℕ → List ℕ → Result (Unit {0}) WriteFault → Type 0
Appended limit bytes old new (Ok done) = (new ≡ old ++ bytes) × (length new ≤ limit)
Appended limit bytes old new (Err fault.TooLong) = limit < length old + length bytes
Appended limit bytes old new (Err fault.NoMemory) = Unit {0}

-- what holds of what is written so far
pub record HasRoom (count limit : ℕ) (state : Writing) : Type 0 where
  pub fits : length state.out.items ≤ limit
  pub few : state.next ≤ length state.out.items
  pub numbers : length state.numbers.items ≡ count

-- what a call adds and leaves
pub record Effect : Type 0 where
  pub bytes : List ℕ
  pub opened : List Open
  pub numbers : List (Option ℕ)
  pub next : ℕ

-- it is added and left, or its bytes pass the limit
pub record IsDone (limit : ℕ) (effect : Effect) (old new : Writing) : Type 0 where
  pub out : new.out.items ≡ old.out.items ++ effect.bytes
  pub fits : length new.out.items ≤ limit
  pub opens : new.opens ≡ old.opens ++ effect.opened
  pub numbers : new.numbers.items ≡ effect.numbers
  pub next : new.next ≡ effect.next

abbrev pub Done : ℕ → Effect → Writing → Writing → Result (Unit {0}) WriteFault → Type 0
Done limit effect old new (Ok done) = IsDone limit effect old new
Done limit effect old new (Err fault.TooLong) = limit < length old.out.items + length effect.bytes
Done limit effect old new (Err fault.NoMemory) = Unit {0}

-- the tag of a row, and the items of one
abbrev pub tag_at : Option Row → ℕ
tag_at (Some row) = row.tag
tag_at None = 0

abbrev pub items_at : Option Row → List Item
items_at (Some row) = row.items
items_at None = []

-- a node is opened
abbrev pub entered : List Row → ℕ → Writing → Effect
entered rows id state = record {
  bytes = tag_at (slice_get rows id) ∷ [];
  opened = record { id = id; number = state.next; at = 0 } ∷ [];
  numbers = set state.numbers.items id (Some state.next);
  next = state.next + 1;
}

-- nothing is added but bytes
abbrev pub only : List ℕ → Writing → Effect
only bytes state = record { bytes = bytes; opened = []; numbers = state.numbers.items; next = state.next }

-- a part that has a number, or none
abbrev pub visited_by : Option ℕ → List Row → ℕ → ℕ → Writing → Effect
visited_by (Some number) rows back id state = only (back ∷ u32_of number) state
visited_by None rows back id state = entered rows id state

abbrev pub visited : List Row → ℕ → ℕ → Writing → Effect
visited rows back id state = visited_by (get_or state.numbers.items id None) rows back id state

-- one item more is written
abbrev pub on : Open → Open
on top = record { id = top.id; number = top.number; at = top.at + 1 }

abbrev pub with_open : Open → Effect → Effect
with_open top effect = record effect { opened = top ∷ effect.opened }

-- an item of the innermost node, which was taken from the list; or none, and it is whole
abbrev pub stepped_by : Option Item → List Row → ℕ → Open → Writing → Effect
stepped_by None rows back top state = only [] state
stepped_by (Some (item.Piece text)) rows back top state = with_open (on top) (only text state)
stepped_by (Some (item.Part id)) rows back top state = with_open (on top) (visited rows back id state)

abbrev pub stepped : List Row → ℕ → Open → Writing → Effect
stepped rows back top state =
    stepped_by (slice_get (items_at (slice_get rows top.id)) top.at) rows back top state

-- a part of the table
abbrev pub HasPart : ℕ → Item → Type 0
HasPart n (item.Piece text) = Unit {0}
HasPart n (item.Part p) = p < n
