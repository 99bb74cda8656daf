-- How what is awaited in an open node is met.
use Rattle.std.specs.Prelude.{◌≡◌, ℕ, List, [], ◌∷◌, ◌++◌, Some, None, Result, Ok, Err}
use Rattle.cm_bytes.specs.Fields.{raw_at}
use Rattle.node_bytes.specs.Nodes.{Node, Begun}
use Rattle.node_bytes.specs.Formats.{Shape}
use Rattle.node_bytes.specs.Shapes.{number}
use Rattle.node_bytes.specs.Interfaces.{interfaces}
use Rattle.node_bytes.specs.Tables.{content_of}
use Rattle.node_bytes.specs.declared.table.Item.{Item}
use Rattle.node_bytes.specs.declared.table.Item.TheVariants as item
use Rattle.node_tables.specs.Tables.{HasParts}
use Rattle.interface_reading.specs.Open.{Frame, Then, going}
use Rattle.interface_reading.specs.Needs.{listed_then, need_then, shape_over}
use Rattle.interface_reading.specs.declared.fault.RestoreFault.{RestoreFault}
use Rattle.interface_reading.specs.declared.fault.RestoreFault.TheVariants as fault
use Rattle.interface_reading.specs.declared.needs.Listed.{Listed}
use Rattle.interface_reading.specs.declared.needs.Need.{Need}
use Rattle.interface_reading.specs.declared.open.Open.{Open}

-- a byte is read, or there is none
abbrev pub TakesByte : Result ℕ RestoreFault → List ℕ → List ℕ → List Item → List Item → Type 0
TakesByte (Ok b) old new before after =
    (raw_at 1 old ≡ Some (b ∷ [], new)) × (after ≡ before ++ item.Piece (b ∷ []) ∷ [])
TakesByte (Err fault.BadInterface) old new before after = raw_at 1 old ≡ None
TakesByte (Err fault.NoMemory) old new before after = Unit {0}

-- a number is read, or there are fewer than four bytes
pub record ReadsCount (n : ℕ) (old new : List ℕ) (before after : List Item) : Type 0 where
  pub text : List ℕ
  pub read : raw_at 4 old ≡ Some (text, new)
  pub items : after ≡ before ++ item.Piece text ∷ []
  pub is : n ≡ number text

abbrev pub TakesCount : Result ℕ RestoreFault → List ℕ → List ℕ → List Item → List Item → Type 0
TakesCount (Ok n) old new items after = ReadsCount n old new items after
TakesCount (Err fault.BadInterface) old new items after = raw_at 4 old ≡ None
TakesCount (Err fault.NoMemory) old new items after = Unit {0}

-- an open node in which this shape is awaited
abbrev pub frame_at : List Node → Open → Shape → Frame
frame_at made o shape =
    record { tag = o.tag; number = o.number; before = content_of made o.items; shape = shape }

-- what is awaited in it
abbrev pub rest_shape : Open → Shape
rest_shape o = shape_over Shape.complete o.needs

-- reading goes on in the new node as it did in the old one
pub record Passes (shape : Shape) (old new : Open) (bytes rest : List ℕ) : Type 0 where
  pub tag : new.tag ≡ old.tag
  pub number : new.number ≡ old.number
  pub parts : (count : ℕ) → HasParts count old.items → HasParts count new.items
  pub goes : (made : List Node) (done : Then) (begun : Begun)
      → going interfaces done (frame_at made old shape) begun bytes
      ≡ going interfaces done (frame_at made new (rest_shape new)) begun rest

-- reading ends
pub record Stops (shape : Shape) (old : Open) (bytes : List ℕ) : Type 0 where
  pub stops : (made : List Node) (done : Then) (begun : Begun)
      → going interfaces done (frame_at made old shape) begun bytes ≡ None

-- what was awaited first is met, or isn't there
abbrev pub Meets : Need → Result (Unit {0}) RestoreFault → Open → Open → List ℕ → List ℕ → Type 0
Meets need (Ok done) old new bytes rest = Passes (need_then need (rest_shape old)) old new bytes rest
Meets need (Err fault.BadInterface) old new bytes rest = Stops (need_then need (rest_shape old)) old bytes
Meets need (Err fault.NoMemory) old new bytes rest = Unit {0}

-- an item of a list is awaited before all else
abbrev pub AwaitsItem : Listed → List Need → List Need → Type 0
AwaitsItem l needs after = shape_over Shape.complete after ≡ listed_then l (shape_over Shape.complete needs)

-- it is met without bytes
abbrev pub MeetsAtOnce : Need → Result (Unit {0}) RestoreFault → Open → Open → Type 0
MeetsAtOnce need result old new = (bytes : List ℕ) → Meets need result old new bytes bytes
