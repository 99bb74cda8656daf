-- What is awaited in a node, as a shape.
use Rattle.std.specs.Prelude.{◌≡◌, ℕ, List, [], ◌∷◌, ◌++◌, Some, None, Result, Ok, Err}
use Rattle.std.specs.Borrow.{Bor}
use Rattle.cm_bytes.specs.Fields.{raw_at}
use Rattle.node_bytes.specs.Formats.{Shape}
use Rattle.node_bytes.specs.Shapes.{text_then, items_then, list_then}
use Rattle.node_bytes.specs.Interfaces.{owner_then, named_then, value_then, interface_shape}
use Rattle.node_bytes.specs.declared.table.Item.{Item}
use Rattle.node_bytes.specs.declared.table.Item.TheVariants as item
use Rattle.interface_reading.specs.declared.fault.RestoreFault.{RestoreFault}
use Rattle.interface_reading.specs.declared.fault.RestoreFault.TheVariants as fault
use Rattle.interface_reading.specs.declared.needs.Listed.{Listed}
use Rattle.interface_reading.specs.declared.needs.Listed.TheVariants as listed
use Rattle.interface_reading.specs.declared.needs.Need.{Need}
use Rattle.interface_reading.specs.declared.needs.Need.TheVariants as need

-- an item of a list
abbrev pub listed_then : Listed → Shape → Shape
listed_then listed.Parts next = Shape.part next
listed_then listed.Named next = named_then next
listed_then listed.Values next = value_then next

-- what is awaited, before what stands behind it
abbrev pub need_then : Need → Shape → Shape
need_then (need.Raw n) next = Shape.piece n (λ _. next)
need_then need.Text next = text_then next
need_then need.Owner next = Shape.piece 1 (λ kind. owner_then kind next)
need_then (need.List l) next = list_then (listed_then l) next
need_then (need.Items l n) next = items_then (listed_then l) n next
need_then need.Part next = Shape.part next

-- all that is awaited, the first of it last
abbrev pub shape_over : Shape → List Need → Shape
shape_over next [] = next
shape_over next (n ∷ needs) = shape_over (need_then n next) needs

-- a refusal is for want of memory
abbrev pub NoBad : {A : Type 0} → Result A RestoreFault → Type 0
NoBad (Ok x) = Unit {0}
NoBad (Err fault.BadInterface) = ⊥
NoBad (Err fault.NoMemory) = Unit {0}

-- what is awaited behind a tag, or no node has it
abbrev pub HasNeeds : ℕ → Result (List Need) RestoreFault → Type 0
HasNeeds tag (Ok needs) = shape_over Shape.complete needs ≡ interface_shape tag
HasNeeds tag (Err fault.BadInterface) = interface_shape tag ≡ Shape.refused
HasNeeds tag (Err fault.NoMemory) = Unit {0}

-- so many bytes are read, or there are fewer
abbrev pub TakesPiece : ℕ → Result (Bor (List ℕ)) RestoreFault → List ℕ → List ℕ → List Item → List Item → Type 0
TakesPiece n (Ok text) old new items after =
    (raw_at n old ≡ Some (text.now, new)) × (after ≡ items ++ item.Piece text.now ∷ [])
TakesPiece n (Err fault.BadInterface) old new items after = raw_at n old ≡ None
TakesPiece n (Err fault.NoMemory) old new items after = Unit {0}
