-- Interfaces as a format: what stands behind each tag.
use Rattle.std.specs.Prelude.{ℕ, ◌==◌, if◌then◌else◌, List, [], ◌∷◌}
use Rattle.node_bytes.specs.Formats.{Shape, Format}
use Rattle.node_bytes.specs.Shapes.{byte_then, number_then, text_then, list_then}

-- whose a type name is: of the basis, the unit's own, of another unit that is named, or bound
abbrev pub owner_then : List ℕ → Shape → Shape
owner_then [] next = Shape.refused
owner_then (kind ∷ more) next =
    if kind == 0 then next
    else (if kind == 1 then next
    else (if kind == 2 then text_then next
    else (if kind == 3 then next else Shape.refused)))

-- a type name: its owner, its number, its arity, and whether it admits equality
abbrev pub type_name_then : Shape → Shape
type_name_then next = Shape.piece 1 (λ kind. owner_then kind (number_then (number_then (byte_then next))))

-- a part by its name
abbrev pub named_then : Shape → Shape
named_then next = text_then (Shape.part next)

-- a value: its name, its status, and its scheme
abbrev pub value_then : Shape → Shape
value_then next = text_then (byte_then (Shape.part next))

-- a variable, a record type, a function type, a named type, a type function, a scheme, a type structure, an
-- environment, a signature, a functor, a unit
abbrev pub interface_shape : ℕ → Shape
interface_shape tag =
    if tag == 1 then number_then Shape.complete
    else (if tag == 2 then list_then named_then Shape.complete
    else (if tag == 3 then Shape.part (Shape.part Shape.complete)
    else (if tag == 4 then type_name_then (list_then Shape.part Shape.complete)
    else (if tag == 5 then number_then (Shape.part Shape.complete)
    else (if tag == 6 then text_then (Shape.part Shape.complete)
    else (if tag == 7 then Shape.part (list_then named_then Shape.complete)
    else (if tag == 8 then list_then named_then (list_then named_then (list_then value_then Shape.complete))
    else (if tag == 9 then number_then (Shape.part Shape.complete)
    else (if tag == 10 then number_then (Shape.part (number_then (Shape.part Shape.complete)))
    else (if tag == 11 then list_then named_then (list_then named_then (list_then named_then
    (list_then named_then Shape.complete)))
    else Shape.refused))))))))))

-- the tag of back references is 12
abbrev pub interfaces : Format
interfaces = record { back = 12; shape = interface_shape }
