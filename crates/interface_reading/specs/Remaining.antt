-- What is left to be read of a whole interface while nodes are open, and what each step does.
use Rattle.std.specs.Prelude.{◌≡◌, ◌≢◌, ℕ, suc, ◌+◌, ◌-◌, ◌<◌, ◌≤◌, List, [], ◌∷◌, ◌++◌, length, get_or, slice_get, Option, Some, None, Result, Ok, Err}
use Rattle.std.specs.List.{AllPairs}
use Rattle.node_bytes.specs.Nodes.{Node, Begun}
use Rattle.node_bytes.specs.Formats.{Shape}
use Rattle.node_bytes.specs.Interfaces.{interfaces, interface_shape}
use Rattle.node_bytes.specs.Tables.{nowhere, table_nodes, AreRows}
use Rattle.node_bytes.specs.declared.table.Row.{Row}
use Rattle.node_tables.specs.Tables.{HasParts}
use Rattle.interface_reading.specs.Open.{Then, going, going_with}
use Rattle.interface_reading.specs.Meeting.{frame_at, rest_shape}
use Rattle.interface_reading.specs.Weights.{bytes_weight, needs_weight, opens_weight}
use Rattle.interface_reading.specs.declared.fault.RestoreFault.{RestoreFault}
use Rattle.interface_reading.specs.declared.fault.RestoreFault.TheVariants as fault
use Rattle.interface_reading.specs.declared.needs.Need.{Need}
use Rattle.interface_reading.specs.declared.open.Open.{Open}
use Rattle.interface_reading.specs.declared.reading.Reading.{Reading}
use Rattle.cm_bytes.specs.Fields.{Step}

-- ---- what is left

-- the node at the last place
abbrev pub last_node : List Node → Node
last_node made = get_or made (length made - 1) nowhere

-- nothing more is done
abbrev pub finish : Then
finish begun x bytes = Some (x, bytes)

-- a part that is whole stands in the innermost of these, where reading goes on
abbrev pub around : List Node → Then → List Open → Then
around made done [] = done
around made done (o ∷ inner) =
    around made (going_with interfaces done (frame_at made o Shape.complete) (rest_shape o)) inner

-- what is left in these, the innermost first
abbrev pub remaining_in : List Node → Then → Open → List Open → Begun → Step Node
remaining_in made done o [] begun bytes = going interfaces done (frame_at made o (rest_shape o)) begun bytes
remaining_in made done o (p ∷ inner) begun bytes =
    remaining_in made (going_with interfaces done (frame_at made o Shape.complete) (rest_shape o)) p inner begun bytes

-- where none is open, the last node is the whole
abbrev pub remaining : List Node → Then → List Open → Begun → Step Node
remaining made done [] begun bytes = done begun (last_node made) bytes
remaining made done (o ∷ inner) begun bytes = remaining_in made done o inner begun bytes

-- the nodes that were begun, by the places of those that are whole
abbrev pub begun_of : List Node → List (Option ℕ) → Begun
begun_of made [] = []
begun_of made (None ∷ numbers) = None ∷ begun_of made numbers
begun_of made (Some p ∷ numbers) = Some (get_or made p nowhere) ∷ begun_of made numbers

-- by the nodes that are whole, the places of numbers, and the open nodes
abbrev pub left_with : List Row → List (Option ℕ) → List Open → Step Node
left_with rows numbers opens bytes =
    remaining (table_nodes rows) finish opens (begun_of (table_nodes rows) numbers) bytes

abbrev pub left_of : Reading → Step Node
left_of s bytes = left_with s.rows.keys s.numbers.items s.opens bytes

-- ---- what holds meanwhile

-- a place has a number
pub record HasNumber (numbers : List (Option ℕ)) (place : ℕ) : Type 0 where
  pub number : ℕ
  pub is : get_or numbers number None ≡ Some place

-- an open node has a number under which none stands yet, and parts that are whole
pub record IsOpen (count : ℕ) (numbers : List (Option ℕ)) (o : Open) : Type 0 where
  pub within : o.number < length numbers
  pub free : get_or numbers o.number None ≡ None
  pub parts : HasParts count o.items

abbrev pub AllAbove : ℕ → List Open → Type 0
AllAbove n [] = Unit {0}
AllAbove n (o ∷ opens) = (n < o.number) × AllAbove n opens

-- of two open nodes the inner one has the greater number
abbrev pub AreOpen : ℕ → List (Option ℕ) → List Open → Type 0
AreOpen count numbers [] = Unit {0}
AreOpen count numbers (o ∷ inner) =
    IsOpen count numbers o × AllAbove o.number inner × AreOpen count numbers inner

pub record AreSound (rows : List Row) (numbers : List (Option ℕ)) (opens : List Open) : Type 0 where
  pub ordered : AreRows rows
  pub placed : (n p : ℕ) → get_or numbers n None ≡ Some p → p < length rows
  pub stands : (p : ℕ) → p < length rows → HasNumber numbers p
  pub nested : AreOpen (length rows) numbers opens
  pub some : 1 ≤ length rows + length opens

abbrev pub Holds : Reading → Type 0
Holds s = AreSound s.rows.keys s.numbers.items s.opens

-- ---- steps

-- one more node is open
abbrev pub with_open : Reading → Open → Reading
with_open s o = record s { opens = s.opens ++ o ∷ [] }

-- one more need is awaited first
abbrev pub with_need : Open → Need → Open
with_need o n = record o { needs = o.needs ++ n ∷ [] }

-- the same is left, and less is to be done
pub record Moves (old new : Reading) (bytes rest : List ℕ) : Type 0 where
  pub holds : Holds new
  pub goes : left_of old bytes ≡ left_of new rest
  pub less : bytes_weight rest + opens_weight new.opens < bytes_weight bytes + opens_weight old.opens

-- or nothing is read from there on
abbrev pub Advances : Result (Unit {0}) RestoreFault → Reading → Reading → List ℕ → List ℕ → Type 0
Advances (Ok done) old new bytes rest = Moves old new bytes rest
Advances (Err fault.BadInterface) old new bytes rest = left_of old bytes ≡ None
Advances (Err fault.NoMemory) old new bytes rest = Unit {0}

-- an open node that has a tag and a number, with all that is awaited in it
pub record IsOpened (tag : ℕ) (old new : Reading) : Type 0 where
  pub needs : List Need
  pub awaits : needs_weight needs < 64
  pub shape : rest_shape (record { tag = tag; number = 0; needs = needs; items = [] }) ≡ interface_shape tag
  pub numbers : new.numbers.items ≡ old.numbers.items ++ None ∷ []
  pub rows : new.rows.keys ≡ old.rows.keys
  pub opens : new.opens
      ≡ old.opens ++ record { tag = tag; number = length old.numbers.items; needs = needs; items = [] } ∷ []

abbrev pub OpensNode : ℕ → Result (Unit {0}) RestoreFault → Reading → Reading → Type 0
OpensNode tag (Ok done) old new = IsOpened tag old new
OpensNode tag (Err fault.BadInterface) old new = interface_shape tag ≡ Shape.refused
OpensNode tag (Err fault.NoMemory) old new = Unit {0}

-- a part stands in the innermost open node
pub record HandsOn (place : ℕ) (old new : List Open) : Type 0 where
  pub less : opens_weight new ≡ opens_weight old
  pub keeps : (count : ℕ) (numbers : List (Option ℕ)) → place < count → AreOpen count numbers old
      → AreOpen count numbers new
  pub goes : (made : List Node) (begun : Begun) (bytes : List ℕ) → length made ≡ suc place
      → around made finish old begun (get_or made place nowhere) bytes ≡ remaining made finish new begun bytes

-- a node that stands nowhere yet is added at the end
pub record IsAdded (row : Row) (old new : List Row) (place : ℕ) : Type 0 where
  pub rows : new ≡ old ++ row ∷ []
  pub at : place ≡ length old
  pub apart : AllPairs (λ x y. x ≢ y) new

pub record IsThere (row : Row) (rows : List Row) : Type 0 where
  pub place : ℕ
  pub is : slice_get rows place ≡ Some row

abbrev pub AddsNew : Row → List Row → List Row → Result ℕ RestoreFault → Type 0
AddsNew row old new (Ok place) = IsAdded row old new place
AddsNew row old new (Err fault.BadInterface) = IsThere row old
AddsNew row old new (Err fault.NoMemory) = Unit {0}

-- all that was open is read
pub record IsRead (old new : Reading) (bytes rest : List ℕ) : Type 0 where
  pub holds : Holds new
  pub closed : new.opens ≡ []
  pub goes : left_of old bytes ≡ left_of new rest

abbrev pub ReadsOpen : Result (Unit {0}) RestoreFault → Reading → Reading → List ℕ → List ℕ → Type 0
ReadsOpen (Ok done) old new bytes rest = IsRead old new bytes rest
ReadsOpen (Err fault.BadInterface) old new bytes rest = left_of old bytes ≡ None
ReadsOpen (Err fault.NoMemory) old new bytes rest = Unit {0}
