-- What is left to be written while some nodes are open, and what holds of the numbers meanwhile.
use Rattle.std.specs.Prelude.{◌≡◌, ℕ, zero, suc, ◌+◌, ◌<◌, ◌⊎◌, List, [], ◌∷◌, ◌++◌, length, get_or, drop, set, replicate, slice_get, ◌≤◌, Option, Some, None, Result, Ok, Err}
use Rattle.node_bytes.specs.Nodes.{Node, Content, Begun, whole, node_of}
use Rattle.node_bytes.specs.Formats.{Format}
use Rattle.node_bytes.specs.Spelling.{spelled_content, spelling}
use Rattle.node_bytes.specs.Tables.{content_of, table_nodes, table_node}
use Rattle.node_bytes.specs.Writing.{tag_at, items_at}
use Rattle.node_bytes.specs.declared.table.Row.{Row}
use Rattle.node_bytes.specs.declared.write.Open.{Open}
use Rattle.node_bytes.specs.declared.write.Writing.{Writing}
use Rattle.node_bytes.specs.declared.fault.WriteFault.{WriteFault}
use Rattle.node_bytes.specs.declared.fault.WriteFault.TheVariants as fault

-- a node that was open is whole
abbrev pub close : Begun → ℕ → Node → Begun
close [] n x = []
close (y ∷ begun) zero x = Some x ∷ begun
close (y ∷ begun) (suc n) x = y ∷ close begun n x

-- what is left of an open node
abbrev pub rest_of : List Row → Open → Content
rest_of rows o = content_of (table_nodes rows) (drop o.at (items_at (slice_get rows o.id)))

-- bytes, and what is begun then
pub record Ran : Type 0 where
  pub bytes : List ℕ
  pub begun : Begun

-- what is left of an open node, behind what is left of those in it
abbrev pub after_open : Format → List Row → Open → Ran → Ran
after_open f rows o r = record {
  bytes = r.bytes ++ (spelled_content f r.begun (rest_of rows o)).bytes;
  begun = close (r.begun ++ whole (spelled_content f r.begun (rest_of rows o)).nodes) o.number (table_node rows o.id);
}

-- what is left of all nodes that are open, the innermost last in the list and first in the bytes
abbrev pub run : Format → List Row → Begun → List Open → Ran
run f rows begun [] = record { bytes = []; begun = begun }
run f rows begun (o ∷ inner) = after_open f rows o (run f rows begun inner)

-- a place is one of an open node
abbrev pub IsOpen : List Open → ℕ → Type 0
IsOpen [] p = ⊥
IsOpen (o ∷ opens) p = (o.id ≡ p) ⊎ IsOpen opens p

-- a node stands at a place that has this number
pub record Stands (rows : List Row) (numbers : List (Option ℕ)) (m : ℕ) (x : Node) : Type 0 where
  pub place : ℕ
  pub within : place < length rows
  pub is : x ≡ table_node rows place
  pub number : get_or numbers place None ≡ Some m

-- the numbers of places, and what was begun
pub record Known (rows : List Row) (begun : Begun) (numbers : List (Option ℕ)) (opens : List Open)
    (next : ℕ) : Type 0 where
  pub numbered : (p m : ℕ) → get_or numbers p None ≡ Some m
      → IsOpen opens p ⊎ (node_of begun m ≡ Some (table_node rows p))
  pub stands : (m : ℕ) (x : Node) → node_of begun m ≡ Some x → Stands rows numbers m x
  pub below : (p m : ℕ) → get_or numbers p None ≡ Some m → m < next
  pub one : (p q m : ℕ) → get_or numbers p None ≡ Some m → get_or numbers q None ≡ Some m → p ≡ q
  pub count : length begun ≡ next

-- open nodes stand in the table, and have their numbers
abbrev pub AreOpen : ℕ → List (Option ℕ) → List Open → Type 0
AreOpen n numbers [] = Unit {0}
AreOpen n numbers (o ∷ opens) =
    (o.id < n) × (get_or numbers o.id None ≡ Some o.number) × AreOpen n numbers opens

-- places before, and behind, a place
abbrev pub AllBelow : ℕ → List Open → Type 0
AllBelow p [] = Unit {0}
AllBelow p (o ∷ opens) = (o.id < p) × AllBelow p opens

abbrev pub AllAbove : ℕ → List Open → Type 0
AllAbove p [] = Unit {0}
AllAbove p (o ∷ opens) = (p < o.id) × AllAbove p opens

-- of two open nodes the inner one stands before the other
abbrev pub AreNested : List Open → Type 0
AreNested [] = Unit {0}
AreNested (o ∷ inner) = AllBelow o.id inner × AreNested inner

-- what is written and what is left make up the spelling
pub record IsGoing (f : Format) (rows : List Row) (root : ℕ) (out : List ℕ) (numbers : List (Option ℕ))
    (next : ℕ) (opens : List Open) : Type 0 where
  pub begun : Begun
  pub bytes : out ++ (run f rows begun opens).bytes ≡ spelling f (table_node rows root)
  pub known : Known rows begun numbers opens next
  pub placed : AreOpen (length rows) numbers opens
  pub nested : AreNested opens

-- of a state, in every format with that tag of back references
pub record Goes (rows : List Row) (root back : ℕ) (state : Writing) : Type 0 where
  pub goes : (f : Format) → f.back ≡ back
      → IsGoing f rows root state.out.items state.numbers.items state.next state.opens

-- how much is left at most, with each part written out
abbrev mutual
  pub weigh : Node → ℕ
  weigh (Node.node tag content) = suc (suc (weigh_in content))

  pub weigh_in : Content → ℕ
  weigh_in Content.nothing = 0
  weigh_in (Content.piece text content) = suc (weigh_in content)
  weigh_in (Content.part x content) = weigh x + weigh_in content

abbrev pub weights : List Row → List Open → ℕ
weights rows [] = 0
weights rows (o ∷ opens) = suc (weigh_in (rest_of rows o)) + weights rows opens

-- writing was begun with a node, whose tag is written
pub record IsBegun (rows : List Row) (root limit : ℕ) (state : Writing) : Type 0 where
  pub fits : length state.out.items ≤ limit
  pub out : state.out.items ≡ tag_at (slice_get rows root) ∷ []
  pub opens : state.opens ≡ record { id = root; number = 0; at = 0 } ∷ []
  pub numbers : state.numbers.items ≡ set (replicate (length rows) None) root (Some 0)
  pub next : state.next ≡ 1

abbrev pub Begins : List Row → ℕ → ℕ → Result Writing WriteFault → Type 0
Begins rows root limit (Ok state) = IsBegun rows root limit state
Begins rows root limit (Err fault.TooLong) = limit < 1
Begins rows root limit (Err fault.NoMemory) = Unit {0}
