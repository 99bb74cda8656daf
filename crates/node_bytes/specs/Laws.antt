-- The laws of nodes, for every format.
use Rattle.std.specs.Prelude.{◌≡◌, ℕ, ◌<◌, ◌≤◌, ◌^◌, List, [], ◌++◌, length, Some, All}
use Rattle.cm_bytes.specs.Fields.{IsBytes, IsReadAgain, ReadsSpelled}
use Rattle.node_bytes.specs.Nodes.{Node, Content}
use Rattle.node_bytes.specs.Formats.{Format, Shape, IsNode, IsContent}
use Rattle.node_bytes.specs.Shapes.{byte_then, with_byte, number_then, with_number, text_then, with_text, list_then, with_list}
use Rattle.node_bytes.specs.Spelling.{spelling, nodes_of}
use Rattle.node_bytes.specs.Reading.{alone_at}

-- a node of the format that has a number of four bytes for each of its nodes
pub record IsNumbered (f : Format) (x : Node) : Type 0 where
  pub is : IsNode f x
  pub few : length (nodes_of f x) ≤ 2 ^ 32

-- what is spelled is read again, whatever follows it
abbrev pub SpelledIsRead : Type 0
SpelledIsRead = (f : Format) (x : Node) → IsNumbered f x → IsReadAgain (spelling f) (alone_at f) x

-- what is read is spelled so, and is a node of the format
abbrev pub ReadIsSpelled : Type 0
ReadIsSpelled = (f : Format) → ReadsSpelled (spelling f) (alone_at f) (IsNode f)

-- bytes that are read as one node are the same bytes
abbrev pub OneSpelling : Type 0
OneSpelling = (f : Format) (a b : List ℕ) (x : Node) → IsBytes a → IsBytes b → alone_at f a ≡ Some (x, [])
    → alone_at f b ≡ Some (x, []) → a ≡ b

-- no spelling is a proper front of another, and no two nodes are spelled alike
abbrev pub NoFrontIsWhole : Type 0
NoFrontIsWhole = (f : Format) (x y : Node) (more : List ℕ) → IsNumbered f x → IsNumbered f y
    → spelling f x ++ more ≡ spelling f y → (x ≡ y) × (more ≡ [])

-- there are no more nodes in a spelling than bytes
abbrev pub FewNodes : Type 0
FewNodes = (f : Format) (x : Node) → length (nodes_of f x) ≤ length (spelling f x)

-- this item has that shape, whatever stands behind it
pub record IsItem {A : Type 0} (f : Format) (item_then : Shape → Shape) (with_item : A → Content → Content)
    (x : A) : Type 0 where
  pub has : (next : Shape) (content : Content) → IsContent f next content
      → IsContent f (item_then next) (with_item x content)

-- each field has its shape: texts and lists of fewer than 2^32 bytes and items do
pub record FieldsHaveShapes (A : Type 0) : Type 0 where
  pub byte : (f : Format) (b : ℕ) → IsItem f byte_then with_byte b
  pub number : (f : Format) (n : ℕ) → IsItem f number_then with_number n
  pub text : (f : Format) (text : List ℕ) → length text < 2 ^ 32 → IsItem f text_then with_text text
  pub list : (f : Format) (item_then : Shape → Shape) (with_item : A → Content → Content) (xs : List A)
      → length xs < 2 ^ 32 → All (IsItem f item_then with_item) xs
      → IsItem f (list_then item_then) (with_list with_item) xs
