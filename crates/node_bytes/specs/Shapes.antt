-- The shapes of fields, of which formats are made, and the contents that have them: a byte, a number of four bytes, a
-- text behind its length, and a list behind its count.
use Rattle.std.specs.Prelude.{ℕ, zero, suc, List, [], ◌∷◌, length}
use Rattle.std.specs.Int.{w32, from_be_bytes}
use Rattle.cm_bytes.specs.Fields.{u32_of}
use Rattle.node_bytes.specs.Nodes.{Content}
use Rattle.node_bytes.specs.Formats.{Shape}

-- the number that four bytes are
unfoldable pub number : List ℕ → ℕ
number bytes = from_be_bytes w32 bytes

-- a byte, and what stands behind it
abbrev pub byte_then : Shape → Shape
byte_then next = Shape.piece 1 (λ _. next)

abbrev pub with_byte : ℕ → Content → Content
with_byte b content = Content.piece (b ∷ []) content

-- a number
abbrev pub number_then : Shape → Shape
number_then next = Shape.piece 4 (λ _. next)

abbrev pub with_number : ℕ → Content → Content
with_number n content = Content.piece (u32_of n) content

-- a text
abbrev pub text_then : Shape → Shape
text_then next = Shape.piece 4 (λ n. Shape.piece (number n) (λ _. next))

abbrev pub with_text : List ℕ → Content → Content
with_text text content = with_number (length text) (Content.piece text content)

-- so many items
abbrev pub items_then : (Shape → Shape) → ℕ → Shape → Shape
items_then item zero next = next
items_then item (suc n) next = item (items_then item n next)

abbrev pub with_items : {A : Type 0} → (A → Content → Content) → List A → Content → Content
with_items with_item [] content = content
with_items with_item (x ∷ xs) content = with_item x (with_items with_item xs content)

-- a list
abbrev pub list_then : (Shape → Shape) → Shape → Shape
list_then item next = Shape.piece 4 (λ n. items_then item (number n) next)

abbrev pub with_list : {A : Type 0} → (A → Content → Content) → List A → Content → Content
with_list with_item xs content = with_number (length xs) (with_items with_item xs content)
