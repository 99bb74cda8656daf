-- Contents of fields have the shapes of fields.
use Rattle.std.proofs.Common.{◌≡◌, ℕ, ◌<◌, ◌^◌, refl, sym, subst, List, [], ◌∷◌, length, All}
use Rattle.std.proofs.lemmas.List.Elements.{All-head, All-tail}
use Rattle.std.proofs.lemmas.Nat.{from_be_bytes-to_be_bytes_4}
use Rattle.cm_bytes.specs.Fields.{u32_of}
use Rattle.cm_bytes.proofs.Fields.{length-u32_of}
use Rattle.node_bytes.specs.Nodes.{Content}
use Rattle.node_bytes.specs.Formats.{Format, Shape, IsContent}
use Rattle.node_bytes.specs.Shapes.{number, byte_then, with_byte, number_then, with_number, text_then, with_text, items_then, with_items, list_then, with_list}
use Rattle.node_bytes.specs.Laws.{IsItem, FieldsHaveShapes}

number_back : (n : ℕ) → n < 2 ^ 32 → number (u32_of n) ≡ n
unfolding u32_of number
number_back n lt = from_be_bytes-to_be_bytes_4 n lt

byte_has : (f : Format) (b : ℕ) → IsItem f byte_then with_byte b
byte_has f b = record { has = λ next content h. IsContent.piece 1 (λ _. next) (b ∷ []) content refl h }

number_has : (f : Format) (n : ℕ) → IsItem f number_then with_number n
number_has f n = record { has = λ next content h. IsContent.piece 4 (λ _. next) (u32_of n) content (length-u32_of n) h }

text_has : (f : Format) (text : List ℕ) → length text < 2 ^ 32 → IsItem f text_then with_text text
text_has f text lt = record {
  has = λ next content h.
      IsContent.piece 4 (λ n. Shape.piece (number n) (λ _. next)) (u32_of (length text)) (Content.piece text content)
      (length-u32_of (length text))
      (IsContent.piece (number (u32_of (length text))) (λ _. next) text content (sym (number_back (length text) lt)) h);
}

items_have : {A : Type 0} (f : Format) (item_then : Shape → Shape) (with_item : A → Content → Content) (xs : List A)
    (next : Shape) (content : Content) → All (IsItem f item_then with_item) xs → IsContent f next content
    → IsContent f (items_then item_then (length xs) next) (with_items with_item xs content)
items_have f item_then with_item [] next content each h = h
items_have f item_then with_item (x ∷ xs) next content each h =
    (All-head (IsItem f item_then with_item) x xs each).has (items_then item_then (length xs) next)
    (with_items with_item xs content)
    (items_have f item_then with_item xs next content (All-tail (IsItem f item_then with_item) x xs each) h)

list_has : {A : Type 0} (f : Format) (item_then : Shape → Shape) (with_item : A → Content → Content) (xs : List A)
    → length xs < 2 ^ 32 → All (IsItem f item_then with_item) xs
    → IsItem f (list_then item_then) (with_list with_item) xs
list_has f item_then with_item xs lt each = record {
  has = λ next content h.
      IsContent.piece 4 (λ n. items_then item_then (number n) next) (u32_of (length xs))
      (with_items with_item xs content)
      (length-u32_of (length xs))
      (subst (λ (n : ℕ). IsContent f (items_then item_then n next) (with_items with_item xs content))
      (sym (number_back (length xs) lt)) (items_have f item_then with_item xs next content each h));
}

pub have_shapes : (A : Type 0) → FieldsHaveShapes A
have_shapes A = record { byte = byte_has; number = number_has; text = text_has; list = list_has }
