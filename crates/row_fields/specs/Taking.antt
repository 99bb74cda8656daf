-- What a call answers that takes a field from the front of some items, of which other nodes are the parts.
use Rattle.std.specs.Prelude.{◌≡◌, ◌≢◌, ℕ, List, length, get_or, Bool, Option, Some, None}
use Rattle.std.specs.Borrow.{Bor}
use Rattle.cm_bytes.specs.Fields.{u32_of}
use Rattle.node_bytes.specs.Nodes.{Node, Content}
use Rattle.node_bytes.specs.Shapes.{with_byte}
use Rattle.node_bytes.specs.Tables.{nowhere, content_of}
use Rattle.node_bytes.specs.declared.table.Item.{Item}
use Rattle.semantic_objects.specs.declared.entry.VidStatus.{VidStatus}
use Rattle.interface_format.specs.Tags.{bool_byte, status_byte}
use Rattle.interface_format.specs.Rules.{IsNumber}

-- the items are such a field before the others
pub record Begins {A : Type 0} (Fits : A → Type 0) (with_item : A → Content → Content) (made : List Node) (x : A)
    (items rest : List Item) : Type 0 where
  pub fits : Fits x
  pub is : content_of made items ≡ with_item x (content_of made rest)

-- no such field stands at their front, whatever their parts are
pub record NeverBegins {A : Type 0} (Fits : A → Type 0) (with_item : A → Content → Content) (items : List Item)
    : Type 0 where
  pub never : (made : List Node) (x : A) (c : Content) → Fits x → content_of made items ≢ with_item x c

-- the field at the front, where what is given stands for it, or there is none
abbrev pub Takes : {X A : Type 0} → (List Node → X → A) → (A → Type 0) → (A → Content → Content) → Option X
    → List Item → List Item → Type 0
Takes value Fits with_item (Some x) items rest = (made : List Node) → Begins Fits with_item made (value made x) items rest
Takes value Fits with_item None items rest = NeverBegins Fits with_item items

-- a value that stands for itself, and bytes for what they are
abbrev pub itself : {A : Type 0} → List Node → A → A
itself made x = x

abbrev pub bytes_of : List Node → Bor (List ℕ) → List ℕ
bytes_of made text = text.now

abbrev pub part_of : List Node → ℕ → Node
part_of made p = get_or made p nowhere

-- nothing is asked of it
abbrev pub IsAny : {A : Type 0} → A → Type 0
IsAny x = Unit {0}

-- it has a length of four bytes
abbrev pub IsText : List ℕ → Type 0
IsText text = IsNumber (length text)

abbrev pub with_flag : Bool → Content → Content
with_flag b content = with_byte (bool_byte b) content

abbrev pub with_status : VidStatus → Content → Content
with_status s content = with_byte (status_byte s) content

-- a number and the four bytes that it is, or there are more or fewer
abbrev pub SpellNumber : List ℕ → Option ℕ → Type 0
SpellNumber bytes (Some n) = (bytes ≡ u32_of n) × IsNumber n
SpellNumber bytes None = length bytes ≢ 4
