-- The fields of which every format is made: what each is spelled as, and the step that reads it at the front
-- of some bytes, with the bytes that are left.
use Rattle.std.specs.Prelude.{◌≡◌, ℕ, zero, suc, ◌<◌, List, [], ◌∷◌, ◌++◌, length, take, drop, slice_index, Option, Some, None, nat_lt, if◌then◌else◌}
use Rattle.std.specs.List.{flat_map}
use Rattle.std.specs.Int.{w32, to_be_bytes, from_be_bytes}
use Rattle.cm_base.specs.declared.record.Namespace.{Namespace}
use Rattle.cm_base.specs.declared.record.Namespace.TheVariants as space

-- a step of reading: the value at the front of the bytes, and the bytes that are left
abbrev pub Step : Type 0 → Type 0
Step A = List ℕ → Option (A × List ℕ)

-- one step of reading and then the next, as far as there are enough bytes
infixl 10 ◌>>=◌
abbrev pub ◌>>=◌ : {A B : Type 0} → Option A → (A → Option B) → Option B
(Some x) >>= next = next x
None >>= next = None

-- each item is a byte
pub record IsBytes (bytes : List ℕ) : Type 0 where
  pub below : (i : ℕ) → slice_index bytes i < 256

-- the step that reads a byte, which stands for itself
unfoldable pub byte_at : Step ℕ
byte_at [] = None
byte_at (b ∷ rest) = Some (b, rest)

-- the step that reads so many bytes as they are
unfoldable pub raw_at : ℕ → Step (List ℕ)
raw_at n bytes = if nat_lt (length bytes) n then None else Some (take n bytes, drop n bytes)

-- the byte of a name space
abbrev pub space_byte : Namespace → ℕ
space_byte space.Structure = 0
space_byte space.Signature = 1
space_byte space.Functor = 2
space_byte space.Funsig = 3

-- a number is four bytes, the most significant first
unfoldable pub u32_of : ℕ → List ℕ
u32_of n = to_be_bytes w32 n

-- the step that reads a number
unfoldable pub u32_at : Step ℕ
u32_at bytes = if nat_lt (length bytes) 4 then None else Some (from_be_bytes w32 (take 4 bytes), drop 4 bytes)

-- a text is its length and its bytes
unfoldable pub text_of : List ℕ → List ℕ
text_of text = u32_of (length text) ++ text

-- the step that reads a text
unfoldable pub text_at : Step (List ℕ)
text_at bytes = u32_at bytes >>= λ n. raw_at n.0 n.1

-- a list is its count and its items, one after another
unfoldable pub list_of : {A : Type 0} → (A → List ℕ) → List A → List ℕ
list_of item_of xs = u32_of (length xs) ++ flat_map item_of xs

-- the step that reads so many items, one after another
unfoldable pub items_at : {A : Type 0} → Step A → ℕ → Step (List A)
items_at item_at zero bytes = Some ([], bytes)
items_at item_at (suc n) bytes =
    item_at bytes >>= λ first. items_at item_at n first.1 >>= λ others. Some (first.0 ∷ others.0, others.1)

-- the step that reads a list
unfoldable pub list_at : {A : Type 0} → Step A → Step (List A)
list_at item_at bytes = u32_at bytes >>= λ n. items_at item_at n.0 n.1

-- what is spelled so is read again, whatever follows
pub record IsReadAgain {A : Type 0} (item_of : A → List ℕ) (item_at : Step A) (x : A) : Type 0 where
  pub again : (rest : List ℕ) → item_at (item_of x ++ rest) ≡ Some (x, rest)

-- the bytes are this spelling and this rest
pub record Takes (bytes spelling rest : List ℕ) : Type 0 where
  pub parts : bytes ≡ spelling ++ rest
  pub front : IsBytes spelling
  pub after : IsBytes rest

-- what is read is spelled so, and fits
pub record ReadsSpelled {A : Type 0} (item_of : A → List ℕ) (item_at : Step A) (Fits : A → Type 0) : Type 0 where
  pub takes : (bytes : List ℕ) (x : A) (rest : List ℕ) → IsBytes bytes → item_at bytes ≡ Some (x, rest)
      → Takes bytes (item_of x) rest
  pub fits : (bytes : List ℕ) (x : A) (rest : List ℕ) → IsBytes bytes → item_at bytes ≡ Some (x, rest) → Fits x
