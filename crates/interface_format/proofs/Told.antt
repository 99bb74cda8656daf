-- What stands in nodes, told apart: equal contents have equal fields.
use Rattle.std.proofs.Common.{◌≡◌, ℕ, suc, ◌<◌, ◌^◌, refl, sym, ap, ap₂, ◌∙◌, List, [], ◌∷◌, length, Bool, true, false, map}
use Rattle.std.proofs.lemmas.Nat.{from_be_bytes-to_be_bytes_4}
use Rattle.cm_bytes.specs.Fields.{u32_of}
use Rattle.node_bytes.specs.Nodes.{Node, Content}
use Rattle.node_bytes.specs.Shapes.{number, with_byte, with_number, with_text, with_items, with_list}
use Rattle.semantic_objects.specs.declared.entry.VidStatus.{VidStatus}
use Rattle.semantic_objects.specs.declared.entry.VidStatus.TheVariants as status
use Rattle.interface_format.specs.Tags.{bool_byte, status_byte, ValueRow, with_named, with_value}
use Rattle.interface_format.specs.Rules.{IsNumber}

-- ---- numbers

number_back : (n : ℕ) → n < 2 ^ 32 → number (u32_of n) ≡ n
unfolding u32_of number
number_back n lt = from_be_bytes-to_be_bytes_4 n lt

pub number_told : (m n : ℕ) → IsNumber m → IsNumber n → u32_of m ≡ u32_of n → m ≡ n
number_told m n h k e = sym (number_back m h.below) ∙ ap number e ∙ number_back n k.below

-- ---- items

-- fields that are equal with all that stands behind them
pub record Told {A : Type 0} (with_item : A → Content → Content) (x y : A) (c d : Content) : Type 0 where
  pub item : x ≡ y
  pub rest : c ≡ d

-- items are told by their fields
abbrev pub Tells : {A : Type 0} → (A → Content → Content) → Type 0
Tells {A} with_item = (x y : A) (c d : Content) → with_item x c ≡ with_item y d → Told with_item x y c d

pub part_told : Tells Content.part
part_told x y c d e = record { item = cc; rest = cc }

pub text_rest : (s t : List ℕ) (c d : Content) → with_text s c ≡ with_text t d → Told with_text s t c d
text_rest s t c d e = record { item = cc; rest = cc }

abbrev row : List ℕ → Node → List ℕ × Node
row name x = (name, x)

row_same : (m n : List ℕ) (x y : Node) → m ≡ n → x ≡ y → row m x ≡ row n y
row_same m n x y h k = ap₂ row h k

pub named_told : Tells with_named
named_told x y c d e =
    let t = text_rest x.0 y.0 (Content.part x.1 c) (Content.part y.1 d) e in
    let p = part_told x.1 y.1 c d t.rest in
    record { item = row_same x.0 y.0 x.1 y.1 t.item p.item; rest = p.rest }

status_told : (s t : VidStatus) → status_byte s ≡ status_byte t → s ≡ t
status_told status.Variable status.Variable e = refl
status_told status.Variable status.Constructor e = absurd (cc)
status_told status.Variable status.Exception e = absurd (cc)
status_told status.Constructor status.Variable e = absurd (cc)
status_told status.Constructor status.Constructor e = refl
status_told status.Constructor status.Exception e = absurd (cc)
status_told status.Exception status.Variable e = absurd (cc)
status_told status.Exception status.Constructor e = absurd (cc)
status_told status.Exception status.Exception e = refl

abbrev value_row : List ℕ → VidStatus → Node → ValueRow
value_row name status scheme = record { name = name; status = status; scheme = scheme }

value_same : (m n : List ℕ) (s t : VidStatus) (x y : Node) → m ≡ n → s ≡ t → x ≡ y
    → value_row m s x ≡ value_row n t y
value_same m n s t x y h k l = cc

byte_told : (a b : ℕ) (c d : Content) → with_byte a c ≡ with_byte b d → (a ≡ b) × (c ≡ d)
byte_told a b c d e = (cc, cc)

pub value_told : Tells with_value
value_told x y c d e =
    let t = text_rest x.name y.name (with_byte (status_byte x.status) (Content.part x.scheme c))
    (with_byte (status_byte y.status) (Content.part y.scheme d)) e in
    let b = byte_told (status_byte x.status) (status_byte y.status) (Content.part x.scheme c)
    (Content.part y.scheme d) t.rest in
    let p = part_told x.scheme y.scheme c d b.1 in
    record {
      item = value_same x.name y.name x.status y.status x.scheme y.scheme t.item (status_told x.status y.status b.0)
          p.item;
      rest = p.rest;
    }

-- ---- lists

suc_same : (m n : ℕ) → suc m ≡ suc n → m ≡ n
suc_same m n e = cc

pub items_told : {A : Type 0} (with_item : A → Content → Content) → Tells with_item → (xs ys : List A)
    (c d : Content) → length xs ≡ length ys → with_items with_item xs c ≡ with_items with_item ys d
    → Told (with_items with_item) xs ys c d
items_told with_item tells [] [] c d l e = record { item = refl; rest = e }
items_told with_item tells [] (y ∷ ys) c d l e = absurd (cc)
items_told with_item tells (x ∷ xs) [] c d l e = absurd (cc)
items_told with_item tells (x ∷ xs) (y ∷ ys) c d l e =
    let first = tells x y (with_items with_item xs c) (with_items with_item ys d) e in
    let more = items_told with_item tells xs ys c d (suc_same (length xs) (length ys) l) first.rest in
    record { item = ap₂ (λ z zs. z ∷ zs) first.item more.item; rest = more.rest }

number_rest : (m n : ℕ) (c d : Content) → with_number m c ≡ with_number n d → (u32_of m ≡ u32_of n) × (c ≡ d)
number_rest m n c d e = (cc, cc)

pub number_then_told : (m n : ℕ) (c d : Content) → IsNumber m → IsNumber n → with_number m c ≡ with_number n d
    → Told with_number m n c d
number_then_told m n c d h k e =
    let p = number_rest m n c d e in
    record { item = number_told m n h k p.0; rest = p.1 }

pub list_told : {A : Type 0} (with_item : A → Content → Content) → Tells with_item → (xs ys : List A)
    (c d : Content) → IsNumber (length xs) → IsNumber (length ys) → with_list with_item xs c ≡ with_list with_item ys d
    → Told (with_list with_item) xs ys c d
list_told with_item tells xs ys c d h k e =
    let n = number_then_told (length xs) (length ys) (with_items with_item xs c) (with_items with_item ys d) h k e in
    let is = items_told with_item tells xs ys c d n.item n.rest in
    record { item = is.item; rest = is.rest }

-- ---- bytes of marks

bool_told : (a b : Bool) → bool_byte a ≡ bool_byte b → a ≡ b
bool_told true true e = refl
bool_told true false e = absurd (cc)
bool_told false true e = absurd (cc)
bool_told false false e = refl

pub eq_told : (a b : Bool) (c d : Content) → with_byte (bool_byte a) c ≡ with_byte (bool_byte b) d
    → (a ≡ b) × (c ≡ d)
eq_told a b c d e =
    let p = byte_told (bool_byte a) (bool_byte b) c d e in
    (bool_told a b p.0, p.1)

cons_parts : {A : Type 0} (x y : A) (xs ys : List A) → (x ∷ xs) ≡ (y ∷ ys) → (x ≡ y) × (xs ≡ ys)
cons_parts x y xs ys e = (cc, cc)

pub marks_told : (ms ns : List Bool) → map bool_byte ms ≡ map bool_byte ns → ms ≡ ns
marks_told [] [] e = refl
marks_told [] (n ∷ ns) e = absurd (cc)
marks_told (m ∷ ms) [] e = absurd (cc)
marks_told (m ∷ ms) (n ∷ ns) e =
    let p = cons_parts (bool_byte m) (bool_byte n) (map bool_byte ms) (map bool_byte ns) e in
    ap₂ (λ z zs. z ∷ zs) (bool_told m n p.0) (marks_told ms ns p.1)
