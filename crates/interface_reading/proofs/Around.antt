-- The open nodes around one, and the nodes that were begun, as nodes are added.
use Rattle.std.proofs.Common.{◌≡◌, ◌≢◌, ℕ, zero, suc, ◌<◌, refl, sym, ap, ap₂, ◌∙◌, List, [], ◌∷◌, ◌++◌, length, get_or, set, Bool, true, false, Option, Some, None}
use Rattle.std.proofs.lemmas.List.{get_or_append_left}
use Rattle.cm_bytes.specs.Fields.{◌>>=◌}
use Rattle.node_bytes.specs.Nodes.{Node, Content, Begun, number_of, node_of, one_on, here_or}
use Rattle.node_bytes.specs.Formats.{Shape}
use Rattle.node_bytes.specs.Reading.{if_new}
use Rattle.node_bytes.specs.Interfaces.{interfaces}
use Rattle.node_bytes.specs.Tables.{nowhere, content_of}
use Rattle.node_bytes.specs.declared.table.Item.{Item}
use Rattle.node_bytes.proofs.Rows.{content_same}
use Rattle.node_bytes.proofs.Same.{node_apart}
use Rattle.node_bytes.proofs.Numbers.{number_none, stands_at}
use Rattle.node_tables.specs.Tables.{HasParts}
use Rattle.interface_reading.specs.Open.{Then, going, going_with}
use Rattle.interface_reading.specs.Meeting.{frame_at, rest_shape}
use Rattle.interface_reading.specs.Remaining.{around, remaining_in, remaining, begun_of, AreOpen}
use Rattle.interface_reading.specs.declared.open.Open.{Open}

-- ---- the innermost node

pub around_snoc : (made : List Node) (done : Then) (xs : List Open) (o : Open)
    → around made done (xs ++ o ∷ [])
    ≡ going_with interfaces (around made done xs) (frame_at made o Shape.complete) (rest_shape o)
around_snoc made done [] o = refl
around_snoc made done (x ∷ xs) o =
    around_snoc made (going_with interfaces done (frame_at made x Shape.complete) (rest_shape x)) xs o

in_snoc : (made : List Node) (done : Then) (x : Open) (xs : List Open) (o : Open) (begun : Begun) (bytes : List ℕ)
    → remaining_in made done x (xs ++ o ∷ []) begun bytes
    ≡ going interfaces (around made done (x ∷ xs)) (frame_at made o (rest_shape o)) begun bytes
in_snoc made done x [] o begun bytes = refl
in_snoc made done x (y ∷ ys) o begun bytes =
    in_snoc made (going_with interfaces done (frame_at made x Shape.complete) (rest_shape x)) y ys o begun bytes

pub remaining_snoc : (made : List Node) (done : Then) (xs : List Open) (o : Open) (begun : Begun) (bytes : List ℕ)
    → remaining made done (xs ++ o ∷ []) begun bytes
    ≡ going interfaces (around made done xs) (frame_at made o (rest_shape o)) begun bytes
remaining_snoc made done [] o begun bytes = refl
remaining_snoc made done (x ∷ xs) o begun bytes = in_snoc made done x xs o begun bytes

-- ---- one node more

content_grown : (made : List Node) (x : Node) (items : List Item) → HasParts (length made) items
    → content_of (made ++ x ∷ []) items ≡ content_of made items
content_grown made x items h =
    content_same (made ++ x ∷ []) made (length made) items h.below
    (λ p lt. get_or_append_left made (x ∷ []) nowhere p lt)

pub around_grown : (made : List Node) (x : Node) (done : Then) (numbers : List (Option ℕ)) (xs : List Open)
    → AreOpen (length made) numbers xs → around (made ++ x ∷ []) done xs ≡ around made done xs
around_grown made x done numbers [] h = refl
around_grown made x done numbers (o ∷ inner) h =
    ap (λ (c : Content). around (made ++ x ∷ [])
    (going_with interfaces done (record {
      tag = o.tag;
      number = o.number;
      before = c;
      shape = Shape.complete;
    }) (rest_shape o)) inner) (content_grown made x o.items h.0.parts)
    ∙ around_grown made x (going_with interfaces done (frame_at made o Shape.complete) (rest_shape o)) numbers inner h.2

pub begun_grown : (made : List Node) (x : Node) (numbers : List (Option ℕ))
    → ((n p : ℕ) → get_or numbers n None ≡ Some p → p < length made)
    → begun_of (made ++ x ∷ []) numbers ≡ begun_of made numbers
begun_grown made x [] h = refl
begun_grown made x (None ∷ ns) h = ap (λ (b : Begun). None ∷ b) (begun_grown made x ns (λ n. h (suc n)))
begun_grown made x (Some p ∷ ns) h =
    ap₂ (λ (y : Node) (b : Begun). Some y ∷ b) (get_or_append_left made (x ∷ []) nowhere p (h 0 p refl))
    (begun_grown made x ns (λ n. h (suc n)))

-- ---- what was begun

pub begun_snoc : (made : List Node) (numbers : List (Option ℕ))
    → begun_of made (numbers ++ None ∷ []) ≡ begun_of made numbers ++ None ∷ []
begun_snoc made [] = refl
begun_snoc made (None ∷ ns) = ap (λ (b : Begun). None ∷ b) (begun_snoc made ns)
begun_snoc made (Some p ∷ ns) = ap (λ (b : Begun). Some (get_or made p nowhere) ∷ b) (begun_snoc made ns)

pub length_begun : (made : List Node) (numbers : List (Option ℕ)) → length (begun_of made numbers) ≡ length numbers
length_begun made [] = refl
length_begun made (None ∷ ns) = ap suc (length_begun made ns)
length_begun made (Some p ∷ ns) = ap suc (length_begun made ns)

pub begun_set : (made : List Node) (numbers : List (Option ℕ)) (n p : ℕ)
    → begun_of made (set numbers n (Some p)) ≡ set (begun_of made numbers) n (Some (get_or made p nowhere))
begun_set made [] n p = refl
begun_set made (None ∷ ns) zero p = refl
begun_set made (Some q ∷ ns) zero p = refl
begun_set made (None ∷ ns) (suc n) p = ap (λ (b : Begun). None ∷ b) (begun_set made ns n p)
begun_set made (Some q ∷ ns) (suc n) p =
    ap (λ (b : Begun). Some (get_or made q nowhere) ∷ b) (begun_set made ns n p)

pub node_begun : (made : List Node) (numbers : List (Option ℕ)) (n p : ℕ) → get_or numbers n None ≡ Some p
    → node_of (begun_of made numbers) n ≡ Some (get_or made p nowhere)
node_begun made [] n p e = absurd (cc)
node_begun made (None ∷ ns) zero p e = absurd (cc)
node_begun made (Some q ∷ ns) zero p e =
    let is : q ≡ p = cc in
    ap (λ (i : ℕ). Some (get_or made i nowhere)) is
node_begun made (None ∷ ns) (suc n) p e = node_begun made ns n p e
node_begun made (Some q ∷ ns) (suc n) p e = node_begun made ns n p e

pub none_begun : (made : List Node) (numbers : List (Option ℕ)) (n : ℕ) → get_or numbers n None ≡ None
    → node_of (begun_of made numbers) n ≡ None
none_begun made [] n e = refl
none_begun made (None ∷ ns) zero e = refl
none_begun made (Some q ∷ ns) zero e = absurd (cc)
none_begun made (None ∷ ns) (suc n) e = none_begun made ns n e
none_begun made (Some q ∷ ns) (suc n) e = none_begun made ns n e

-- ---- whether a node stands already

pub number_new : (made : List Node) (numbers : List (Option ℕ)) (x : Node) (count : ℕ)
    → ((n p : ℕ) → get_or numbers n None ≡ Some p → p < count)
    → ((p : ℕ) → p < count → get_or made p nowhere ≢ x) → number_of (begun_of made numbers) x ≡ None
number_new made [] x count placed apart = refl
number_new made (None ∷ ns) x count placed apart =
    ap one_on (number_new made ns x count (λ n. placed (suc n)) apart)
number_new made (Some p ∷ ns) x count placed apart =
    ap (λ (b : Bool). here_or b (number_of (begun_of made ns) x))
    (node_apart x (get_or made p nowhere) (λ e. apart p (placed 0 p refl) (sym e)))
    ∙ ap one_on (number_new made ns x count (λ n. placed (suc n)) apart)

pub number_old : {A : Type 0} (begun : Begun) (x : Node) (k : ℕ) (next : Node → Option A) → node_of begun k ≡ Some x
    → (if_new (number_of begun x) x >>= next) ≡ None
number_old {A} begun x k next e = by (number_of begun x) refl
  where
    by : (o : Option ℕ) → number_of begun x ≡ o → (if_new o x >>= next) ≡ None
    by (Some n) is = refl
    by None is = let t : true ≡ false = sym (stands_at begun k x e) ∙ number_none begun x is in absurd (cc)
