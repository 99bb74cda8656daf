-- What is left to be read stays the same at each step, or nothing is read.
use Rattle.std.proofs.Common.{◌≡◌, ◌≢◌, ℕ, zero, suc, ◌+◌, ◌<◌, refl, sym, ap, subst, ◌∙◌, List, [], ◌∷◌, ◌++◌, length, get_or, Option, Some, None, arith}
use Rattle.std.proofs.lemmas.List.{length-append}
use Rattle.cm_bytes.specs.Fields.{◌>>=◌, u32_at}
use Rattle.node_bytes.specs.Nodes.{Node, Content, Begun, whole, node_of}
use Rattle.node_bytes.specs.Formats.{Shape}
use Rattle.node_bytes.specs.Interfaces.{interfaces, interface_shape}
use Rattle.node_bytes.specs.Tables.{nowhere, content_of, table_nodes}
use Rattle.node_bytes.specs.declared.table.Item.{Item}
use Rattle.node_bytes.specs.declared.table.Item.TheVariants as item
use Rattle.node_bytes.specs.declared.table.Row.{Row}
use Rattle.node_tables.specs.Tables.{HasParts}
use Rattle.interface_reading.specs.Unbounded.{any_node_at}
use Rattle.interface_reading.specs.Open.{both, Then, going, opened, going_with}
use Rattle.interface_reading.specs.Meeting.{frame_at, rest_shape, Passes, Stops}
use Rattle.interface_reading.specs.Needs.{need_then}
use Rattle.interface_reading.specs.Weights.{bytes_weight, opens_weight, IsLighter}
use Rattle.interface_reading.specs.Remaining.{finish, around, begun_of, left_with, left_of, HasNumber, AreSound, Holds, with_open, with_need, Moves, IsOpened}
use Rattle.interface_reading.specs.declared.needs.Need.{Need}
use Rattle.interface_reading.specs.declared.needs.Need.TheVariants as need
use Rattle.interface_reading.specs.declared.open.Open.{Open}
use Rattle.interface_reading.specs.declared.reading.Reading.{Reading}
use Rattle.interface_reading.proofs.Awaited.{over_snoc}
use Rattle.interface_reading.proofs.Moves.{going_part, node_opens, node_back}
use Rattle.interface_reading.proofs.Around.{around_snoc, remaining_snoc, begun_snoc, length_begun, node_begun, none_begun}
use Rattle.interface_reading.proofs.Opens.{AllBelow, open_snoc, snoc_open, open_more, parts_snoc, needs_snoc, opens_snoc}

abbrev made_of : Reading → List Node
made_of s = table_nodes s.rows.keys

abbrev begun_in : Reading → Begun
begun_in s = begun_of (made_of s) s.numbers.items

-- ---- lists that are said of a state

pub moved : (P : List Row → List (Option ℕ) → List Open → Type 0) (rows : List Row) (numbers : List (Option ℕ))
    (opens : List Open) (s : Reading) → s.rows.keys ≡ rows → s.numbers.items ≡ numbers → s.opens ≡ opens
    → P rows numbers opens → P s.rows.keys s.numbers.items s.opens
moved P rows numbers opens s e k l h =
    subst (λ (r : List Row). P r s.numbers.items s.opens) (sym e)
    (subst (λ (n : List (Option ℕ)). P rows n s.opens) (sym k)
    (subst (λ (z : List Open). P rows numbers z) (sym l) h))

-- a number that no place has is the last one
longer_at : (numbers : List (Option ℕ)) (n p : ℕ) → get_or (numbers ++ None ∷ []) n None ≡ Some p
    → get_or numbers n None ≡ Some p
longer_at [] zero p e = absurd (cc)
longer_at [] (suc n) p e = absurd (cc)
longer_at (x ∷ numbers) zero p e = e
longer_at (x ∷ numbers) (suc n) p e = longer_at numbers n p e

longer_get : (numbers : List (Option ℕ)) (n p : ℕ) → get_or numbers n None ≡ Some p
    → get_or (numbers ++ None ∷ []) n None ≡ Some p
longer_get [] n p e = absurd (cc)
longer_get (x ∷ numbers) zero p e = e
longer_get (x ∷ numbers) (suc n) p e = longer_get numbers n p e

longer_has : (numbers : List (Option ℕ)) (p : ℕ) → HasNumber numbers p → HasNumber (numbers ++ None ∷ []) p
longer_has numbers p h = record { number = h.number; is = longer_get numbers h.number p h.is }

-- what is left in the innermost node, and then in those around it
pub left_in : (s : Reading) (o : Open) (bytes : List ℕ)
    → left_of (with_open s o) bytes
    ≡ going interfaces (around (made_of s) finish s.opens) (frame_at (made_of s) o (rest_shape o)) (begun_in s) bytes
left_in s o bytes = remaining_snoc (made_of s) finish s.opens o (begun_in s) bytes

-- where a need is awaited first in it
pub left_at : (s : Reading) (o : Open) (n : Need) (bytes : List ℕ)
    → left_of (with_open s (with_need o n)) bytes
    ≡ going interfaces (around (made_of s) finish s.opens) (frame_at (made_of s) o (need_then n (rest_shape o)))
    (begun_in s) bytes
left_at s o n bytes =
    left_in s (with_need o n) bytes
    ∙ ap (λ (shape : Shape). going interfaces (around (made_of s) finish s.opens) (frame_at (made_of s) o shape)
    (begun_in s) bytes) (over_snoc Shape.complete o.needs n)

-- another node innermost, with the same number, and parts that are whole
holds_with : (s : Reading) (old new : Open) → Holds (with_open s old) → new.number ≡ old.number
    → (HasParts (length s.rows.keys) old.items → HasParts (length s.rows.keys) new.items) → Holds (with_open s new)
holds_with s old new h number parts =
    let count = length s.rows.keys in
    let numbers = s.numbers.items in
    let k = open_snoc count numbers s.opens old h.nested in
    record {
      ordered = h.ordered;
      placed = h.placed;
      stands = h.stands;
      nested = snoc_open count numbers s.opens new k.opens (subst (λ n. AllBelow n s.opens) (sym number) k.below)
          (record {
            within = subst (λ n. n < length numbers) (sym number) k.inner.within;
            free = ap (λ (n : ℕ). get_or numbers n None) number ∙ k.inner.free;
            parts = parts k.inner.parts;
          });
      some = let one = length-append s.opens (new ∷ []) in omega (arith, one);
    }

-- less is left in all
lighter : (xs : List Open) (old new : Open) (n : Need) (bytes rest : List ℕ)
    → IsLighter n bytes old.needs rest new.needs
    → bytes_weight rest + opens_weight (xs ++ new ∷ []) < bytes_weight bytes + opens_weight (xs ++ with_need old n ∷ [])
lighter xs old new n bytes rest h =
    let a = opens_snoc xs new in
    let b = opens_snoc xs (with_need old n) in
    let c = needs_snoc old.needs n in
    omega (arith, a, b, c, h)

-- ---- what was awaited is met, and isn't a part

pub field_met : (s : Reading) (old new : Open) (n : Need) (bytes rest : List ℕ)
    → Holds (with_open s (with_need old n)) → Passes (need_then n (rest_shape old)) old new bytes rest
    → IsLighter n bytes old.needs rest new.needs
    → Moves (with_open s (with_need old n)) (with_open s new) bytes rest
field_met s old new n bytes rest h met less = record {
  holds = holds_with s (with_need old n) new h met.number (met.parts (length s.rows.keys));
  goes = left_at s old n bytes
      ∙ met.goes (made_of s) (around (made_of s) finish s.opens) (begun_in s)
      ∙ sym (left_in s new rest);
  less = lighter s.opens old new n bytes rest less;
}

pub field_stops : (s : Reading) (old : Open) (n : Need) (bytes : List ℕ) → Stops (need_then n (rest_shape old)) old bytes
    → left_of (with_open s (with_need old n)) bytes ≡ None
field_stops s old n bytes h =
    left_at s old n bytes ∙ h.stops (made_of s) (around (made_of s) finish s.opens) (begun_in s)

-- ---- a part was awaited

-- what is done with it
abbrev outside : Reading → Open → Then
outside s o =
    going_with interfaces (around (made_of s) finish s.opens) (frame_at (made_of s) o Shape.complete) (rest_shape o)

part_goes : (s : Reading) (o : Open) (bytes : List ℕ)
    → left_of (with_open s (with_need o need.Part)) bytes
    ≡ (any_node_at interfaces (begun_in s) bytes >>= λ x. outside s o (begun_in s ++ whole x.0.1) x.0.0 x.1)
part_goes s o bytes =
    left_at s o need.Part bytes
    ∙ going_part interfaces (around (made_of s) finish s.opens) (frame_at (made_of s) o (Shape.part (rest_shape o)))
    (begun_in s) bytes (rest_shape o) refl

pub part_ends : (s : Reading) (o : Open) → left_of (with_open s (with_need o need.Part)) [] ≡ None
part_ends s o = part_goes s o []

-- a back reference
abbrev pub with_part : Open → ℕ → Open
with_part o p = record o { items = o.items ++ item.Part p ∷ [] }

content_part : (made : List Node) (items : List Item) (p : ℕ)
    → content_of made (items ++ item.Part p ∷ [])
    ≡ both (content_of made items) (Content.part (get_or made p nowhere) Content.nothing)
content_part made [] p = refl
content_part made (item.Piece s ∷ items) p = ap (Content.piece s) (content_part made items p)
content_part made (item.Part q ∷ items) p =
    ap (Content.part (get_or made q nowhere)) (content_part made items p)

-- where a part that is whole is handed on
pub handed : (made : List Node) (done : Then) (o : Open) (p : ℕ) (begun : Begun) (bytes : List ℕ)
    → going_with interfaces done (frame_at made o Shape.complete) (rest_shape o) begun (get_or made p nowhere) bytes
    ≡ going interfaces done (frame_at made (with_part o p) (rest_shape (with_part o p))) begun bytes
handed made done o p begun bytes =
    ap (λ (c : Content). going interfaces done
    (record {
      tag = o.tag;
      number = o.number;
      before = c;
      shape = rest_shape o;
    }) begun bytes) (sym (content_part made o.items p))

abbrev follows : Reading → Open → ℕ × List ℕ → Option (Node × List ℕ)
follows s o n = node_of (begun_in s) n.0 >>= λ x. outside s o (begun_in s) x n.1

back_goes : (s : Reading) (o : Open) (bytes : List ℕ)
    → left_of (with_open s (with_need o need.Part)) (12 ∷ bytes) ≡ (u32_at bytes >>= follows s o)
back_goes s o bytes = part_goes s o (12 ∷ bytes) ∙ node_back interfaces (outside s o) (begun_in s) bytes

pub back_short : (s : Reading) (o : Open) (bytes : List ℕ) → u32_at bytes ≡ None
    → left_of (with_open s (with_need o need.Part)) (12 ∷ bytes) ≡ None
back_short s o bytes e =
    back_goes s o bytes ∙ ap (λ (r : Option (ℕ × List ℕ)). r >>= follows s o) e

pub back_nowhere : (s : Reading) (o : Open) (bytes rest : List ℕ) (n : ℕ) → u32_at bytes ≡ Some (n, rest)
    → get_or s.numbers.items n None ≡ None
    → left_of (with_open s (with_need o need.Part)) (12 ∷ bytes) ≡ None
back_nowhere s o bytes rest n e none =
    back_goes s o bytes ∙ ap (λ (r : Option (ℕ × List ℕ)). r >>= follows s o) e
    ∙ ap (λ (r : Option Node). r >>= λ x. outside s o (begun_in s) x rest)
    (none_begun (made_of s) s.numbers.items n none)

pub back_followed : (s : Reading) (o : Open) (bytes rest : List ℕ) (n p : ℕ)
    → Holds (with_open s (with_need o need.Part)) → u32_at bytes ≡ Some (n, rest)
    → length rest < length bytes → get_or s.numbers.items n None ≡ Some p
    → Moves (with_open s (with_need o need.Part)) (with_open s (with_part o p)) (12 ∷ bytes) rest
back_followed s o bytes rest n p h e fewer place = record {
  holds = holds_with s (with_need o need.Part) (with_part o p) h refl
      (λ k. parts_snoc (length s.rows.keys) o.items p (h.placed n p place) k);
  goes = back_goes s o bytes ∙ ap (λ (r : Option (ℕ × List ℕ)). r >>= follows s o) e
      ∙ ap (λ (r : Option Node). r >>= λ x. outside s o (begun_in s) x rest)
      (node_begun (made_of s) s.numbers.items n p place)
      ∙ handed (made_of s) (around (made_of s) finish s.opens) o p (begun_in s) rest
      ∙ sym (left_in s (with_part o p) rest);
  less = lighter s.opens o (with_part o p) need.Part (12 ∷ bytes) rest (omega (arith, fewer));
}

-- ---- a node is opened

open_goes : (s : Reading) (o : Open) (tag : ℕ) (bytes : List ℕ) → tag ≢ 12
    → left_of (with_open s (with_need o need.Part)) (tag ∷ bytes)
    ≡ going interfaces (outside s o) (opened interfaces tag (length (begun_in s))) (begun_in s ++ None ∷ []) bytes
open_goes s o tag bytes other =
    part_goes s o (tag ∷ bytes) ∙ node_opens interfaces (outside s o) (begun_in s) tag bytes other

pub open_refused : (s : Reading) (o : Open) (tag : ℕ) (bytes : List ℕ) → tag ≢ 12
    → interface_shape tag ≡ Shape.refused
    → left_of (with_open s (with_need o need.Part)) (tag ∷ bytes) ≡ None
open_refused s o tag bytes other none =
    open_goes s o tag bytes other
    ∙ ap (λ (shape : Shape). going interfaces (outside s o)
    (record {
      tag = tag;
      number = length (begun_in s);
      before = Content.nothing;
      shape = shape;
    }) (begun_in s ++ None ∷ []) bytes) none

abbrev fresh : ℕ → ℕ → List Need → Open
fresh tag number needs = record { tag = tag; number = number; needs = needs; items = [] }

-- reading in the new node
pub fresh_goes : (s : Reading) (done : Then) (tag : ℕ) (needs : List Need) (bytes : List ℕ)
    → rest_shape (fresh tag 0 needs) ≡ interface_shape tag
    → going interfaces done (opened interfaces tag (length (begun_in s))) (begun_in s ++ None ∷ []) bytes
    ≡ going interfaces done
    (frame_at (made_of s) (fresh tag (length s.numbers.items) needs) (rest_shape (fresh tag 0 needs)))
    (begun_of (made_of s) (s.numbers.items ++ None ∷ [])) bytes
fresh_goes s done tag needs bytes shape =
    ap (λ (n : ℕ). going interfaces done (opened interfaces tag n) (begun_in s ++ None ∷ []) bytes)
    (length_begun (made_of s) s.numbers.items)
    ∙ ap (λ (b : Begun). going interfaces done (opened interfaces tag (length s.numbers.items)) b bytes)
    (sym (begun_snoc (made_of s) s.numbers.items))
    ∙ ap (λ (z : Shape). going interfaces done
    (record {
      tag = tag;
      number = length s.numbers.items;
      before = Content.nothing;
      shape = z;
    }) (begun_of (made_of s) (s.numbers.items ++ None ∷ [])) bytes) (sym shape)

-- what holds with one more node open
open_holds : (rows : List Row) (numbers : List (Option ℕ)) (xs : List Open) (o : Open) (tag : ℕ) (needs : List Need)
    → AreSound rows numbers (xs ++ o ∷ [])
    → AreSound rows (numbers ++ None ∷ []) ((xs ++ o ∷ []) ++ fresh tag (length numbers) needs ∷ [])
open_holds rows numbers xs o tag needs h = record {
  ordered = h.ordered;
  placed = λ n p e. h.placed n p (longer_at numbers n p e);
  stands = λ p lt. longer_has numbers p (h.stands p lt);
  nested = open_more (length rows) numbers (xs ++ o ∷ []) (fresh tag (length numbers) needs) h.nested refl refl;
  some = let one = length-append (xs ++ o ∷ []) (fresh tag (length numbers) needs ∷ []) in omega (arith, one);
}

pub node_opened : (s new : Reading) (o : Open) (tag : ℕ) (bytes : List ℕ) → tag ≢ 12
    → Holds (with_open s (with_need o need.Part)) → IsOpened tag (with_open s o) new
    → Moves (with_open s (with_need o need.Part)) new (tag ∷ bytes) bytes
node_opened s new o tag bytes other h k =
    let rows = s.rows.keys in
    let numbers = s.numbers.items in
    let xs = s.opens ++ o ∷ [] in
    let inner = fresh tag (length numbers) k.needs in
    let sound = open_holds rows numbers s.opens o tag k.needs (holds_with s (with_need o need.Part) o h refl (λ p. p)) in
    let goes : left_of (with_open s (with_need o need.Part)) (tag ∷ bytes)
    ≡ left_with rows (numbers ++ None ∷ []) (xs ++ inner ∷ []) bytes =
    open_goes s o tag bytes other
    ∙ ap (λ (done : Then). going interfaces done (opened interfaces tag (length (begun_in s)))
    (begun_in s ++ None ∷ []) bytes) (sym (around_snoc (made_of s) finish s.opens o))
    ∙ fresh_goes s (around (made_of s) finish xs) tag k.needs bytes k.shape
    ∙ sym (remaining_snoc (made_of s) finish xs inner (begun_of (made_of s) (numbers ++ None ∷ [])) bytes) in
    let few = k.awaits in
    let a = opens_snoc s.opens (with_need o need.Part) in
    let b = opens_snoc s.opens o in
    let c = needs_snoc o.needs need.Part in
    let d = opens_snoc xs inner in
    record {
      holds = moved (λ r n z. AreSound r n z) rows (numbers ++ None ∷ []) (xs ++ inner ∷ []) new k.rows k.numbers k.opens
          sound;
      goes = moved (λ r n z. left_of (with_open s (with_need o need.Part)) (tag ∷ bytes) ≡ left_with r n z bytes) rows
          (numbers ++ None ∷ []) (xs ++ inner ∷ []) new k.rows k.numbers k.opens goes;
      less = subst (λ (z : List Open). bytes_weight bytes + opens_weight z
          < bytes_weight (tag ∷ bytes) + opens_weight (s.opens ++ with_need o need.Part ∷ [])) (sym k.opens)
          (omega (arith, a, b, c, d, few));
    }
