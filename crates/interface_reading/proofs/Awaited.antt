-- What is awaited behind a tag, and how each of it is met.
use Rattle.std.proofs.Common.{◌≡◌, ℕ, zero, suc, ◌<◌, ◌≤◌, refl, sym, ap, subst, ◌∙◌, List, [], ◌∷◌, ◌++◌, length, take, drop, get_or, Bool, true, false, cond, ltb, Option, Some, None, Result, Ok, Err, arith}
use Rattle.std.specs.Prelude.{IfOk, OnOk, slice_get}
use Rattle.std.proofs.lemmas.List.{length-take}
use Rattle.std.proofs.lemmas.Bool.{ltb-false}
use Rattle.cm_base.specs.declared.fault.NoMemory.{NoMemory}
use Rattle.cm_bytes.specs.Fields.{◌>>=◌, raw_at}
use Rattle.cm_bytes.proofs.Fields.{some_is}
use Rattle.node_bytes.specs.Nodes.{Node, Content}
use Rattle.node_bytes.specs.Formats.{Shape}
use Rattle.node_bytes.specs.Shapes.{number, byte_then, text_then, items_then}
use Rattle.node_bytes.specs.Interfaces.{owner_then, named_then, value_then, interface_shape, interfaces}
use Rattle.node_bytes.specs.Tables.{nowhere, content_of}
use Rattle.node_bytes.specs.declared.table.Item.{Item}
use Rattle.node_bytes.specs.declared.table.Item.TheVariants as item
use Rattle.node_tables.specs.Tables.{HasParts}
use Rattle.interface_reading.specs.Open.{both, going, on}
use Rattle.interface_reading.specs.Meeting.{frame_at, rest_shape, Passes}
use Rattle.interface_reading.specs.declared.needs.Listed.{Listed}
use Rattle.interface_reading.specs.declared.needs.Need.TheVariants as need
use Rattle.interface_reading.specs.declared.open.Open.{Open}
use Rattle.interface_reading.proofs.Moves.{going_piece}
use Rattle.interface_reading.specs.declared.fault.RestoreFault.{RestoreFault}
use Rattle.interface_reading.specs.declared.fault.RestoreFault.TheVariants as fault
use Rattle.interface_reading.specs.declared.needs.Need.{Need}
use Rattle.interface_reading.specs.Needs.{listed_then, need_then, shape_over, NoBad, HasNeeds}

pub needs_are : (tag n : ℕ) (needs : List Need) (r : Result (List Need) RestoreFault) → tag ≡ n
    → shape_over Shape.complete needs ≡ interface_shape n → IfOk r (λ list. list ≡ needs) → NoBad r → HasNeeds tag r
needs_are tag n needs (Ok list) at is e h =
    ap (shape_over Shape.complete) e ∙ is ∙ ap interface_shape (sym at)
needs_are tag n needs (Err fault.BadInterface) at is e h = absurd h
needs_are tag n needs (Err fault.NoMemory) at is e h = tt

pub over_snoc : (next : Shape) (needs : List Need) (n : Need)
    → shape_over next (needs ++ n ∷ []) ≡ need_then n (shape_over next needs)
over_snoc next [] n = refl
over_snoc next (m ∷ needs) n = over_snoc (need_then m next) needs n

pub on_ok_then : {P Q : Type 0} (r : Result (Unit {0}) NoMemory) → OnOk r P → (P → Q) → OnOk r Q
on_ok_then (Ok done) h f = f h
on_ok_then (Err e) h f = tt

-- ---- a piece was awaited

guard_length : (n : ℕ) (bytes text rest : List ℕ) (b : Bool) → ltb (length bytes) n ≡ b
    → cond {A = Option (List ℕ × List ℕ)} b None (Some (take n bytes, drop n bytes)) ≡ Some (text, rest)
    → length text ≡ n
guard_length n bytes text rest true is e = absurd (cc)
guard_length n bytes text rest false is e =
    let long : n ≤ length bytes = ltb-false (length bytes) n is in
    let count : length (take n bytes) ≡ n = omega (arith, long, length-take n bytes) in
    sym (ap (λ (p : List ℕ × List ℕ). length p.0) (some_is (take n bytes, drop n bytes) (text, rest) e)) ∙ count

raw_of_length : (n : ℕ) (bytes text rest : List ℕ) → raw_at n bytes ≡ Some (text, rest) → length text ≡ n
unfolding raw_at
raw_of_length n bytes text rest e = guard_length n bytes text rest (ltb (length bytes) n) refl e

pub four_bytes : (bytes text rest : List ℕ) → raw_at 4 bytes ≡ Some (text, rest) → length text ≡ 4
four_bytes bytes text rest e = raw_of_length 4 bytes text rest e

content_snoc : (made : List Node) (items : List Item) (text : List ℕ)
    → content_of made (items ++ item.Piece text ∷ []) ≡ both (content_of made items) (Content.piece text Content.nothing)
content_snoc made [] text = refl
content_snoc made (item.Piece s ∷ items) text = ap (Content.piece s) (content_snoc made items text)
content_snoc made (item.Part p ∷ items) text =
    ap (Content.part (get_or made p nowhere)) (content_snoc made items text)

parts_snoc : (items : List Item) (text : List ℕ) (count : ℕ) → HasParts count items
    → HasParts count (items ++ item.Piece text ∷ [])
parts_snoc [] text count h = record { below = at }
  where
    at : (k part : ℕ) → slice_get (item.Piece text ∷ []) k ≡ Some (item.Part part) → part < count
    at zero part e = absurd (cc)
    at (suc k) part e = absurd (cc)
parts_snoc (x ∷ items) text count h =
    record { below = at (parts_snoc items text count (record { below = λ k. h.below (suc k) })) (h.below 0) }
  where
    at : HasParts count (items ++ item.Piece text ∷ [])
        → ((part : ℕ) → slice_get (x ∷ items) 0 ≡ Some (item.Part part) → part < count) → (k part : ℕ)
        → slice_get (x ∷ (items ++ item.Piece text ∷ [])) k ≡ Some (item.Part part) → part < count
    at later first zero part e = first part e
    at later first (suc k) part e = later.below k part e

abbrev pub open_of : ℕ → ℕ → List Need → List Item → Open
open_of tag number needs items = record { tag = tag; number = number; needs = needs; items = items }

pub piece_met : (n : ℕ) (next : List ℕ → Shape) (old : Open) (needs : List Need) (bytes text rest : List ℕ)
    → raw_at n bytes ≡ Some (text, rest) → next text ≡ shape_over Shape.complete needs
    → Passes (Shape.piece n next) old (open_of old.tag old.number needs (old.items ++ item.Piece text ∷ [])) bytes rest
piece_met n next old needs bytes text rest e is = record {
  tag = refl;
  number = refl;
  parts = parts_snoc old.items text;
  goes = λ made done begun.
      going_piece interfaces done (frame_at made old (Shape.piece n next)) begun bytes n next refl
      ∙ ap (λ (r : Option (List ℕ × List ℕ)). r >>= λ t. going interfaces done
      (on (frame_at made old (Shape.piece n next)) (Content.piece t.0 Content.nothing) (next t.0)) begun t.1) e
      ∙ ap (λ (s : Shape). going interfaces done
      (on (frame_at made old (Shape.piece n next)) (Content.piece text Content.nothing) s) begun rest) is
      ∙ ap (λ (c : Content). going interfaces done
      (record {
        tag = old.tag;
        number = old.number;
        before = c;
        shape = shape_over Shape.complete needs;
      }) begun rest) (sym (content_snoc made old.items text));
}

-- ---- each need

pub raw_met : (n : ℕ) (old new : Open) (bytes text rest : List ℕ) → raw_at n bytes ≡ Some (text, rest)
    → new ≡ open_of old.tag old.number old.needs (old.items ++ item.Piece text ∷ [])
    → Passes (need_then (need.Raw n) (rest_shape old)) old new bytes rest
raw_met n old new bytes text rest e is =
    subst (λ (o : Open). Passes (need_then (need.Raw n) (rest_shape old)) old o bytes rest) (sym is)
    (piece_met n (λ _. rest_shape old) old old.needs bytes text rest e refl)

pub text_met : (old new : Open) (bytes text rest : List ℕ) → raw_at 4 bytes ≡ Some (text, rest)
    → new ≡ open_of old.tag old.number (old.needs ++ need.Raw (number text) ∷ []) (old.items ++ item.Piece text ∷ [])
    → Passes (need_then need.Text (rest_shape old)) old new bytes rest
text_met old new bytes text rest e is =
    subst (λ (o : Open). Passes (need_then need.Text (rest_shape old)) old o bytes rest) (sym is)
    (piece_met 4 (λ n. Shape.piece (number n) (λ _. rest_shape old)) old (old.needs ++ need.Raw (number text) ∷ [])
    bytes text rest e (sym (over_snoc Shape.complete old.needs (need.Raw (number text)))))

pub list_met : (l : Listed) (old new : Open) (bytes text rest : List ℕ) → raw_at 4 bytes ≡ Some (text, rest)
    → new ≡ open_of old.tag old.number (old.needs ++ need.Items l (number text) ∷ [])
    (old.items ++ item.Piece text ∷ [])
    → Passes (need_then (need.List l) (rest_shape old)) old new bytes rest
list_met l old new bytes text rest e is =
    subst (λ (o : Open). Passes (need_then (need.List l) (rest_shape old)) old o bytes rest) (sym is)
    (piece_met 4 (λ n. items_then (listed_then l) (number n) (rest_shape old)) old
    (old.needs ++ need.Items l (number text) ∷ []) bytes text rest e
    (sym (over_snoc Shape.complete old.needs (need.Items l (number text)))))

-- ---- no bytes are read

pub rest_met : (shape : Shape) (old : Open) (needs : List Need) (bytes : List ℕ)
    → shape_over Shape.complete needs ≡ shape
    → Passes shape old (open_of old.tag old.number needs old.items) bytes bytes
rest_met shape old needs bytes is = record {
  tag = refl;
  number = refl;
  parts = λ count h. h;
  goes = λ made done begun.
      ap (λ (s : Shape). going interfaces done (frame_at made old s) begun bytes) (sym is);
}

pub items_more : (l : Listed) (n m : ℕ) (old : Open) (needs : List Need) (bytes : List ℕ) → n ≡ suc m
    → shape_over Shape.complete needs
    ≡ listed_then l (shape_over Shape.complete (old.needs ++ need.Items l m ∷ []))
    → Passes (need_then (need.Items l n) (rest_shape old)) old (open_of old.tag old.number needs old.items) bytes bytes
items_more l n m old needs bytes e is =
    rest_met (need_then (need.Items l n) (rest_shape old)) old needs bytes
    (is ∙ ap (listed_then l) (over_snoc Shape.complete old.needs (need.Items l m))
    ∙ ap (λ (i : ℕ). items_then (listed_then l) i (rest_shape old)) (sym e))

-- the parts of an item
pub item_part : (needs after : List Need) → after ≡ needs ++ need.Part ∷ []
    → shape_over Shape.complete after ≡ Shape.part (shape_over Shape.complete needs)
item_part needs after e = ap (shape_over Shape.complete) e ∙ over_snoc Shape.complete needs need.Part

pub item_named : (needs one after : List Need) → one ≡ needs ++ need.Part ∷ [] → after ≡ one ++ need.Text ∷ []
    → shape_over Shape.complete after ≡ named_then (shape_over Shape.complete needs)
item_named needs one after e k =
    ap (shape_over Shape.complete) k ∙ over_snoc Shape.complete one need.Text ∙ ap text_then (item_part needs one e)

pub item_value : (needs one two after : List Need) → one ≡ needs ++ need.Part ∷ [] → two ≡ one ++ need.Raw 1 ∷ []
    → after ≡ two ++ need.Text ∷ []
    → shape_over Shape.complete after ≡ value_then (shape_over Shape.complete needs)
item_value needs one two after e j k =
    ap (shape_over Shape.complete) k ∙ over_snoc Shape.complete two need.Text
    ∙ ap (λ (s : Shape). text_then s)
    (ap (shape_over Shape.complete) j ∙ over_snoc Shape.complete one (need.Raw 1)
    ∙ ap (λ (s : Shape). byte_then s) (item_part needs one e))

-- ---- whose a type name is

pub one_byte : (bytes text rest : List ℕ) → raw_at 1 bytes ≡ Some (text, rest) → length text ≡ 1
one_byte bytes text rest e = raw_of_length 1 bytes text rest e

abbrev one_piece : ℕ → Item
one_piece kind = item.Piece (kind ∷ [])

-- nothing more, or a text, stands behind it
pub owner_met : (old new : Open) (needs : List Need) (bytes rest : List ℕ) (kind : ℕ)
    → raw_at 1 bytes ≡ Some (kind ∷ [], rest)
    → owner_then (kind ∷ []) (rest_shape old) ≡ shape_over Shape.complete needs
    → new ≡ open_of old.tag old.number needs (old.items ++ one_piece kind ∷ [])
    → Passes (need_then need.Owner (rest_shape old)) old new bytes rest
owner_met old new needs bytes rest kind e is k =
    subst (λ (o : Open). Passes (need_then need.Owner (rest_shape old)) old o bytes rest) (sym k)
    (piece_met 1 (λ t. owner_then t (rest_shape old)) old needs bytes (kind ∷ []) rest e is)

pub owner_text : (old : Open) (needs : List Need) (kind : ℕ) → kind ≡ 2 → needs ≡ old.needs ++ need.Text ∷ []
    → owner_then (kind ∷ []) (rest_shape old) ≡ shape_over Shape.complete needs
owner_text old needs kind is e =
    ap (λ (k : ℕ). owner_then (k ∷ []) (rest_shape old)) is
    ∙ sym (over_snoc Shape.complete old.needs need.Text) ∙ sym (ap (shape_over Shape.complete) e)

pub owner_plain : (next : Shape) (kind : ℕ) → kind ≤ 3 → (kind ≡ 2 → ⊥) → owner_then (kind ∷ []) next ≡ next
owner_plain next zero le other = refl
owner_plain next (suc zero) le other = refl
owner_plain next (suc (suc zero)) le other = absurd (other refl)
owner_plain next (suc (suc (suc zero))) le other = refl
owner_plain next (suc (suc (suc (suc k)))) le other = absurd (omega (arith, le))
