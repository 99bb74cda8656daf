-- Rows that are compared: two of them are one where their tags and their items are.
use Rattle.std.specs.Prelude.{◌≡◌, refl, ℕ, List, Bool, true, false, ◌&&◌, nat_eq}
use Rattle.std.specs.Bool.{Decides, one_answer}
use Rattle.std.specs.Cmp.{IsEquivalence, unsigned_Decides}
use Rattle.std.specs.Hash.{Alike, same_Alike, HashWrites}
use Rattle.std.specs.Ordering.{on, eq_of_both}
use lib.Pointwise.{pointwise, pointwise_decides, bytes_decides}
use mathlib.Core.Path.{ap, ap₂, sym}
use Rattle.node_bytes.specs.declared.table.Item.{Item}
use Rattle.node_bytes.specs.declared.table.Item.TheVariants as item
use Rattle.node_bytes.specs.declared.table.Row.{Row}
use Rattle.node_bytes.specs.contracts.table.ItemPartialEq.TheImpl as equality

-- a test that decides whether two things are one is an equivalence
pub decided : {K : Type 0} (E : K → K → Bool) → ((x y : K) → Decides (E x y) (x ≡ y)) → IsEquivalence E
decided E d = record {
  refl = λ x. (d x x).1 refl;
  symm = λ x y. one_answer (E x y) (E y x) (d x y) (λ h. sym ((d y x).0 h), λ e. (d y x).1 (sym e));
  congr = λ x y z h. ap (λ w. E w z) ((d x y).0 h);
}

abbrev pub same_item : Item → Item → Bool
same_item x y = (equality.ghosts).eq x y

piece_text : (s t : List ℕ) → item.Piece s ≡ item.Piece t → s ≡ t
piece_text s t e = cc

part_place : (p q : ℕ) → item.Part p ≡ item.Part q → p ≡ q
part_place p q e = cc

pub item_decides : (x y : Item) → Decides (same_item x y) (x ≡ y)
item_decides (item.Piece s) (item.Piece t) =
    (λ h. ap item.Piece ((bytes_decides s t).0 h), λ e. (bytes_decides s t).1 (piece_text s t e))
item_decides (item.Piece s) (item.Part q) = (λ h. absurd (cc), λ e. absurd (cc))
item_decides (item.Part p) (item.Piece t) = (λ h. absurd (cc), λ e. absurd (cc))
item_decides (item.Part p) (item.Part q) =
    (λ h. ap item.Part ((unsigned_Decides p q).0 h), λ e. (unsigned_Decides p q).1 (part_place p q e))

abbrev pub same_row : Row → Row → Bool
same_row = eq_of_both (on (λ x. x.tag) nat_eq) (on (λ x. x.items) (pointwise same_item))

abbrev row_of : ℕ → List Item → Row
row_of tag items = record { tag = tag; items = items }

both_so : (a b : Bool) → a ≡ true → b ≡ true → (a && b) ≡ true
both_so true b h k = k
both_so false b h k = h

first_of_both : (a b : Bool) → (a && b) ≡ true → a ≡ true
first_of_both true b h = refl
first_of_both false b h = h

second_of_both : (a b : Bool) → (a && b) ≡ true → b ≡ true
second_of_both true b h = h
second_of_both false b h = absurd (cc)

pub row_decides : (x y : Row) → Decides (same_row x y) (x ≡ y)
row_decides x y = (
  λ h.
      ap₂ row_of
      ((unsigned_Decides x.tag y.tag).0 (first_of_both (nat_eq x.tag y.tag) (pointwise same_item x.items y.items) h))
      ((pointwise_decides item_decides x.items y.items).0
      (second_of_both (nat_eq x.tag y.tag) (pointwise same_item x.items y.items) h)),
  λ e.
      both_so (nat_eq x.tag y.tag) (pointwise same_item x.items y.items)
      ((unsigned_Decides x.tag y.tag).1 (ap (λ (r : Row). r.tag) e))
      ((pointwise_decides item_decides x.items y.items).1 (ap (λ (r : Row). r.items) e)),
)

pub rows_equivalent : IsEquivalence same_row
rows_equivalent = decided same_row row_decides

pub rows_fed_alike : (F : Row → HashWrites) → Alike same_row F
rows_fed_alike F = same_Alike F row_decides
