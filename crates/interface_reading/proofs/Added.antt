-- A row that is added to a set of rows, or stands there already.
use Rattle.std.proofs.Common.{◌≡◌, ◌≢◌, ℕ, suc, ◌+◌, refl, sym, ap, ◌∙◌, List, [], ◌∷◌, ◌++◌, length, Bool, true, false, cond, not, ◌||◌, Some, if◌then◌else◌, arith}
use Rattle.std.specs.Prelude.{slice_get}
use Rattle.std.specs.List.{list_any, position_or_len, AllPairs}
use Rattle.node_bytes.specs.Rows.{same_row, row_decides}
use Rattle.node_bytes.specs.declared.table.Row.{Row}
use Rattle.interface_reading.specs.Remaining.{IsAdded, IsThere}

place_if_new : (row : Row) (rows : List Row) → list_any (same_row row) rows ≡ false
    → position_or_len (same_row row) rows ≡ length rows
place_if_new row [] e = refl
place_if_new row (x ∷ rows) e = by (place_if_new row rows) (same_row row x) refl
  where
    by : (list_any (same_row row) rows ≡ false → position_or_len (same_row row) rows ≡ length rows) → (b : Bool)
        → same_row row x ≡ b → position_or_len (same_row row) (x ∷ rows) ≡ suc (length rows)
    by later true h =
        let k : true ≡ false = sym (ap (λ (b : Bool). b || list_any (same_row row) rows) h) ∙ e in
        absurd (cc)
    by later false h =
        let same = later (sym (ap (λ (b : Bool). b || list_any (same_row row) rows) h) ∙ e) in
        let next : 1 + position_or_len (same_row row) rows ≡ suc (length rows) = omega (arith, same) in
        ap (λ (b : Bool). cond (not b) (1 + position_or_len (same_row row) rows) 0) h ∙ next

pub is_added : (row : Row) (old new : List Row) (place : ℕ) (b : Bool) → list_any (same_row row) old ≡ b → b ≡ false
    → new ≡ (if list_any (same_row row) old then old else old ++ row ∷ [])
    → place ≡ position_or_len (same_row row) old → AllPairs (λ x y. x ≢ y) new → IsAdded row old new place
is_added row old new place b is none keys at apart = record {
  rows = keys ∙ ap (λ (c : Bool). if c then old else old ++ row ∷ []) (is ∙ none);
  at = at ∙ place_if_new row old (is ∙ none);
  apart = apart;
}

pub is_there : (row found : Row) (old new : List Row) (place : ℕ) → list_any (same_row row) old ≡ true
    → new ≡ (if list_any (same_row row) old then old else old ++ row ∷ []) → slice_get new place ≡ Some found
    → same_row row found ≡ true → IsThere row old
is_there row found old new place is keys at same =
    let kept : new ≡ old = keys ∙ ap (λ (c : Bool). if c then old else old ++ row ∷ []) is in
    let row_is : row ≡ found = (row_decides row found).0 same in
    record {
      place = place;
      is = ap (λ (z : List Row). slice_get z place) (sym kept) ∙ at ∙ ap Some (sym row_is);
    }

pub not_true : (b c : Bool) → b ≡ not c → b ≡ true → c ≡ false
not_true b true e h = let k : true ≡ false = sym h ∙ e in absurd (cc)
not_true b false e h = refl

pub not_false : (b c : Bool) → b ≡ not c → b ≡ false → c ≡ true
not_false b true e h = refl
not_false b false e h = let k : true ≡ false = sym e ∙ h in absurd (cc)
