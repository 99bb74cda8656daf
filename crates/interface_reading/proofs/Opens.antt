-- Lists of open nodes: the innermost one, their numbers, and how much is left in them.
use Rattle.std.proofs.Common.{◌≡◌, ℕ, zero, suc, ◌+◌, ◌<◌, refl, sym, ap, subst, ◌∙◌, List, [], ◌∷◌, ◌++◌, length, get_or, set, Option, Some, None, arith}
use Rattle.std.specs.Prelude.{slice_get}
use Rattle.std.proofs.lemmas.List.{length-append, length-set, get_or-set_other, get_or_append_left}
use Rattle.node_bytes.specs.declared.table.Item.{Item}
use Rattle.node_bytes.specs.declared.table.Item.TheVariants as item
use Rattle.node_tables.specs.Tables.{HasParts}
use Rattle.interface_reading.specs.Remaining.{IsOpen, AllAbove, AreOpen}
use Rattle.interface_reading.specs.Weights.{need_weight, needs_weight, opens_weight}
use Rattle.interface_reading.specs.declared.needs.Need.{Need}
use Rattle.interface_reading.specs.declared.open.Open.{Open}

-- ---- weights

pub needs_snoc : (needs : List Need) (n : Need) → needs_weight (needs ++ n ∷ []) ≡ needs_weight needs + need_weight n
needs_snoc [] n = omega arith
needs_snoc (x ∷ needs) n = let e = needs_snoc needs n in omega (arith, e)

pub needs_added : (needs after : List Need) (n : Need) → after ≡ needs ++ n ∷ []
    → needs_weight after ≡ needs_weight needs + need_weight n
needs_added needs after n e = ap needs_weight e ∙ needs_snoc needs n

pub opens_snoc : (xs : List Open) (o : Open)
    → opens_weight (xs ++ o ∷ []) ≡ opens_weight xs + suc (needs_weight o.needs)
opens_snoc [] o = omega arith
opens_snoc (x ∷ xs) o = let e = opens_snoc xs o in omega (arith, e)

-- ---- numbers

abbrev pub AllBelow : ℕ → List Open → Type 0
AllBelow n [] = Unit {0}
AllBelow n (o ∷ opens) = (o.number < n) × AllBelow n opens

above_snoc : (n : ℕ) (xs : List Open) (o : Open) → AllAbove n (xs ++ o ∷ []) → AllAbove n xs × (n < o.number)
above_snoc n [] o h = (tt, h.0)
above_snoc n (x ∷ xs) o h = let k = above_snoc n xs o h.1 in ((h.0, k.0), k.1)

snoc_above : (n : ℕ) (xs : List Open) (o : Open) → AllAbove n xs → n < o.number → AllAbove n (xs ++ o ∷ [])
snoc_above n [] o h lt = (lt, tt)
snoc_above n (x ∷ xs) o h lt = (h.0, snoc_above n xs o h.1 lt)

-- those around the innermost one
pub record AreAround (count : ℕ) (numbers : List (Option ℕ)) (xs : List Open) (o : Open) : Type 0 where
  pub opens : AreOpen count numbers xs
  pub below : AllBelow o.number xs
  pub inner : IsOpen count numbers o

pub open_snoc : (count : ℕ) (numbers : List (Option ℕ)) (xs : List Open) (o : Open)
    → AreOpen count numbers (xs ++ o ∷ []) → AreAround count numbers xs o
open_snoc count numbers [] o h = record { opens = tt; below = tt; inner = h.0 }
open_snoc count numbers (x ∷ xs) o h =
    let k = open_snoc count numbers xs o h.2 in
    let a = above_snoc x.number xs o h.1 in
    record { opens = (h.0, a.0, k.opens); below = (a.1, k.below); inner = k.inner }

pub snoc_open : (count : ℕ) (numbers : List (Option ℕ)) (xs : List Open) (o : Open)
    → AreOpen count numbers xs → AllBelow o.number xs → IsOpen count numbers o → AreOpen count numbers (xs ++ o ∷ [])
snoc_open count numbers [] o h b k = (k, tt, tt)
snoc_open count numbers (x ∷ xs) o h b k =
    (h.0, snoc_above x.number xs o h.1 b.0, snoc_open count numbers xs o h.2 b.1 k)

-- ---- one number more

open_longer : (count : ℕ) (numbers : List (Option ℕ)) (o : Open) → IsOpen count numbers o
    → IsOpen count (numbers ++ None ∷ []) o
open_longer count numbers o h =
    let within = h.within in
    record {
      within = omega (arith, within, length-append numbers (None ∷ []));
      free = get_or_append_left numbers (None ∷ []) None o.number h.within ∙ h.free;
      parts = h.parts;
    }

opens_longer : (count : ℕ) (numbers : List (Option ℕ)) (xs : List Open) → AreOpen count numbers xs
    → AreOpen count (numbers ++ None ∷ []) xs
opens_longer count numbers [] h = tt
opens_longer count numbers (x ∷ xs) h =
    (open_longer count numbers x h.0, h.1, opens_longer count numbers xs h.2)

all_below : (count : ℕ) (numbers : List (Option ℕ)) (xs : List Open) → AreOpen count numbers xs
    → AllBelow (length numbers) xs
all_below count numbers [] h = tt
all_below count numbers (x ∷ xs) h = (h.0.within, all_below count numbers xs h.2)

free_at_end : (numbers : List (Option ℕ)) → get_or (numbers ++ None ∷ []) (length numbers) None ≡ None
free_at_end [] = refl
free_at_end (x ∷ numbers) = free_at_end numbers

no_parts : (count : ℕ) → HasParts count []
no_parts count = record { below = λ k part e. absurd (cc) }

pub open_more : (count : ℕ) (numbers : List (Option ℕ)) (xs : List Open) (o : Open) → AreOpen count numbers xs
    → o.number ≡ length numbers → o.items ≡ [] → AreOpen count (numbers ++ None ∷ []) (xs ++ o ∷ [])
open_more count numbers xs o h number items =
    snoc_open count (numbers ++ None ∷ []) xs o (opens_longer count numbers xs h)
    (subst (λ n. AllBelow n xs) (sym number) (all_below count numbers xs h)) (record {
      within = omega (arith, number, length-append numbers (None ∷ []));
      free = ap (λ (n : ℕ). get_or (numbers ++ None ∷ []) n None) number ∙ free_at_end numbers;
      parts = subst (λ (z : List Item). HasParts count z) (sym items) (no_parts count);
    })

-- ---- one place more, under the number of the innermost one

parts_more : (count : ℕ) (items : List Item) → HasParts count items → HasParts (suc count) items
parts_more count items h = record {
  below = λ k part e. let lt = h.below k part e in omega (arith, lt);
}

open_set : (count : ℕ) (numbers : List (Option ℕ)) (n p : ℕ) (o : Open) → IsOpen count numbers o → o.number < n
    → IsOpen (suc count) (set numbers n (Some p)) o
open_set count numbers n p o h lt =
    let within = h.within in
    record {
      within = omega (arith, within, length-set numbers n (Some p));
      free = get_or-set_other numbers n o.number (Some p) None (λ e. omega (arith, lt, e)) ∙ h.free;
      parts = parts_more count o.items h.parts;
    }

pub opens_set : (count : ℕ) (numbers : List (Option ℕ)) (n p : ℕ) (xs : List Open) → AreOpen count numbers xs
    → AllBelow n xs → AreOpen (suc count) (set numbers n (Some p)) xs
opens_set count numbers n p [] h b = tt
opens_set count numbers n p (x ∷ xs) h b =
    (open_set count numbers n p x h.0 b.0, h.1, opens_set count numbers n p xs h.2 b.1)

-- ---- one part more

pub parts_snoc : (count : ℕ) (items : List Item) (p : ℕ) → p < count → HasParts count items
    → HasParts count (items ++ item.Part p ∷ [])
parts_snoc count [] p lt h = record { below = at }
  where
    at : (k part : ℕ) → slice_get (item.Part p ∷ []) k ≡ Some (item.Part part) → part < count
    at zero part e = let is : p ≡ part = cc in omega (arith, is, lt)
    at (suc k) part e = absurd (cc)
parts_snoc count (x ∷ items) p lt h =
    record { below = at (parts_snoc count items p lt (record { below = λ k. h.below (suc k) })) (h.below 0) }
  where
    at : HasParts count (items ++ item.Part p ∷ [])
        → ((part : ℕ) → slice_get (x ∷ items) 0 ≡ Some (item.Part part) → part < count) → (k part : ℕ)
        → slice_get (x ∷ (items ++ item.Part p ∷ [])) k ≡ Some (item.Part part) → part < count
    at later first zero part e = first part e
    at later first (suc k) part e = later.below k part e
