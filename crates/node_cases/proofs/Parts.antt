-- The parts among items, with one item more.
use Rattle.std.proofs.Common.{◌≡◌, ℕ, zero, suc, ◌<◌, sym, subst, List, [], ◌∷◌, ◌++◌, Some}
use Rattle.std.specs.Prelude.{slice_get}
use Rattle.node_bytes.specs.Writing.{HasPart}
use Rattle.node_bytes.specs.declared.table.Item.{Item}
use Rattle.node_bytes.specs.declared.table.Item.TheVariants as item
use Rattle.node_tables.specs.Tables.{HasParts}

pub has_none : (n : ℕ) → HasParts n []
has_none n = record { below = λ k part e. absurd (cc) }

part_below : (n part : ℕ) (it : Item) → HasPart n it → it ≡ item.Part part → part < n
part_below n part (item.Piece text) h e = absurd (cc)
part_below n part (item.Part p) h e = subst (λ q. q < n) (let k : p ≡ part = cc in k) h

more_below : (n : ℕ) (items : List Item) (it : Item) → HasPart n it → (k part : ℕ)
    → ((i q : ℕ) → slice_get items i ≡ Some (item.Part q) → q < n)
    → slice_get (items ++ it ∷ []) k ≡ Some (item.Part part) → part < n
more_below n [] it h zero part below e = part_below n part it h (let k : it ≡ item.Part part = cc in k)
more_below n [] it h (suc k) part below e = absurd (cc)
more_below n (x ∷ xs) it h zero part below e = below 0 part e
more_below n (x ∷ xs) it h (suc k) part below e = more_below n xs it h k part (λ i q. below (suc i) q) e

pub has_more : (n : ℕ) (items : List Item) (it : Item) → HasParts n items → HasPart n it
    → HasParts n (items ++ it ∷ [])
has_more n items it h k = record { below = λ i part e. more_below n items it k i part h.below e }

-- the list after a call
pub has_added : (n : ℕ) (old new : List Item) (it : Item) → HasParts n old → HasPart n it → new ≡ old ++ it ∷ []
    → HasParts n new
has_added n old new it h k e = subst (HasParts n) (sym e) (has_more n old it h k)
