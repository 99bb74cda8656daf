-- The numbers of members, one after the other.
use Rattle.std.proofs.Common.{◌≡◌, ℕ, ◌<◌, List, length, get_or, subst}
use Rattle.std.proofs.lemmas.List.{get_or_default}

-- an item of a list, where a slice shows the list
pub within_list : (items slice : List ℕ) (i : ℕ) → slice ≡ items → i < length slice → i < length items
within_list items slice i same lt = subst (λ (xs : List ℕ). i < length xs) same lt

pub item_at : (items slice : List ℕ) (i : ℕ) → slice ≡ items → i < length slice
    → get_or slice i 0 ≡ get_or items i (get_or slice i 0)
item_at items slice i same lt =
    subst (λ (xs : List ℕ). get_or slice i 0 ≡ get_or xs i (get_or slice i 0)) same
    (get_or_default slice i 0 (get_or slice i 0) lt)
