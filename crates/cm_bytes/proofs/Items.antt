-- A loop that reads items one after another: what it has and what it reads from here on make up the whole.
use Rattle.std.proofs.Common.{◌≡◌, ℕ, suc, ◌+◌, ◌-◌, ◌<◌, ◌≤◌, List, [], ◌∷◌, ◌++◌, Option, Some, None, refl, sym, ap, subst, ◌∙◌, append_assoc, arith}
use Rattle.std.proofs.lemmas.List.{append-nil}
use Rattle.cm_bytes.specs.Fields.{Step, ◌>>=◌, items_at}

-- some items, and those that are read after them
abbrev pub with_front : {A : Type 0} → List A → Option (List A × List ℕ) → Option (List A × List ℕ)
with_front front read = read >>= λ x. Some (front ++ x.0, x.1)

-- the loop has these items and so many are left, which stand at the front of the bytes
pub record HasRead {A : Type 0} (item_at : Step A) (whole : Option (List A × List ℕ)) (front : List A) (left : ℕ)
    (bytes : List ℕ) : Type 0 where
  pub so_far : with_front front (items_at item_at left bytes) ≡ whole

begins_so : {A : Type 0} (read : Option (List A × List ℕ)) → with_front [] read ≡ read
begins_so None = refl
begins_so (Some x) = refl

-- no item is read yet
pub items_begin : {A : Type 0} (item_at : Step A) (count : ℕ) (bytes : List ℕ)
    → HasRead item_at (items_at item_at count bytes) [] (count - 0) bytes
items_begin {A} item_at count bytes =
    let all : count ≡ count - 0 = omega arith in
    let whole = items_at item_at count bytes in
    subst (λ (n : ℕ). HasRead item_at whole [] n bytes) all (record { so_far = begins_so whole })

one_more : {A : Type 0} (front : List A) (x : A) (read : Option (List A × List ℕ))
    → with_front front (read >>= λ others. Some (x ∷ others.0, others.1)) ≡ with_front (front ++ x ∷ []) read
one_more {A} front x (Some others) =
    ap (λ (xs : List A). Some (xs, others.1)) (sym (append_assoc front (x ∷ []) others.0))
one_more front x None = refl

-- one item more
pub items_go_on : {A : Type 0} (item_at : Step A) (whole : Option (List A × List ℕ)) (front : List A)
    (x : A) (count i : ℕ) (bytes after : List ℕ) → i < count
    → item_at bytes ≡ Some (x, after) → HasRead item_at whole front (count - i) bytes
    → HasRead item_at whole (front ++ x ∷ []) (count - (i + 1)) after
unfolding items_at
items_go_on item_at whole front x count i bytes after lt read h =
    let one : count - i ≡ suc (count - (i + 1)) = omega arith in
    let others = items_at item_at (count - (i + 1)) after in
    let step : with_front front (items_at item_at (count - i) bytes) ≡ with_front (front ++ x ∷ []) others =
    rw (one, read) (one_more front x others) in
    record { so_far = sym step ∙ h.so_far }

-- an item that is refused
pub items_fall_short : {A : Type 0} (item_at : Step A) (whole : Option (List A × List ℕ)) (front : List A)
    (count i : ℕ) (bytes : List ℕ) → i < count
    → item_at bytes ≡ None → HasRead item_at whole front (count - i) bytes → whole ≡ None
unfolding items_at
items_fall_short item_at whole front count i bytes lt read h =
    let one : count - i ≡ suc (count - (i + 1)) = omega arith in
    let step : with_front front (items_at item_at (count - i) bytes) ≡ None = rw (one, read) refl in
    sym h.so_far ∙ step

-- the last item is read
pub items_are_read : {A : Type 0} (item_at : Step A) (whole : Option (List A × List ℕ)) (front : List A)
    (count i : ℕ) (bytes : List ℕ) → count ≤ i
    → HasRead item_at whole front (count - i) bytes → whole ≡ Some (front, bytes)
unfolding items_at
items_are_read {A} item_at whole front count i bytes le h =
    let none : count - i ≡ 0 = omega arith in
    let step : with_front front (items_at item_at (count - i) bytes) ≡ Some (front, bytes) =
    rw none (ap (λ (xs : List A). Some (xs, bytes)) (append-nil front)) in
    sym h.so_far ∙ step

-- all of a loop
pub ruleset item_steps = (items_begin, items_go_on, items_fall_short, items_are_read)
