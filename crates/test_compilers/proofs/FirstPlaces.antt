-- The first place at which a list passes a test, and what stands behind a list's end.
use Rattle.std.proofs.Common.{◌≡◌, ℕ, ◌+◌, ◌≤◌, Bool, List, [], ◌∷◌, length, drop, refl, sym, ◌∙◌, arith, inl, inr}
use Rattle.std.specs.Option.{unwrap_or}
use Rattle.std.specs.List.{position, position_or_len}
use Rattle.std.proofs.lemmas.Bool.{cases_lt, le-ltb, lt-ltb}
use Rattle.std.proofs.lemmas.List.{drop_all}

pub position_or_len-bound : {A : Type 0} (test : A → Bool) (items : List A) → position_or_len test items ≤ length items
position_or_len-bound test [] = omega arith
position_or_len-bound test (item ∷ items) = let rest = position_or_len-bound test items in grind (arith, rest)

-- the place that is found, or the length
pub unwrap_or-position : {A : Type 0} (test : A → Bool) (items : List A)
    → unwrap_or (position test items) (length items) ≡ position_or_len test items
unwrap_or-position test items =
    elim (cases_lt (position_or_len test items) (length items)) [
      | inl below ↦ let is_found = lt-ltb _ _ below in rw is_found refl
      | inr above ↦ let is_missing = le-ltb _ _ above in
          rw is_missing (omega (arith, position_or_len-bound test items))
    ]

pub ruleset found_or_all = (position_or_len-bound, unwrap_or-position)

-- behind the end there is as little as one place further
pub none_behind : {A : Type 0} (at : ℕ) (items : List A) → length items ≤ at → drop at items ≡ drop (at + 1) items
none_behind at items ended =
    let here : drop at items ≡ [] = drop_all at items ended in
    let behind : drop (at + 1) items ≡ [] = drop_all (at + 1) items (omega (arith, ended)) in
    here ∙ sym behind
