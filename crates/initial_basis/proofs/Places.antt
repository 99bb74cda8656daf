-- The place of a word, and what stands behind the last one.
use Rattle.std.proofs.Common.{◌≡◌, ℕ, ◌+◌, ◌≤◌, Bool, List, [], ◌∷◌, length, drop, refl, sym, ◌∙◌, arith, inl, inr}
use Rattle.std.specs.Option.{unwrap_or}
use Rattle.std.specs.List.{position, position_or_len}
use Rattle.std.proofs.lemmas.Bool.{cases_lt, le-ltb, lt-ltb}
use Rattle.std.proofs.lemmas.List.{drop_all}

pub position_or_len-within : {A : Type 0} (p : A → Bool) (xs : List A) → position_or_len p xs ≤ length xs
position_or_len-within p [] = omega arith
position_or_len-within p (x ∷ xs) = let h = position_or_len-within p xs in grind (arith, h)

-- the place that a search gives, or the length
pub unwrap_or-position : {A : Type 0} (p : A → Bool) (xs : List A)
    → unwrap_or (position p xs) (length xs) ≡ position_or_len p xs
unwrap_or-position p xs =
    elim (cases_lt (position_or_len p xs) (length xs)) [
      | inl lt ↦ let found = lt-ltb _ _ lt in rw found refl
      | inr le ↦ let missing = le-ltb _ _ le in rw missing (omega (arith, position_or_len-within p xs))
    ]

pub ruleset runs = (position_or_len-within, unwrap_or-position)

pub nothing_behind : {A : Type 0} (at : ℕ) (xs : List A) → length xs ≤ at → drop at xs ≡ drop (at + 1) xs
nothing_behind at xs h =
    let here : drop at xs ≡ [] = drop_all at xs h in
    let behind : drop (at + 1) xs ≡ [] = drop_all (at + 1) xs (omega (arith, h)) in
    here ∙ sym behind
