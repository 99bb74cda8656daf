-- Runs at the front of a text, and the pieces between marks.
use Rattle.std.proofs.Common.{◌≡◌, ℕ, ◌+◌, ◌≤◌, Bool, true, false, List, [], ◌∷◌, length, take, drop, refl, arith, suc, inl, inr}
use Rattle.std.specs.Option.{unwrap_or}
use Rattle.std.specs.List.{position, position_or_len, slice_split}
use Rattle.std.proofs.lemmas.Bool.{cases_lt, le-ltb, lt-ltb}

pub position_or_len-within : (p : ℕ → Bool) (xs : List ℕ) → position_or_len p xs ≤ length xs
position_or_len-within p [] = omega arith
position_or_len-within p (x ∷ xs) = let h = position_or_len-within p xs in grind (arith, h)

-- the place that a search gives, or the length, is the length of the run
pub unwrap_or-position : (p : ℕ → Bool) (xs : List ℕ) → unwrap_or (position p xs) (length xs) ≡ position_or_len p xs
unwrap_or-position p xs =
    elim (cases_lt (position_or_len p xs) (length xs)) [
      | inl lt ↦ let found = lt-ltb _ _ lt in rw found refl
      | inr le ↦ let missing = le-ltb _ _ le in rw missing (omega (arith, position_or_len-within p xs))
    ]

pub ruleset runs = (position_or_len-within, unwrap_or-position)

-- the pieces after the first one: those of what follows the mark, if there is one
abbrev pub pieces_after : (ℕ → Bool) → List ℕ → List (List ℕ)
pieces_after p [] = []
pieces_after p (mark ∷ rest) = slice_split p rest

take_more : (n b : ℕ) (bytes : List ℕ) → take (1 + n) (b ∷ bytes) ≡ b ∷ take n bytes
take_more n b bytes = let e : 1 + n ≡ suc n = omega arith in rw e refl

drop_more : (n b : ℕ) (bytes : List ℕ) → drop (1 + n) (b ∷ bytes) ≡ drop n bytes
drop_more n b bytes = let e : 1 + n ≡ suc n = omega arith in rw e refl

-- the first piece, and those after it
pub slice_split-first : (p : ℕ → Bool) (xs : List ℕ)
    → slice_split p xs ≡ take (position_or_len p xs) xs ∷ pieces_after p (drop (position_or_len p xs) xs)
slice_split-first p [] = refl
slice_split-first p (x ∷ xs) = by_test (p x) refl (slice_split-first p xs)
  where
    Is : Type 0
    Is = slice_split p (x ∷ xs) ≡ take (position_or_len p (x ∷ xs)) (x ∷ xs) ∷ pieces_after p (drop (position_or_len p (x ∷ xs)) (x ∷ xs))

    by_test : (b : Bool) → p x ≡ b → slice_split p xs ≡ take (position_or_len p xs) xs ∷ pieces_after p (drop (position_or_len p xs) xs) → Is
    by_test true is rest = rw is refl
    by_test false is rest = rw (is, rest, take_more, drop_more) refl
