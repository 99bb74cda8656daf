-- The eight bytes of an integer.
use Rattle.std.proofs.Common.{◌≡◌, ℕ, ◌≤◌, Bool, true, false, cond, ltb, List, [], ◌∷◌, length, slice_index, take, drop, Option, Some, None, refl, subst, arith}
use Rattle.std.proofs.lemmas.Bool.{ltb-false}
use Rattle.std.proofs.lemmas.List.{length-take}
use Rattle.cm_bytes.specs.Fields.{raw_at}

-- eight bytes one by one
pub eight_are : (xs : List ℕ) → length xs ≡ 8
    → slice_index xs 0 ∷ slice_index xs 1 ∷ slice_index xs 2 ∷ slice_index xs 3 ∷ slice_index xs 4 ∷ slice_index xs 5
    ∷ slice_index xs 6 ∷ slice_index xs 7 ∷ [] ≡ xs
eight_are (a ∷ b ∷ c ∷ d ∷ e ∷ f ∷ g ∷ h ∷ []) is = refl
eight_are [] is = absurd (omega arith)
eight_are (a ∷ []) is = absurd (omega arith)
eight_are (a ∷ b ∷ []) is = absurd (omega arith)
eight_are (a ∷ b ∷ c ∷ []) is = absurd (omega arith)
eight_are (a ∷ b ∷ c ∷ d ∷ []) is = absurd (omega arith)
eight_are (a ∷ b ∷ c ∷ d ∷ e ∷ []) is = absurd (omega arith)
eight_are (a ∷ b ∷ c ∷ d ∷ e ∷ f ∷ []) is = absurd (omega arith)
eight_are (a ∷ b ∷ c ∷ d ∷ e ∷ f ∷ g ∷ []) is = absurd (omega arith)
eight_are (a ∷ b ∷ c ∷ d ∷ e ∷ f ∷ g ∷ h ∷ i ∷ xs) is = absurd (omega arith)

guard_some : {A : Type 0} (short : Bool) (x y : A) → cond short None (Some x) ≡ Some y → (short ≡ false) × (x ≡ y)
guard_some true x y e = absurd cc
guard_some false x y e = (refl, cc)

-- so many bytes are as many
pub raw_length : (n : ℕ) (bytes text rest : List ℕ) → raw_at n bytes ≡ Some (text, rest) → length text ≡ n
unfolding raw_at
raw_length n bytes text rest e =
    let g = guard_some (ltb (length bytes) n) (take n bytes, drop n bytes) (text, rest) e in
    let long : n ≤ length bytes = ltb-false _ _ g.0 in
    let count : length (take n bytes) ≡ n = omega (arith, length-take n bytes) in
    subst (λ (p : List ℕ × List ℕ). length p.0 ≡ n) g.1 count
