-- The numbers of the units from one on.
use Rattle.std.proofs.Common.{◌≡◌, ℕ, suc, ◌+◌, ◌-◌, ◌<◌, ◌≤◌, List, [], ◌∷◌, ◌++◌, arith, refl, append_assoc, map, rules}
use Rattle.std.specs.List.{flat_map, range_with_len}

-- the first of them, and the others
range_first : (k end : ℕ) → k < end → range_with_len k (end - k) ≡ k ∷ range_with_len (k + 1) (end - (k + 1))
range_first k end lt = let more : end - k ≡ suc (end - (k + 1)) = omega arith in rw more refl

-- none are left
range_none : (k end : ℕ) → end ≤ k → range_with_len k (end - k) ≡ []
range_none k end le = let none : end - k ≡ 0 = omega arith in rw none refl

pub texts_more : (f : ℕ → List ℕ) (before now whole : List ℕ) (k end : ℕ) → k < end → now ≡ before ++ f k
    → before ++ flat_map f (range_with_len k (end - k)) ≡ whole
    → now ++ flat_map f (range_with_len (k + 1) (end - (k + 1))) ≡ whole
texts_more f before now whole k end lt added so =
    let first = rw (range_first k end lt) at so in rw (added, append_assoc) first

pub texts_all : (f : ℕ → List ℕ) (text whole : List ℕ) (k end : ℕ) → end ≤ k
    → text ++ flat_map f (range_with_len k (end - k)) ≡ whole → text ≡ whole
texts_all f text whole k end le so = let none = rw (range_none k end le) at so in search rules

pub items_more : {A : Type 0} (f : ℕ → A) (before now whole : List A) (k end : ℕ) → k < end → now ≡ before ++ f k ∷ []
    → before ++ map f (range_with_len k (end - k)) ≡ whole
    → now ++ map f (range_with_len (k + 1) (end - (k + 1))) ≡ whole
items_more f before now whole k end lt added so =
    let first = rw (range_first k end lt) at so in rw (added, append_assoc) first

pub items_all : {A : Type 0} (f : ℕ → A) (list whole : List A) (k end : ℕ) → end ≤ k
    → list ++ map f (range_with_len k (end - k)) ≡ whole → list ≡ whole
items_all f list whole k end le so = let none = rw (range_none k end le) at so in search rules

-- three pieces are added one by one
pub three_added : (out one two three a b c : List ℕ) → one ≡ out ++ a → two ≡ one ++ b → three ≡ two ++ c
    → three ≡ out ++ (a ++ (b ++ c))
three_added out one two three a b c first second third = rw (third, second, first) (simp append_assoc)
