-- A text without spaces and tabs at its ends has none there.
use Rattle.std.proofs.Common.{◌≡◌, ℕ, zero, suc, ◌+◌, ◌-◌, ◌≤◌, ◌&&◌, Bool, true, false, if◌then◌else◌, List, [], ◌∷◌, ◌++◌, refl, ap, sym, ◌∙◌, take, drop, length, length-drop, arith}
use Rattle.std.specs.Prelude.{reverse}
use Rattle.std.specs.List.{prefix_len, list_all}
use Rattle.std.proofs.lemmas.List.{length-reverse, reverse-append, reverse-reverse, take-append-drop, take_all}
use Rattle.std.proofs.lemmas.List.Sums.{prefix_len-le-length}
use Rattle.cm_description.specs.Words.{is_space, without_spaces, without_spaces_behind, trimmed}

-- behind a run no byte of it begins
run_gone : (p : ℕ → Bool) (xs : List ℕ) → prefix_len p (drop (prefix_len p xs) xs) ≡ 0
run_gone p [] = refl
run_gone p (x ∷ xs) = by (run_gone p xs) (p x) refl
  where
    by : prefix_len p (drop (prefix_len p xs) xs) ≡ 0 → (b : Bool) → p x ≡ b
        → prefix_len p (drop (prefix_len p (x ∷ xs)) (x ∷ xs)) ≡ 0
    by next true e = let one : prefix_len p (x ∷ xs) ≡ suc (prefix_len p xs) = rw e (omega arith) in rw one next
    by next false e = let one : prefix_len p (x ∷ xs) ≡ 0 = rw e refl in rw (one, e) refl

-- nor before a part of it
front_gone : (p : ℕ → Bool) (n : ℕ) (xs : List ℕ) → prefix_len p xs ≡ 0 → prefix_len p (take n xs) ≡ 0
front_gone p zero xs h = refl
front_gone p (suc n) [] h = refl
front_gone p (suc n) (x ∷ xs) h = by (p x) refl h
  where
    by : (b : Bool) → p x ≡ b → (if b then 1 + prefix_len p xs else 0) ≡ 0 → prefix_len p (take (suc n) (x ∷ xs)) ≡ 0
    by true e h = absurd (omega (arith, h))
    by false e h = rw e refl

take_front : (xs ys : List ℕ) (n : ℕ) → n ≡ length xs → take n (xs ++ ys) ≡ xs
take_front [] ys n h = rw h refl
take_front (x ∷ xs) ys zero h = absurd (omega (arith, h))
take_front (x ∷ xs) ys (suc n) h = ap (λ l. x ∷ l) (take_front xs ys n (omega (arith, h)))

-- without the bytes at the end, from the other side
behind_is : (u : List ℕ) → without_spaces_behind u ≡ reverse (drop (prefix_len is_space (reverse u)) (reverse u))
behind_is u =
    let r = reverse u in
    let k = prefix_len is_space r in
    let few : k ≤ length r = prefix_len-le-length is_space r in
    let split : u ≡ reverse (drop k r) ++ reverse (take k r) =
    sym (reverse-reverse u) ∙ ap reverse (sym (take-append-drop k r)) ∙ reverse-append (take k r) (drop k r) in
    let len : length u - k ≡ length (reverse (drop k r)) =
    omega (arith, length-reverse u, length-reverse (drop k r), length-drop k r, few) in
    ap (take (length u - k)) split ∙ take_front (reverse (drop k r)) (reverse (take k r)) (length u - k) len

behind_again : (u : List ℕ) → without_spaces_behind (without_spaces_behind u) ≡ without_spaces_behind u
behind_again u =
    let v = without_spaces_behind u in
    let r = reverse u in
    let turned : reverse v ≡ drop (prefix_len is_space r) r =
    ap reverse (behind_is u) ∙ reverse-reverse (drop (prefix_len is_space r) r) in
    let none : prefix_len is_space (reverse v) ≡ 0 = ap (prefix_len is_space) turned ∙ run_gone is_space r in
    ap (λ k. take (length v - k) v) none ∙ take_all (length v - 0) v (omega arith)

-- behind a space, what was trimmed is what is left of it
pub trimmed_again : (rest : List ℕ) → trimmed (32 ∷ trimmed rest) ≡ trimmed rest
trimmed_again rest =
    let u = without_spaces rest in
    let v = without_spaces_behind u in
    let none : prefix_len is_space v ≡ 0 =
    front_gone is_space (length u - prefix_len is_space (reverse u)) u (run_gone is_space rest) in
    let one : prefix_len is_space (32 ∷ v) ≡ 1 = omega (arith, none) in
    ap (λ n. without_spaces_behind (drop n (32 ∷ v))) one ∙ behind_again u

all_dropped : (p : ℕ → Bool) (n : ℕ) (xs : List ℕ) → list_all p xs ≡ true → list_all p (drop n xs) ≡ true
all_dropped p zero xs h = h
all_dropped p (suc n) [] h = refl
all_dropped p (suc n) (x ∷ xs) h = by (λ k. all_dropped p n xs k) (p x) h
  where
    by : (list_all p xs ≡ true → list_all p (drop n xs) ≡ true) → (b : Bool) → (b && list_all p xs) ≡ true
        → list_all p (drop n xs) ≡ true
    by next true h = next h
    by next false h = absurd (cc)

all_taken : (p : ℕ → Bool) (n : ℕ) (xs : List ℕ) → list_all p xs ≡ true → list_all p (take n xs) ≡ true
all_taken p zero xs h = refl
all_taken p (suc n) [] h = refl
all_taken p (suc n) (x ∷ xs) h = by (λ k. all_taken p n xs k) (p x) refl h
  where
    by : (list_all p xs ≡ true → list_all p (take n xs) ≡ true) → (b : Bool) → p x ≡ b → (b && list_all p xs) ≡ true
        → list_all p (take (suc n) (x ∷ xs)) ≡ true
    by next true e h = let more = next h in rw (e, more) refl
    by next false e h = absurd (cc)

-- what holds of each byte holds of each that is left
pub trimmed_all : (p : ℕ → Bool) (rest : List ℕ) → list_all p rest ≡ true → list_all p (trimmed rest) ≡ true
trimmed_all p rest h = all_taken p _ (without_spaces rest) (all_dropped p (prefix_len is_space rest) rest h)
