-- How the end of open comments is found, a mark or a byte at a time.
use Rattle.std.proofs.Common.{◌≡◌, ◌≤◌, ◌<◌, ◌+◌, ◌-◌, ℕ, zero, suc, Bool, true, false, List, [], ◌∷◌, length, Option, None, Some, refl, ap, ◌∙◌, arith, if◌then◌else◌, drop, nat_eq, length-drop}
use Rattle.std.specs.List.{starts_with}
use Rattle.std.proofs.lemmas.Bool.Decides.{nat_tests}
use Rattle.cm_lexer.specs.Pieces.{opens, closes, longer, comment_len}

-- at most so much, where it is there
abbrev pub IsWithin : ℕ → Option ℕ → Type 0
IsWithin m None = Unit {0}
IsWithin m (Some n) = n ≤ m

longer_within : (k m l : ℕ) (o : Option ℕ) → IsWithin m o → k + m ≤ l → IsWithin l (longer k o)
longer_within k m l None h le = tt
longer_within k m l (Some n) h le = omega arith

if_within : (m : ℕ) (b : Bool) (o p : Option ℕ) → IsWithin m o → IsWithin m p → IsWithin m (if b then o else p)
if_within m true o p h k = h
if_within m false o p h k = k

-- comments end within the text
pub comment_within : (d : ℕ) (bytes : List ℕ) → IsWithin (length bytes) (comment_len d bytes)
comment_within zero bytes = omega arith
comment_within (suc d) [] = tt
comment_within (suc d) (a ∷ []) = tt
comment_within (suc d) (a ∷ (b ∷ bytes)) =
    if_within (length (a ∷ (b ∷ bytes))) (opens a b) _ _
    (longer_within 2 (length bytes) _ (comment_len (suc (suc d)) bytes) (comment_within (suc (suc d)) bytes)
    (omega arith))
    (if_within (length (a ∷ (b ∷ bytes))) (closes a b) _ _
    (longer_within 2 (length bytes) _ (comment_len d bytes) (comment_within d bytes) (omega arith))
    (longer_within 1 (length (b ∷ bytes)) _ (comment_len (suc d) (b ∷ bytes)) (comment_within (suc d) (b ∷ bytes))
    (omega arith)))

-- a longer length of a longer length
pub longer_longer : (k m : ℕ) (o : Option ℕ) → longer k (longer m o) ≡ longer (k + m) o
longer_longer k m None = refl
longer_longer k m (Some n) = ap Some (omega arith)

-- whether a text begins with these two bytes
abbrev pub begins : ℕ → ℕ → List ℕ → Bool
begins a b bytes = starts_with nat_eq bytes (a ∷ (b ∷ []))

-- behind what opens a comment, one more is open
pub len_open : (d : ℕ) (bytes : List ℕ) → 0 < d → begins 40 42 bytes ≡ true
    → comment_len d bytes ≡ longer 2 (comment_len (d + 1) (drop 2 bytes))
len_open zero bytes some h = absurd (omega arith)
len_open (suc d) [] some h = absurd cc
len_open (suc d) (a ∷ []) some h = absurd (grind arith)
len_open (suc d) (a ∷ (b ∷ bytes)) some h =
    let is : opens a b ≡ true = grind (arith, nat_tests) in
    let more : suc d + 1 ≡ suc (suc d) = omega arith in
    rw (is, more) refl

-- behind what closes one, one less
pub len_close : (d : ℕ) (bytes : List ℕ) → 0 < d → begins 40 42 bytes ≡ false → begins 42 41 bytes ≡ true
    → comment_len d bytes ≡ longer 2 (comment_len (d - 1) (drop 2 bytes))
len_close zero bytes some g h = absurd (omega arith)
len_close (suc d) [] some g h = absurd cc
len_close (suc d) (a ∷ []) some g h = absurd (grind arith)
len_close (suc d) (a ∷ (b ∷ bytes)) some g h =
    let isnt : opens a b ≡ false = grind (arith, nat_tests) in
    let is : closes a b ≡ true = grind (arith, nat_tests) in
    let less : suc d - 1 ≡ d = omega arith in
    rw (isnt, is, less) refl

-- behind another byte, as many
pub len_other : (d : ℕ) (bytes : List ℕ) → 0 < d → 0 < length bytes → begins 40 42 bytes ≡ false
    → begins 42 41 bytes ≡ false
    → comment_len d bytes ≡ longer 1 (comment_len d (drop 1 bytes))
len_other zero bytes some any g h = absurd (omega arith)
len_other (suc d) [] some any g h = absurd (omega arith)
len_other (suc d) (a ∷ []) some any g h = refl
len_other (suc d) (a ∷ (b ∷ bytes)) some any g h =
    let isnt : opens a b ≡ false = grind (arith, nat_tests) in
    let is : closes a b ≡ false = grind (arith, nat_tests) in
    rw (isnt, is) refl

-- what was passed before, and what one mark has
pub passed_more : (n k d e : ℕ) (before : Option ℕ) (rest : List ℕ) → k ≤ length rest → length rest ≤ n
    → before ≡ longer (n - length rest) (comment_len d rest)
    → comment_len d rest ≡ longer k (comment_len e (drop k rest))
    → before ≡ longer (n - length (drop k rest)) (comment_len e (drop k rest))
passed_more n k d e before rest h g is step =
    let m = length rest in
    let far : (n - m) + k ≡ n - length (drop k rest) = omega (arith, length-drop k rest) in
    is ∙ ap (longer (n - m)) step ∙ longer_longer (n - m) k (comment_len e (drop k rest))
    ∙ ap (λ i. longer i (comment_len e (drop k rest))) far
