-- What is left of the infix status of names behind a scope.
use Rattle.std.proofs.Common.{◌≡◌, ℕ, ◌+◌, ◌-◌, ◌++◌, ◌<◌, ◌≤◌, [], ap, sym, ◌∙◌, drop, take, length, length-append, append_assoc, append-nil, arith}
use Rattle.std.proofs.lemmas.List.{take-append-drop, take_all, drop_all, length-drop}
use Rattle.std.proofs.Math.Seq.{take-append_seam, drop-nil}
use Rattle.infix_names.specs.Fixities.{Fixities, left_over}

-- a scope in which nothing ends, and one in which all does
pub none_ends : (start kept : ℕ) (fs : Fixities) → kept ≤ start → fs ≡ left_over start kept fs
none_ends start kept fs h =
    let none : kept - start ≡ 0 = omega (arith, h) in
    rw none (sym (take-append-drop start fs))

pub none_declared : (start kept : ℕ) (fs : Fixities) → length fs ≤ start → fs ≡ left_over start kept fs
none_declared start kept fs h =
    let all : take start fs ≡ fs = take_all start fs h in
    let none : drop start fs ≡ [] = drop_all start fs h in
    rw (all, none, drop-nil) (sym (append-nil fs))

pub all_end : (start kept : ℕ) (fs : Fixities) → start < length fs → length fs ≤ kept
    → take start fs ≡ left_over start kept fs
all_end start kept fs some h =
    let size : length (drop start fs) ≡ length fs - start = length-drop start fs in
    let none : drop (kept - start) (drop start fs) ≡ [] =
    drop_all (kept - start) (drop start fs) (omega (arith, size, some, h)) in
    rw none (sym (append-nil (take start fs)))

-- what was declared in a scope, with what ends of it moved to the back and let go
pub moved_away : (start kept : ℕ) (fs : Fixities) → start < kept → kept < length fs
    → take (length fs - (kept - start))
    (take start fs ++ (drop (kept - start) (drop start fs) ++ take (kept - start) (drop start fs)))
    ≡ left_over start kept fs
moved_away start kept fs some less =
    let left : Fixities = take start fs ++ drop (kept - start) (drop start fs) in
    let one : length fs ≡ length (take start fs) + length (drop start fs) =
    ap length (sym (take-append-drop start fs)) ∙ length-append (take start fs) (drop start fs) in
    let two : length (drop start fs) ≡ length fs - start = length-drop start fs in
    let three : length (drop (kept - start) (drop start fs)) ≡ length (drop start fs) - (kept - start) =
    length-drop (kept - start) (drop start fs) in
    let four : length left ≡ length (take start fs) + length (drop (kept - start) (drop start fs)) =
    length-append (take start fs) (drop (kept - start) (drop start fs)) in
    let size : length fs - (kept - start) ≡ length left = omega (arith, one, two, three, four, some, less) in
    rw size (ap (λ (xs : Fixities). take (length left) xs)
    (sym (append_assoc (take start fs) (drop (kept - start) (drop start fs)) (take (kept - start) (drop start fs))))
    ∙ take-append_seam left (take (kept - start) (drop start fs)))

pub ruleset keep_steps = (none_ends, none_declared, all_end, moved_away)
