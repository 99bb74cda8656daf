-- Members are dealt to their groups: each list has what a filter of all finds.
use Rattle.std.proofs.Common.{◌≡◌, ◌≢◌, ◌∙◌, ℕ, zero, suc, ◌+◌, ◌<◌, ◌≤◌, List, [], ◌∷◌, ◌++◌, length, map, take, drop, take_all, append-nil, append_assoc, get_or, Bool, true, false, refl, ap, ap₂, sym, subst, arith, if◌then◌else◌}
use Rattle.std.specs.Prelude.{◌==◌, All, filter, replicate, slice_set}
use Rattle.std.specs.List.{enumerate_from, range_with_len}
use Rattle.std.proofs.lemmas.Bool.Decides.{nat_tests}
use Rattle.std.proofs.lemmas.List.{drop_all}
use Rattle.cm_description.specs.declared.loaded.Unit.{Unit as LoadedUnit}
use Rattle.project_checks.specs.Assembly.{dealt_to, home_of}
use Rattle.project_checks.specs.Checks.{members_among}
use Rattle.project_checks.specs.declared.progress.Membership.{Membership}

-- ---- slices of vectors

pub written_back : {A : Type 0} (len : ℕ) (items new : List A) → len ≡ length items → length new ≡ length items
    → take len (new ++ drop (length new) items) ≡ new
written_back len items new size same =
    ap (λ xs. take len (new ++ xs)) (drop_all (length new) items (omega (arith, same)))
    ∙ ap (take len) (append-nil new) ∙ take_all len new (omega (arith, size, same))

-- ---- lists that are made number by number

made_length : (g : ℕ → List ℕ) (n s : ℕ) → length (map g (range_with_len s n)) ≡ n
made_length g zero s = refl
made_length g (suc n) s = ap suc (made_length g n (s + 1))

same_made : (g h : ℕ → List ℕ) (n s : ℕ) → ((i : ℕ) → s ≤ i → g i ≡ h i)
    → map g (range_with_len s n) ≡ map h (range_with_len s n)
same_made g h zero s same = refl
same_made g h (suc n) s same =
    ap₂ (λ (x : List ℕ) (xs : List (List ℕ)). x ∷ xs) (same s (omega arith))
    (same_made g h n (s + 1) (λ i le. same i (omega (arith, le))))

made_at : (g : ℕ → List ℕ) (n s at : ℕ) (d : List ℕ) → at < n
    → get_or (map g (range_with_len s n)) at d ≡ g (s + at)
made_at g zero s at d lt = absurd (omega (arith, lt))
made_at g (suc n) s zero d lt = let same : s ≡ s + 0 = omega arith in ap g same
made_at g (suc n) s (suc at) d lt =
    let same : s + 1 + at ≡ s + suc at = omega arith in
    made_at g n (s + 1) at d (omega (arith, lt)) ∙ ap g same

made_set : (g h : ℕ → List ℕ) (n s at : ℕ) (x : List ℕ) → at < n → x ≡ h (s + at)
    → ((i : ℕ) → i ≢ s + at → g i ≡ h i)
    → slice_set (map g (range_with_len s n)) at x ≡ map h (range_with_len s n)
made_set g h zero s at x lt here other = absurd (omega (arith, lt))
made_set g h (suc n) s zero x lt here other =
    let same : s + 0 ≡ s = omega arith in
    ap₂ (λ (x : List ℕ) (xs : List (List ℕ)). x ∷ xs) (here ∙ ap h same)
    (same_made g h n (s + 1) (λ i le. other i (λ is. absurd (omega (arith, le, is)))))
made_set g h (suc n) s (suc at) x lt here other =
    let same : s + suc at ≡ s + 1 + at = omega arith in
    ap₂ (λ (x : List ℕ) (xs : List (List ℕ)). x ∷ xs) (other s (λ is. absurd (omega (arith, is))))
    (made_set g h n (s + 1) at x (omega (arith, lt)) (here ∙ ap h same)
    (λ i differ. other i (λ is. differ (is ∙ same))))

-- ---- dealing

-- one more member, where it is of the group
abbrev joined_at : ℕ → ℕ → (ℕ → List ℕ) → ℕ → List ℕ
joined_at group member g i = if group == i then g i ++ member ∷ [] else g i

joined_here : (group member : ℕ) (g : ℕ → List ℕ) (b : Bool) → (group == group) ≡ b
    → g group ++ member ∷ [] ≡ (if b then g group ++ member ∷ [] else g group)
joined_here group member g true e = refl
joined_here group member g false e = absurd (grind (arith, nat_tests))

joined_other : (group member : ℕ) (g : ℕ → List ℕ) (i : ℕ) (b : Bool) → (group == i) ≡ b → i ≢ group
    → g i ≡ (if b then g i ++ member ∷ [] else g i)
joined_other group member g i true e differ =
    let same : group ≡ i = grind (arith, nat_tests) in absurd (differ (sym same))
joined_other group member g i false e differ = refl

one_more : (m : Membership) (ms : List Membership) (g : List ℕ) (i : ℕ) (b : Bool)
    → (if b then g ++ m.member ∷ [] else g) ++ members_among ms i
    ≡ g ++ map (λ (x : Membership). x.member)
    (if b then m ∷ filter (λ (x : Membership). x.group == i) ms
    else filter (λ (x : Membership). x.group == i) ms)
one_more m ms g i true = append_assoc g (m.member ∷ []) (members_among ms i)
one_more m ms g i false = refl

dealt_made : (ms : List Membership) (n : ℕ) (g : ℕ → List ℕ) → All (λ (m : Membership). m.group < n) ms
    → dealt_to (map g (range_with_len 0 n)) ms ≡ map (λ i. g i ++ members_among ms i) (range_with_len 0 n)
dealt_made [] n g within = same_made g (λ i. g i ++ []) n 0 (λ i le. sym (append-nil (g i)))
dealt_made (m ∷ ms) n g within =
    let inside : m.group < n = within zero m (omega arith) in
    let zero_is : 0 + m.group ≡ m.group = omega arith in
    let found : get_or (map g (range_with_len 0 n)) m.group [] ≡ g m.group =
    made_at g n 0 m.group [] inside ∙ ap g zero_is in
    let turned : slice_set (map g (range_with_len 0 n)) m.group
    (get_or (map g (range_with_len 0 n)) m.group [] ++ m.member ∷ [])
    ≡ map (joined_at m.group m.member g) (range_with_len 0 n) =
    made_set g (joined_at m.group m.member g) n 0 m.group
    (get_or (map g (range_with_len 0 n)) m.group [] ++ m.member ∷ []) inside
    (ap (λ (xs : List ℕ). xs ++ m.member ∷ []) found
    ∙ joined_here m.group m.member g (m.group == m.group) refl
    ∙ ap (joined_at m.group m.member g) (sym zero_is))
    (λ i differ. joined_other m.group m.member g i (m.group == i) refl (λ same. differ (same ∙ sym zero_is))) in
    ap (λ (lists : List (List ℕ)). dealt_to lists ms) turned
    ∙ dealt_made ms n (joined_at m.group m.member g) (λ k d below. within (suc k) d (omega (arith, below)))
    ∙ same_made (λ i. joined_at m.group m.member g i ++ members_among ms i)
    (λ i. g i ++ members_among (m ∷ ms) i) n 0 (λ i le. one_more m ms (g i) i (m.group == i))

pub none_made : (n s : ℕ) → replicate {A = List ℕ} n [] ≡ map (λ i. []) (range_with_len s n)
none_made zero s = refl
none_made (suc n) s = ap (λ (lists : List (List ℕ)). [] ∷ lists) (none_made n (s + 1))

pub dealt_all : (ms : List Membership) (n : ℕ) → All (λ (m : Membership). m.group < n) ms
    → dealt_to (replicate n []) ms ≡ map (members_among ms) (range_with_len 0 n)
dealt_all ms n within =
    ap (λ (lists : List (List ℕ)). dealt_to lists ms) (none_made n 0) ∙ dealt_made ms n (λ i. []) within

pub made_count : (g : ℕ → List ℕ) (n : ℕ) → length (map g (range_with_len 0 n)) ≡ n
made_count g n = made_length g n 0

-- ---- homes

pub home_small : (n : ℕ) (units : List LoadedUnit) (start : ℕ) → All (λ (unit : LoadedUnit). unit.group < n) units
    → (k : ℕ) (d : Membership)
    → k < length (map (λ (at : ℕ × LoadedUnit). home_of at.0 at.1) (enumerate_from start units))
    → (get_or (map (λ (at : ℕ × LoadedUnit). home_of at.0 at.1) (enumerate_from start units)) k d).group < n
home_small n [] start small k d below = absurd (omega (arith, below))
home_small n (unit ∷ units) start small zero d below = small zero unit (omega arith)
home_small n (unit ∷ units) start small (suc k) d below =
    home_small n units (start + 1) (λ j e inside. small (suc j) e (omega (arith, inside))) k d (omega (arith, below))
