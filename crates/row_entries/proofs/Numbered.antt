-- Variables that are numbered by first occurrence.
use Rattle.std.proofs.Common.{◌≡◌, ◌≢◌, ℕ, zero, suc, ◌+◌, ◌<◌, ◌≤◌, refl, sym, ap, ◌∙◌, arith, List, [], ◌∷◌, ◌++◌, length, get_or, Option, Some, None, Bool, true, false, cond, eqb}
use Rattle.std.specs.List.{range_with_len, flat_map}
use Rattle.std.proofs.lemmas.List.{append_assoc, append-nil, length-append}
use Rattle.std.proofs.lemmas.List.FromFn.{length-range_with_len, get_or-range_with_len}
use Rattle.std.proofs.lemmas.Bool.{eq-eqb, eqb-true}
use Rattle.unification.specs.Closing.{is_among}
use Rattle.unification.proofs.Walking.{either_way, not_both, or_left, or_right, or_either}
use Rattle.semantic_objects.specs.declared.node.TypeNode.{TypeNode}
use Rattle.semantic_objects.specs.Trees.{Tree}
use Rattle.semantic_objects.specs.Nodes.{root}
use Rattle.name_walks.specs.Noting.{noted, noted_all}
use Rattle.name_walks.specs.Visits.{variables_in, variables_at, IsVisited}
use Rattle.name_walks.proofs.Notes.{noted_append}
use Rattle.name_walks.proofs.Once.{variables_noted}
use Rattle.row_entries.specs.Variables.{NumbersOn, AreFirst, CountsFirst}

-- ---- numbers of a range

pub range_end : (a n j : ℕ) → a + n ≡ j → range_with_len a n ++ j ∷ [] ≡ range_with_len a (n + 1)
range_end a zero j e =
    let first : j ≡ a = omega (arith, e) in
    let one : zero + 1 ≡ suc zero = omega arith in
    ap (λ z. z ∷ []) first ∙ ap (range_with_len a) (sym one)
range_end a (suc n) j e =
    let more : suc n + 1 ≡ suc (n + 1) = omega arith in
    let next : (a + 1) + n ≡ j = omega (arith, e) in
    ap (λ z. a ∷ z) (range_end (a + 1) n j next) ∙ ap (range_with_len a) (sym more)

low_more : (a v : ℕ) → a ≤ v → v ≢ a → a + 1 ≤ v
low_more a v low apart = omega (arith, low, apart)

pub among_range : (a n v : ℕ) → a ≤ v → v < a + n → is_among v (range_with_len a n) ≡ true
among_range a zero v low high = absurd (omega (arith, low, high))
among_range a (suc n) v low high = either_way (eqb v a)
    (λ e. or_left (eqb v a) (is_among v (range_with_len (a + 1) n)) e)
    (λ e. or_right (eqb v a) (is_among v (range_with_len (a + 1) n))
    (among_range (a + 1) n v (low_more a v low (λ k. not_both (eqb v a) e (eq-eqb v a k))) (omega (arith, high))))

pub range_below : (a n v : ℕ) → is_among v (range_with_len a n) ≡ true → v < a + n
range_below a zero v h = absurd (cc)
range_below a (suc n) v h = or_either (eqb v a) (is_among v (range_with_len (a + 1) n)) h
    (λ e. (let k = eqb-true v a e in omega (arith, k)))
    (λ e. (let k = range_below (a + 1) n v e in omega (arith, k)))

beyond_range : (n v : ℕ) → n ≤ v → is_among v (range_with_len 0 n) ≡ false
beyond_range n v h = either_way (is_among v (range_with_len 0 n))
    (λ e. (let k = range_below 0 n v e in absurd (omega (arith, h, k)))) (λ e. e)

-- ---- what is noted stands behind what was noted before

record Noted (d all : List ℕ) : Type 0 where
  more : List ℕ
  is : all ≡ d ++ more

first_behind : (d : List ℕ) (x : ℕ) (b : Bool) → Noted d (cond b d (d ++ x ∷ []))
first_behind d x true = record { more = []; is = sym (append-nil d) }
first_behind d x false = record { more = x ∷ []; is = refl }

noted_behind : (d xs : List ℕ) → Noted d (noted_all is_among d xs)
noted_behind d [] = record { more = []; is = sym (append-nil d) }
noted_behind d (x ∷ xs) =
    let first = first_behind d x (is_among x d) in
    let rest = noted_behind (noted is_among d x) xs in
    record {
      more = first.more ++ rest.more;
      is = rest.is ∙ ap (λ z. z ++ rest.more) first.is ∙ append_assoc d first.more rest.more;
    }

-- ---- one variable more

pub met_before : (count v : ℕ) → v < count → NumbersOn count (v ∷ []) (Some count)
met_before count v lt =
    ap (λ b. cond b (range_with_len 0 count) (range_with_len 0 count ++ v ∷ []))
    (among_range 0 count v (omega arith) (omega (arith, lt)))

as_new : (count v : ℕ) → count ≤ v → noted is_among (range_with_len 0 count) v ≡ range_with_len 0 count ++ v ∷ []
as_new count v h =
    ap (λ b. cond b (range_with_len 0 count) (range_with_len 0 count ++ v ∷ [])) (beyond_range count v h)

pub met_next : (count v : ℕ) → v ≡ count → NumbersOn count (v ∷ []) (Some (v + 1))
met_next count v e =
    let above : count ≤ v = omega (arith, e) in
    as_new count v above
    ∙ ap (λ z. range_with_len 0 z ++ v ∷ []) (sym e) ∙ range_end 0 v v (omega arith)

at_length : (xs ys : List ℕ) (y d : ℕ) → get_or (xs ++ y ∷ ys) (length xs) d ≡ y
at_length [] ys y d = refl
at_length (x ∷ xs) ys y d = at_length xs ys y d

no_gap : (count v n : ℕ) (more : List ℕ) → count < v → range_with_len 0 count ++ v ∷ more ≡ range_with_len 0 n → ⊥
no_gap count v n more lt e =
    let xs = range_with_len 0 count in
    let size : length xs ≡ count = length-range_with_len 0 count in
    let all : length (xs ++ v ∷ more) ≡ length xs + suc (length more) = length-append xs (v ∷ more) in
    let both : length (xs ++ v ∷ more) ≡ n = ap length e ∙ length-range_with_len 0 n in
    let within : count < n = omega (arith, size, all, both) in
    let there : get_or (xs ++ v ∷ more) count 0 ≡ v =
    ap (λ z. get_or (xs ++ v ∷ more) z 0) (sym size) ∙ at_length xs more v 0 in
    let here : get_or (xs ++ v ∷ more) count 0 ≡ 0 + count =
    ap (λ z. get_or z count 0) e ∙ get_or-range_with_len 0 n count 0 within in
    let same : v ≡ 0 + count = sym there ∙ here in
    omega (arith, lt, same)

strictly : (count v : ℕ) → count ≤ v → v ≢ count → count < v
strictly count v le apart = omega (arith, le, apart)

pub met_late : (count v : ℕ) → count ≤ v → v ≢ count → NumbersOn count (v ∷ []) None
met_late count v above apart more n e =
    let lt : count < v = strictly count v above apart in
    let rest = noted_behind (range_with_len 0 count ++ v ∷ []) more in
    no_gap count v n rest.more lt
    (sym (append_assoc (range_with_len 0 count) (v ∷ []) rest.more) ∙ sym rest.is
    ∙ ap (λ z. noted_all is_among z more) (sym (as_new count v above)) ∙ e)

-- ---- nodes one after the other

abbrev pub GoesOn : (ℕ → List ℕ) → List ℕ → ℕ → List ℕ → Type 0
GoesOn N all count rest = (more : List ℕ)
    → noted_all is_among [] (all ++ more) ≡ noted_all is_among (range_with_len 0 count) (flat_map N rest ++ more)

one_split : (N : ℕ → List ℕ) (count p : ℕ) (others more : List ℕ)
    → noted_all is_among (range_with_len 0 count) (flat_map N (p ∷ others) ++ more)
    ≡ noted_all is_among (noted_all is_among (range_with_len 0 count) (N p)) (flat_map N others ++ more)
one_split N count p others more =
    ap (noted_all is_among (range_with_len 0 count)) (append_assoc (N p) (flat_map N others) more)
    ∙ noted_append is_among (range_with_len 0 count) (N p) (flat_map N others ++ more)

pub goes_on : (N : ℕ → List ℕ) (all : List ℕ) (count next p : ℕ) (rest others : List ℕ) → rest ≡ p ∷ others
    → NumbersOn count (N p) (Some next) → GoesOn N all count rest → GoesOn N all next others
goes_on N all count next p rest others e h k more =
    k more ∙ ap (λ z. noted_all is_among (range_with_len 0 count) (flat_map N z ++ more)) e
    ∙ one_split N count p others more ∙ ap (λ z. noted_all is_among z (flat_map N others ++ more)) h

pub stops : (N : ℕ → List ℕ) (all : List ℕ) (count p : ℕ) (rest others : List ℕ) → rest ≡ p ∷ others
    → NumbersOn count (N p) None → GoesOn N all count rest → NumbersOn 0 all None
stops N all count p rest others e h k more n f =
    h (flat_map N others ++ more) n
    (ap (noted_all is_among (range_with_len 0 count)) (sym (append_assoc (N p) (flat_map N others) more))
    ∙ ap (λ z. noted_all is_among (range_with_len 0 count) (flat_map N z ++ more)) (sym e) ∙ sym (k more) ∙ f)

pub all_met : (N : ℕ → List ℕ) (all : List ℕ) (count : ℕ) (rest : List ℕ) → rest ≡ [] → GoesOn N all count rest
    → NumbersOn 0 all (Some count)
all_met N all count rest e k =
    ap (noted_all is_among []) (sym (append-nil all)) ∙ k []
    ∙ ap (λ z. noted_all is_among (range_with_len 0 count) (flat_map N z ++ [])) e

-- ---- the variables of a type

pub counts : (t : Tree) (xs : List ℕ) (found : Option ℕ) → noted_all is_among [] xs ≡ noted_all is_among [] (variables_in t)
    → NumbersOn 0 xs found → CountsFirst t found
counts t xs (Some n) e h = sym (variables_noted t []) ∙ sym e ∙ h
counts t xs None e h = λ n k.
    h [] n (ap (noted_all is_among []) (append-nil xs) ∙ e ∙ variables_noted t [] ∙ k)

pub first_once : (t : Tree) (m n : ℕ) → AreFirst t m → AreFirst t n → m ≡ n
first_once t m n h k =
    sym (length-range_with_len 0 m) ∙ ap length (sym h ∙ k) ∙ length-range_with_len 0 n

-- ---- what the visits of a type tell

pub visited : (nodes : List TypeNode) (t : Tree) (slice places : List ℕ) → IsVisited nodes places → root nodes ≡ t
    → slice ≡ places
    → noted_all is_among [] (flat_map (variables_at nodes) slice) ≡ noted_all is_among [] (variables_in t)
visited nodes t slice places h e f =
    ap (λ (z : List ℕ). noted_all is_among [] (flat_map (variables_at nodes) z)) f ∙ h.variables []
    ∙ ap (λ z. noted_all is_among [] (variables_in z)) e
