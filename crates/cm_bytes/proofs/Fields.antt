-- The two laws of each field: what is spelled is read again, whatever follows, and what is read is spelled so.
use Rattle.std.proofs.Common.{◌⊎◌, ◌≡◌, ℕ, zero, suc, ◌+◌, ◌^◌, ◌<◌, ◌≤◌, Bool, true, false, cond, ltb, List, [], ◌∷◌, ◌++◌, length, slice_index, take, drop, All, Option, Some, None, refl, sym, ap, subst, ◌∙◌, append_assoc, arith, inl, inr}
use Rattle.std.specs.Prelude.{◌↔◌}
use Rattle.std.specs.List.{flat_map}
use Rattle.std.specs.Int.{w32, to_be_bytes, from_be_bytes}
use Rattle.std.proofs.lemmas.Bool.{cases_lt, ltb-false, le-ltb, lt-ltb}
use Rattle.std.proofs.lemmas.List.{append-nil, take_at, drop_at, take-append-drop, length-append, length-take, get_or-drop, get_or-take, get_or_past}
use Rattle.std.proofs.lemmas.List.Elements.{All-nil, All-cons, All-head, All-tail}
use Rattle.std.proofs.lemmas.List.Concat.{flat_map-cons}
use Rattle.std.proofs.lemmas.Nat.{be_bytes_4, from_be_bytes-to_be_bytes_4}
use Rattle.cm_bytes.specs.Fields.{Step, ◌>>=◌, IsBytes, IsReadAgain, Takes, ReadsSpelled, byte_at, raw_at, u32_of, u32_at, text_of, text_at, list_of, items_at, list_at}

-- ---- bytes

pub IsBytes-nil : IsBytes []
IsBytes-nil = record { below = λ i. omega arith }

pub IsBytes-cons : (b : ℕ) (bytes : List ℕ) → b < 256 → IsBytes bytes → IsBytes (b ∷ bytes)
IsBytes-cons b bytes h k = record { below = cells }
  where
    cells : (i : ℕ) → slice_index (b ∷ bytes) i < 256
    cells zero = h
    cells (suc i) = k.below i

pub IsBytes-head : (b : ℕ) (bytes : List ℕ) → IsBytes (b ∷ bytes) → b < 256
IsBytes-head b bytes h = h.below 0

pub IsBytes-tail : (b : ℕ) (bytes : List ℕ) → IsBytes (b ∷ bytes) → IsBytes bytes
IsBytes-tail b bytes h = record { below = λ i. h.below (suc i) }

pub IsBytes-drop : (n : ℕ) (bytes : List ℕ) → IsBytes bytes → IsBytes (drop n bytes)
IsBytes-drop n bytes h = record { below = λ i. rw get_or-drop (h.below (n + i)) }

pub IsBytes-take : (n : ℕ) (bytes : List ℕ) → IsBytes bytes → IsBytes (take n bytes)
IsBytes-take n bytes h = record {
  below = λ i.
      elim (cases_lt i n) [
        | inl lt ↦ rw (get_or-take n bytes i 0 lt) (h.below i)
        | inr le ↦ rw (get_or_past (take n bytes) i 0 (omega (arith, length-take n bytes))) (omega arith)
      ];
}

pub IsBytes-append : (a b : List ℕ) → IsBytes a → IsBytes b → IsBytes (a ++ b)
IsBytes-append [] b h k = k
IsBytes-append (x ∷ a) b h k =
    IsBytes-cons x (a ++ b) (IsBytes-head x a h) (IsBytes-append a b (IsBytes-tail x a h) k)

pub IsBytes-append_left : (a b : List ℕ) → IsBytes (a ++ b) → IsBytes a
IsBytes-append_left [] b h = IsBytes-nil
IsBytes-append_left (x ∷ a) b h =
    IsBytes-cons x a (IsBytes-head x (a ++ b) h) (IsBytes-append_left a b (IsBytes-tail x (a ++ b) h))

pub IsBytes-append_right : (a b : List ℕ) → IsBytes (a ++ b) → IsBytes b
IsBytes-append_right [] b h = h
IsBytes-append_right (x ∷ a) b h = IsBytes-append_right a b (IsBytes-tail x (a ++ b) h)

-- ---- steps of reading

-- the value of a step that had enough bytes
pub bind_some : {A B : Type 0} (read : Option A) (next : A → Option B) (y : B) → (read >>= next) ≡ Some y
    → (x : A) × (read ≡ Some x) × (next x ≡ Some y)
bind_some (Some x) next y e = (x, refl, e)
bind_some None next y e = absurd cc

-- a step that had too few bytes, at its first part or after it
pub bind_none : {A B : Type 0} (read : Option A) (next : A → Option B)
    → (read >>= next) ≡ None → (read ≡ None) ⊎ ((x : A) × (read ≡ Some x) × (next x ≡ None))
bind_none (Some x) next e = inr (x, refl, e)
bind_none None next e = inl refl

abbrev found : {A : Type 0} → A → Option A
found x = Some x

pub some_is : {A : Type 0} (x y : A) → found x ≡ found y → x ≡ y
some_is x y e = cc

guard_some : {A : Type 0} (short : Bool) (x y : A) → cond short None (Some x) ≡ Some y → (short ≡ false) × (x ≡ y)
guard_some true x y e = absurd cc
guard_some false x y e = (refl, cc)

-- a step that has too few bytes is one that is refused
guard_none : {A : Type 0} (have want : ℕ) (x : A) → (cond (ltb have want) None (Some x) ≡ None) ↔ (have < want)
guard_none have want x = (
  λ e.
      elim (cases_lt have want) [
        | inl lt ↦ lt
        | inr le ↦ let enough = le-ltb have want le in absurd (cc (rw enough at e))
      ],
  λ lt. let short = lt-ltb have want lt in rw short refl,
)

-- one spelling and then the next
pub Takes-then : {a x b y c : List ℕ} → Takes a x b → Takes b y c → Takes a (x ++ y) c
Takes-then {a} {x} {b} {y} {c} p q = record {
  parts = p.parts ∙ ap (λ (t : List ℕ). x ++ t) q.parts ∙ sym (append_assoc x y c);
  front = IsBytes-append x y p.front q.front;
  after = q.after;
}

pub Takes-at : (n : ℕ) (bytes : List ℕ) → IsBytes bytes → Takes bytes (take n bytes) (drop n bytes)
Takes-at n bytes h = record {
  parts = sym (take-append-drop n bytes);
  front = IsBytes-take n bytes h;
  after = IsBytes-drop n bytes h;
}

-- no spelling that is read again is a front of another, and no two values are spelled alike
pub no_front : {A : Type 0} (item_of : A → List ℕ) (item_at : Step A) (a b : A) (more : List ℕ)
    → IsReadAgain item_of item_at a → IsReadAgain item_of item_at b
    → item_of a ++ more ≡ item_of b → (a ≡ b) × (more ≡ [])
no_front {A} item_of item_at a b more f g e =
    let both : found (a, more) ≡ found (b, []) =
    sym (f.again more) ∙ ap item_at (e ∙ sym (append-nil (item_of b))) ∙ g.again [] in
    let pair : (a, more) ≡ (b, []) = cc in
    (ap (λ (p : A × List ℕ). p.0) pair, ap (λ (p : A × List ℕ). p.1) pair)

-- ---- a byte

pub byte_again : (b : ℕ) (rest : List ℕ) → byte_at (b ∷ rest) ≡ Some (b, rest)
unfolding byte_at
byte_again b rest = refl

pub byte_takes : (bytes : List ℕ) (b : ℕ) (rest : List ℕ) → IsBytes bytes → byte_at bytes ≡ Some (b, rest)
    → Takes bytes (b ∷ []) rest × (b < 256)
unfolding byte_at
byte_takes [] b rest h e = absurd cc
byte_takes (x ∷ bytes) b rest h e =
    let first = IsBytes-head x bytes h in
    subst (λ (p : ℕ × List ℕ). Takes (x ∷ bytes) (p.0 ∷ []) p.1 × (p.0 < 256)) (some_is (x, bytes) (b, rest) e) (
      record {
        parts = refl;
        front = IsBytes-cons x [] first IsBytes-nil;
        after = IsBytes-tail x bytes h;
      },
      first,
    )

-- ---- so many bytes

pub raw_again : (text rest : List ℕ) → raw_at (length text) (text ++ rest) ≡ Some (text, rest)
unfolding raw_at
raw_again text rest =
    let long : ltb (length (text ++ rest)) (length text) ≡ false =
    le-ltb _ _ (omega (arith, length-append text rest)) in
    rw (long, take_at text rest (length text) refl, drop_at text rest (length text) refl) refl

-- too few bytes are refused, and nothing else
pub raw_at-none : (n : ℕ) (bytes : List ℕ) → (raw_at n bytes ≡ None) ↔ (length bytes < n)
unfolding raw_at
raw_at-none n bytes = guard_none (length bytes) n (take n bytes, drop n bytes)

pub raw_takes : (n : ℕ) (bytes text rest : List ℕ) → IsBytes bytes → raw_at n bytes ≡ Some (text, rest)
    → Takes bytes text rest × (length text ≡ n)
unfolding raw_at
raw_takes n bytes text rest h e =
    let g = guard_some (ltb (length bytes) n) (take n bytes, drop n bytes) (text, rest) e in
    let long : n ≤ length bytes = ltb-false _ _ g.0 in
    let count : length (take n bytes) ≡ n = omega (arith, length-take n bytes) in
    subst (λ (p : List ℕ × List ℕ). Takes bytes p.0 p.1 × (length p.0 ≡ n)) g.1 (Takes-at n bytes h, count)

-- ---- numbers

pub length-u32_of : (n : ℕ) → length (u32_of n) ≡ 4
unfolding u32_of
length-u32_of n = refl

pub IsBytes-to_be_bytes : (n : ℕ) → IsBytes (to_be_bytes w32 n)
IsBytes-to_be_bytes n =
    IsBytes-cons _ _ (omega arith) (IsBytes-cons _ _ (omega arith)
    (IsBytes-cons _ _ (omega arith) (IsBytes-cons _ _ (omega arith) IsBytes-nil)))

pub IsBytes-u32_of : (n : ℕ) → IsBytes (u32_of n)
unfolding u32_of
IsBytes-u32_of n = IsBytes-to_be_bytes n

-- four bytes are read as the number that they are
u32_at_front : (front rest : List ℕ) → length front ≡ 4
    → u32_at (front ++ rest) ≡ Some (from_be_bytes w32 front, rest)
unfolding u32_at
u32_at_front front rest len =
    let long : ltb (length (front ++ rest)) 4 ≡ false = le-ltb _ _ (omega (arith, length-append front rest)) in
    rw (long, take_at front rest 4 len, drop_at front rest 4 len) refl

number_back : (n : ℕ) → n < 2 ^ 32 → from_be_bytes w32 (u32_of n) ≡ n
unfolding u32_of
number_back n lt = from_be_bytes-to_be_bytes_4 n lt

pub u32_again : (n : ℕ) (rest : List ℕ) → n < 2 ^ 32 → u32_at (u32_of n ++ rest) ≡ Some (n, rest)
u32_again n rest lt =
    u32_at_front (u32_of n) rest (length-u32_of n) ∙ ap (λ (k : ℕ). Some (k, rest)) (number_back n lt)

pub u32_at-none : (bytes : List ℕ) → (u32_at bytes ≡ None) ↔ (length bytes < 4)
unfolding u32_at
u32_at-none bytes = guard_none (length bytes) 4 (from_be_bytes w32 (take 4 bytes), drop 4 bytes)

number_below : (bytes : List ℕ) → IsBytes bytes → from_be_bytes w32 bytes < 2 ^ 32
number_below bytes h = omega (arith, h.below 0, h.below 1, h.below 2, h.below 3)

pub u32_takes : (bytes : List ℕ) (n : ℕ) (rest : List ℕ) → IsBytes bytes → u32_at bytes ≡ Some (n, rest)
    → Takes bytes (u32_of n) rest × (n < 2 ^ 32)
unfolding u32_of u32_at
u32_takes bytes n rest h e =
    let g = guard_some (ltb (length bytes) 4) (from_be_bytes w32 (take 4 bytes), drop 4 bytes) (n, rest) e in
    let long : 4 ≤ length bytes = ltb-false _ _ g.0 in
    let four = take 4 bytes in
    let cells = IsBytes-take 4 bytes h in
    let back : to_be_bytes w32 (from_be_bytes w32 four) ≡ four =
    be_bytes_4 four _ (omega (arith, length-take 4 bytes)) cells.below refl in
    let whole = subst (λ (t : List ℕ). Takes bytes t (drop 4 bytes)) (sym back) (Takes-at 4 bytes h) in
    let below = number_below four cells in
    subst (λ (p : ℕ × List ℕ). Takes bytes (to_be_bytes w32 p.0) p.1 × (p.0 < 2 ^ 32)) g.1 (whole, below)

pub u32_is_read_again : (n : ℕ) → n < 2 ^ 32 → IsReadAgain u32_of u32_at n
u32_is_read_again n lt = record { again = λ rest. u32_again n rest lt }

pub u32_reads_spelled : ReadsSpelled u32_of u32_at (λ n. n < 2 ^ 32)
u32_reads_spelled = record {
  takes = λ bytes n rest h e. (u32_takes bytes n rest h e).0;
  fits = λ bytes n rest h e. (u32_takes bytes n rest h e).1;
}

-- ---- texts

pub length-text_of : (text : List ℕ) → length (text_of text) ≡ 4 + length text
unfolding text_of
length-text_of text = omega (arith, length-append (u32_of (length text)) text, length-u32_of (length text))

pub IsBytes-text_of : (text : List ℕ) → IsBytes text → IsBytes (text_of text)
unfolding text_of
IsBytes-text_of text h = IsBytes-append (u32_of (length text)) text (IsBytes-u32_of (length text)) h

pub text_again : (text rest : List ℕ) → length text < 2 ^ 32 → text_at (text_of text ++ rest) ≡ Some (text, rest)
unfolding text_of text_at
text_again text rest lt =
    let after : Option (ℕ × List ℕ) → Option (List ℕ × List ℕ) = λ read. read >>= λ n. raw_at n.0 n.1 in
    ap (λ (bytes : List ℕ). after (u32_at bytes)) (append_assoc (u32_of (length text)) text rest)
    ∙ ap after (u32_again (length text) (text ++ rest) lt)
    ∙ raw_again text rest

-- a text is refused where its length is missing, or where the bytes after it are
pub text_at-none : (bytes : List ℕ)
    → (text_at bytes ≡ None) ↔ ((length bytes < 4) ⊎
    ((n : ℕ) × (rest : List ℕ) × (u32_at bytes ≡ Some (n, rest)) × (length rest < n)))
unfolding text_at
text_at-none bytes = (
  λ e.
      elim (bind_none (u32_at bytes) (λ n. raw_at n.0 n.1) e) [
        | inl none ↦ inl ((u32_at-none bytes).0 none)
        | inr later ↦ inr (later.0.0, later.0.1, later.1, (raw_at-none later.0.0 later.0.1).0 later.2)
      ],
  λ short.
      elim short [
        | inl lt ↦ let none = (u32_at-none bytes).1 lt in rw none refl
        | inr later ↦ let read = later.2 in rw read ((raw_at-none later.0 later.1).1 later.3)
      ],
)

pub text_takes : (bytes text rest : List ℕ) → IsBytes bytes → text_at bytes ≡ Some (text, rest)
    → Takes bytes (text_of text) rest × (length text < 2 ^ 32)
unfolding text_of text_at
text_takes bytes text rest h e =
    let b = bind_some (u32_at bytes) (λ n. raw_at n.0 n.1) (text, rest) e in
    let n = u32_takes bytes b.0.0 b.0.1 h b.1 in
    let t = raw_takes b.0.0 b.0.1 text rest n.0.after b.2 in
    (subst (λ (k : ℕ). Takes bytes (u32_of k ++ text) rest) (sym t.1) (Takes-then n.0 t.0), omega (arith, n.1, t.1))

pub text_is_read_again : (text : List ℕ) → length text < 2 ^ 32 → IsReadAgain text_of text_at text
text_is_read_again text lt = record { again = λ rest. text_again text rest lt }

pub text_reads_spelled : ReadsSpelled text_of text_at (λ text. length text < 2 ^ 32)
text_reads_spelled = record {
  takes = λ bytes text rest h e. (text_takes bytes text rest h e).0;
  fits = λ bytes text rest h e. (text_takes bytes text rest h e).1;
}

-- ---- lists

pub length-list_of : {A : Type 0} (item_of : A → List ℕ) (xs : List A)
    → length (list_of item_of xs) ≡ 4 + length (flat_map item_of xs)
unfolding list_of
length-list_of item_of xs =
    let count = length-u32_of (length xs) in
    let both = length-append (u32_of (length xs)) (flat_map item_of xs) in
    omega (arith, count, both)

pub IsBytes-flat_map : {A : Type 0} (item_of : A → List ℕ) (xs : List A) → All (λ x. IsBytes (item_of x)) xs
    → IsBytes (flat_map item_of xs)
IsBytes-flat_map item_of [] h = IsBytes-nil
IsBytes-flat_map item_of (x ∷ xs) h =
    let first = All-head (λ x. IsBytes (item_of x)) x xs h in
    let others = IsBytes-flat_map item_of xs (All-tail (λ x. IsBytes (item_of x)) x xs h) in
    rw flat_map-cons (IsBytes-append (item_of x) (flat_map item_of xs) first others)

pub IsBytes-list_of : {A : Type 0} (item_of : A → List ℕ) (xs : List A) → All (λ x. IsBytes (item_of x)) xs
    → IsBytes (list_of item_of xs)
unfolding list_of
IsBytes-list_of item_of xs h =
    let count = IsBytes-u32_of (length xs) in
    IsBytes-append (u32_of (length xs)) (flat_map item_of xs) count (IsBytes-flat_map item_of xs h)

pub items_again : {A : Type 0} (item_of : A → List ℕ) (item_at : Step A) (xs : List A) (rest : List ℕ)
    → All (IsReadAgain item_of item_at) xs
    → items_at item_at (length xs) (flat_map item_of xs ++ rest) ≡ Some (xs, rest)
unfolding items_at
items_again item_of item_at [] rest h = refl
items_again {A} item_of item_at (x ∷ xs) rest h =
    let first = All-head (IsReadAgain item_of item_at) x xs h in
    let others = items_again item_of item_at xs rest (All-tail (IsReadAgain item_of item_at) x xs h) in
    let grouped : flat_map item_of (x ∷ xs) ++ rest ≡ item_of x ++ (flat_map item_of xs ++ rest) =
    ap (λ (bs : List ℕ). bs ++ rest) (flat_map-cons item_of x xs)
    ∙ append_assoc (item_of x) (flat_map item_of xs) rest in
    ap (items_at item_at (suc (length xs))) grouped ∙ rw (first.again (flat_map item_of xs ++ rest), others) refl

pub list_again : {A : Type 0} (item_of : A → List ℕ) (item_at : Step A) (xs : List A) (rest : List ℕ)
    → All (IsReadAgain item_of item_at) xs → length xs < 2 ^ 32
    → list_at item_at (list_of item_of xs ++ rest) ≡ Some (xs, rest)
unfolding list_of list_at
list_again {A} item_of item_at xs rest h lt =
    let items = flat_map item_of xs in
    let after : Option (ℕ × List ℕ) → Option (List A × List ℕ) = λ read. read >>= λ n. items_at item_at n.0 n.1 in
    ap (λ (bytes : List ℕ). after (u32_at bytes)) (append_assoc (u32_of (length xs)) items rest)
    ∙ ap after (u32_again (length xs) (items ++ rest) lt)
    ∙ items_again item_of item_at xs rest h

-- what reading so many items gives
pub record TakesItems {A : Type 0} (item_of : A → List ℕ) (Fits : A → Type 0) (n : ℕ) (bytes : List ℕ)
    (xs : List A) (rest : List ℕ) : Type 0 where
  pub takes : Takes bytes (flat_map item_of xs) rest
  pub count : length xs ≡ n
  pub fits : All Fits xs

pub items_take : {A : Type 0} (item_of : A → List ℕ) (item_at : Step A) (Fits : A → Type 0)
    (law : ReadsSpelled item_of item_at Fits) (n : ℕ) (bytes : List ℕ) (xs : List A) (rest : List ℕ)
    → IsBytes bytes → items_at item_at n bytes ≡ Some (xs, rest) → TakesItems item_of Fits n bytes xs rest
unfolding items_at
items_take {A} item_of item_at Fits law zero bytes xs rest h e =
    let none : TakesItems item_of Fits 0 bytes [] bytes = record {
      takes = record { parts = refl; front = IsBytes-nil; after = h };
      count = refl;
      fits = All-nil Fits;
    } in
    subst (λ (y : List A × List ℕ). TakesItems item_of Fits 0 bytes y.0 y.1) (some_is ([], bytes) (xs, rest) e) none
items_take {A} item_of item_at Fits law (suc n) bytes xs rest h e =
    let later : A × List ℕ → Option (List A × List ℕ) =
    λ first. items_at item_at n first.1 >>= λ others. Some (first.0 ∷ others.0, others.1) in
    let a = bind_some (item_at bytes) later (xs, rest) e in
    let b = bind_some (items_at item_at n a.0.1) (λ others. Some (a.0.0 ∷ others.0, others.1)) (xs, rest) a.2 in
    let first = law.takes bytes a.0.0 a.0.1 h a.1 in
    let others = items_take item_of item_at Fits law n a.0.1 b.0.0 b.0.1 first.after b.1 in
    let made : List A × List ℕ = (a.0.0 ∷ b.0.0, b.0.1) in
    let all : TakesItems item_of Fits (suc n) bytes made.0 made.1 = record {
      takes = rw flat_map-cons (Takes-then first others.takes);
      count = ap suc others.count;
      fits = All-cons Fits a.0.0 b.0.0 (law.fits bytes a.0.0 a.0.1 h a.1) others.fits;
    } in
    subst (λ (y : List A × List ℕ). TakesItems item_of Fits (suc n) bytes y.0 y.1) (some_is made (xs, rest) b.2) all

-- what reading a list gives
pub record TakesList {A : Type 0} (item_of : A → List ℕ) (Fits : A → Type 0) (bytes : List ℕ)
    (xs : List A) (rest : List ℕ) : Type 0 where
  pub takes : Takes bytes (list_of item_of xs) rest
  pub count : length xs < 2 ^ 32
  pub fits : All Fits xs

pub list_takes : {A : Type 0} (item_of : A → List ℕ) (item_at : Step A) (Fits : A → Type 0)
    (law : ReadsSpelled item_of item_at Fits) (bytes : List ℕ) (xs : List A) (rest : List ℕ)
    → IsBytes bytes → list_at item_at bytes ≡ Some (xs, rest) → TakesList item_of Fits bytes xs rest
unfolding list_of list_at
list_takes {A} item_of item_at Fits law bytes xs rest h e =
    let a = bind_some (u32_at bytes) (λ n. items_at item_at n.0 n.1) (xs, rest) e in
    let n = u32_takes bytes a.0.0 a.0.1 h a.1 in
    let items = items_take item_of item_at Fits law a.0.0 a.0.1 xs rest n.0.after a.2 in
    record {
      takes = subst (λ (k : ℕ). Takes bytes (u32_of k ++ flat_map item_of xs) rest) (sym items.count)
          (Takes-then n.0 items.takes);
      count = omega (arith, items.count, n.1);
      fits = items.fits;
    }
