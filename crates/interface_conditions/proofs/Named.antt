-- When a text is a name.
use Rattle.std.proofs.Common.{◌≡◌, ℕ, zero, suc, ◌≤◌, ◌<◌, refl, subst, List, [], ◌∷◌, length, get_or, Bool, true, false, Some, arith}
use Rattle.std.specs.Ordering.{nat_cmp}
use Rattle.std.specs.declared.cmp.Ordering.TheVariants.{Less}
use Rattle.std.specs.Cmp.Lexicographic.{slice_cmp}
use Rattle.semantic_objects.specs.Symbols.{AreRising}
use Rattle.std.specs.Prelude.{All, slice_get, ◌&&◌, nat_lt}
use Rattle.std.specs.List.{list_all}
use Rattle.std.proofs.lemmas.List.Elements.{All-nil, All-cons, All-head, All-tail}
use Rattle.std.proofs.lemmas.Bool.{ltb-true, lt-ltb}
use Rattle.interface_format.specs.Rules.{IsName}
use Rattle.interface_conditions.specs.Names.{is_graph}

and_parts : (a b : Bool) → (a && b) ≡ true → (a ≡ true) × (b ≡ true)
and_parts true b h = (refl, h)
and_parts false b h = absurd (cc)

and_both : (a b : Bool) → a ≡ true → b ≡ true → (a && b) ≡ true
and_both true b h k = k
and_both false b h k = h

from_graph : (b : ℕ) → is_graph b ≡ true → 33 ≤ b
from_graph b h = ltb-true 32 b (and_parts (nat_lt 32 b) (nat_lt b 127) h).0

to_graph : (b : ℕ) → is_graph b ≡ true → b ≤ 126
to_graph b h = let less : b < 127 = ltb-true b 127 (and_parts (nat_lt 32 b) (nat_lt b 127) h).1 in omega (arith, less)

graph_is : (b : ℕ) → 33 ≤ b → b ≤ 126 → is_graph b ≡ true
graph_is b h k =
    and_both (nat_lt 32 b) (nat_lt b 127) (lt-ltb 32 b h) (lt-ltb b 127 (omega (arith, k)))

from_all : (text : List ℕ) → list_all is_graph text ≡ true → All (λ b. 33 ≤ b) text
from_all [] h = All-nil (λ b. 33 ≤ b)
from_all (b ∷ text) h =
    let k = and_parts (is_graph b) (list_all is_graph text) h in
    All-cons (λ b. 33 ≤ b) b text (from_graph b k.0) (from_all text k.1)

to_all : (text : List ℕ) → list_all is_graph text ≡ true → All (λ b. b ≤ 126) text
to_all [] h = All-nil (λ b. b ≤ 126)
to_all (b ∷ text) h =
    let k = and_parts (is_graph b) (list_all is_graph text) h in
    All-cons (λ b. b ≤ 126) b text (to_graph b k.0) (to_all text k.1)

both_all : (text : List ℕ) → All (λ b. 33 ≤ b) text → All (λ b. b ≤ 126) text → list_all is_graph text ≡ true
both_all [] h k = refl
both_all (b ∷ text) h k =
    and_both (is_graph b) (list_all is_graph text)
    (graph_is b (All-head (λ b. 33 ≤ b) b text h) (All-head (λ b. b ≤ 126) b text k))
    (both_all text (All-tail (λ b. 33 ≤ b) b text h) (All-tail (λ b. b ≤ 126) b text k))

pub is_named : (text : List ℕ) → 1 ≤ length text → length text ≤ 255 → list_all is_graph text ≡ true → IsName text
is_named text some short h = record { some = some; short = short; from = from_all text h; to = to_all text h }

pub named_is : (text : List ℕ) → IsName text → list_all is_graph text ≡ true
named_is text h = both_all text h.from h.to

-- ---- rising names

-- each name before a place stands before the next one
pub record RisesTo (at : ℕ) (names : List (List ℕ)) : Type 0 where
  pub less : (k : ℕ) → suc k < at → suc k < length names
      → slice_cmp nat_cmp (get_or names k []) (get_or names (suc k) []) ≡ Less

pub rises_all : (at : ℕ) (names : List (List ℕ)) → RisesTo at names → length names ≤ at → AreRising names
rises_all at [] h le = tt
rises_all at (x ∷ []) h le = tt
rises_all zero (x ∷ y ∷ names) h le = absurd (omega (arith, le))
rises_all (suc at) (x ∷ y ∷ names) h le = (
  h.less 0 (omega (arith, le)) (omega arith),
  rises_all at (y ∷ names) (record {
    less = λ k lt within. h.less (suc k) (omega (arith, lt)) (omega (arith, within));
  }) (omega (arith, le)),
)

pub rises_at : (names : List (List ℕ)) (k : ℕ) (x y : List ℕ) → AreRising names → slice_get names k ≡ Some x
    → slice_get names (suc k) ≡ Some y → slice_cmp nat_cmp x y ≡ Less
rises_at [] k x y h e i = absurd (cc)
rises_at (a ∷ []) zero x y h e i = absurd (cc)
rises_at (a ∷ []) (suc k) x y h e i = absurd (cc)
rises_at (a ∷ b ∷ names) zero x y h e i =
    let p : a ≡ x = cc in
    let q : b ≡ y = cc in
    subst (λ z. slice_cmp nat_cmp z y ≡ Less) p (subst (λ z. slice_cmp nat_cmp a z ≡ Less) q h.0)
rises_at (a ∷ b ∷ names) (suc k) x y h e i = rises_at (b ∷ names) k x y h.1 e i

pub not_both : (b : Bool) → b ≡ false → b ≡ true → ⊥
not_both true e k = absurd (cc)
not_both false e k = absurd (cc)
