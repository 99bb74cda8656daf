-- Components: what stands above a place, and what a path begins with.
use Rattle.std.proofs.Common.{◌≡◌, ℕ, ◌+◌, ◌==◌, ◌&&◌, Bool, true, false, cond, List, [], ◌∷◌, ◌++◌, length, take, drop, Some, refl, ap, sym, get_or, append-nil, ◌<◌, ◌≤◌, ◌-◌, take_all, ◌∙◌, arith}
use Rattle.std.specs.Prelude.{nat_eq, flat_map, Option, Result, Ok, Err, IsErrAnd}
use Rattle.std.specs.List.{onto_first, position_or_len}
use Rattle.std.specs.Option.{option_and_then}
use Rattle.std.proofs.lemmas.List.{drop_more}
use Rattle.std.proofs.lemmas.Bool.{eq-eqb, eqb-true}
use Rattle.std.proofs.lemmas.Bool.Decides.{nat_tests}
use Rattle.path_anchors.specs.declared.fault.PathFault.{PathFault}
use Rattle.path_anchors.specs.declared.fault.PathFault.TheVariants as fault
use Rattle.path_anchors.specs.Names.{parts_of, path_of, all_but_last, above, stepped, walked, begins_with, is_end, Walks}
use Rattle.path_anchors.proofs.Runs.{pieces_after, slice_split-first}
use lib.Pointwise.{pointwise}

-- what is left of a list, from an item on
pub rest_from : {A : Type 0} (items : List A) (at : ℕ) (item : A) → at < length items → item ≡ get_or items at item
    → drop at items ≡ item ∷ drop (at + 1) items
rest_from items at item lt is = drop_more items at item lt ∙ ap (λ x. x ∷ drop (at + 1) items) (sym is)

-- all but the last one of some and one more
pub all_but_last-more : (parts : List (List ℕ)) (last : List ℕ) → all_but_last (parts ++ last ∷ []) ≡ parts
all_but_last-more [] last = refl
all_but_last-more (part ∷ []) last = refl
all_but_last-more (part ∷ next ∷ parts) last = ap (λ (ps : List (List ℕ)). part ∷ ps) (all_but_last-more (next ∷ parts) last)

pub above_last : (parts : List (List ℕ)) (last : List ℕ) → above (parts ++ last ∷ []) ≡ Some parts
above_last [] last = refl
above_last (part ∷ parts) last = ap Some (all_but_last-more (part ∷ parts) last)

pub ruleset last = (all_but_last-more)

-- ---- paths of components

-- a component behind a slash
abbrev pub slashed : List ℕ → List ℕ
slashed part = 47 ∷ part

-- a path is its first component, and the others each behind a slash
pub path_of_more : (first : List ℕ) (parts : List (List ℕ)) → path_of (first ∷ parts) ≡ first ++ flat_map slashed parts
path_of_more first [] = sym (append-nil first)
path_of_more first (next ∷ parts) = ap (λ (rest : List ℕ). first ++ 47 ∷ rest) (path_of_more next parts)

-- .. where the loop over the others begins
pub path_of_first : (parts : List (List ℕ)) (first path : List ℕ) → 1 ≤ length parts → first ≡ get_or parts 0 first → path ≡ first
    → path ++ flat_map slashed (drop 0 (take (length parts - 1) (drop 1 parts))) ≡ path_of parts
path_of_first [] first path some item is = absurd (omega arith)
path_of_first (part ∷ parts) first path some item is =
    let all : take (length (part ∷ parts) - 1) parts ≡ parts = take_all _ parts (omega arith) in
    rw (is, item, path_of_more) (ap (λ (ps : List (List ℕ)). part ++ flat_map slashed ps) all)

-- ---- one path below another

abbrev is_slash : ℕ → Bool
is_slash byte = byte == 47

-- whether a path begins with another and a slash, or is it, byte by byte
abbrev pub below_bytes : List ℕ → List ℕ → Bool
below_bytes path [] = is_end path
below_bytes [] (first ∷ front) = false
below_bytes (byte ∷ path) (first ∷ front) = nat_eq first byte && below_bytes path front

-- a path has a first component
abbrev Splits : List ℕ → Type 0
Splits path = (first : List ℕ) × (others : List (List ℕ)) × (parts_of path ≡ first ∷ others)

splits : (path : List ℕ) → Splits path
splits path = (take (position_or_len is_slash path) path, pieces_after is_slash (drop (position_or_len is_slash path) path), slice_split-first is_slash path)

-- the components of a path that begins with a slash, or with another byte
abbrev after_byte : ℕ → Bool → List (List ℕ) → List (List ℕ)
after_byte byte slash parts = cond slash ([] ∷ parts) (onto_first byte parts)

-- nothing is below a path that is empty
empty_front : (path : List ℕ) → begins_with (parts_of path) ([] ∷ []) ≡ is_end path
empty_front [] = refl
empty_front (byte ∷ path) = by_test (is_slash byte) (splits path)
  where
    by_test : (slash : Bool) → Splits path → begins_with (after_byte byte slash (parts_of path)) ([] ∷ []) ≡ slash
    by_test true at = refl
    by_test false at = rw at.2 refl

-- .. and an empty path is below no other one
empty_path : (first : ℕ) (front : List ℕ) → begins_with ([] ∷ []) (parts_of (first ∷ front)) ≡ false
empty_path first front = by_test (is_slash first) (splits front)
  where
    by_test : (slash : Bool) → Splits front → begins_with ([] ∷ []) (after_byte first slash (parts_of front)) ≡ false
    by_test true at = rw at.2 refl
    by_test false at = rw at.2 refl

and_assoc : (a b c : Bool) → ((a && b) && c) ≡ (a && (b && c))
and_assoc true b c = refl
and_assoc false b c = refl

-- one byte more in both paths
byte_more : (byte first : ℕ) (path front : List ℕ) (slash other : Bool) → is_slash byte ≡ slash → is_slash first ≡ other
    → Splits path → Splits front
    → begins_with (after_byte byte slash (parts_of path)) (after_byte first other (parts_of front))
    ≡ (nat_eq first byte && begins_with (parts_of path) (parts_of front))
byte_more byte first path front true true is other at of =
    let same : nat_eq first byte ≡ true = eq-eqb first byte (eqb-true first 47 other ∙ sym (eqb-true byte 47 is)) in
    rw same refl
byte_more byte first path front true false is other at of =
    let differ : nat_eq first byte ≡ false = grind (arith, nat_tests) in
    rw (of.2, differ) refl
byte_more byte first path front false true is other at of =
    let differ : nat_eq first byte ≡ false = grind (arith, nat_tests) in
    rw (at.2, differ) refl
byte_more byte first path front false false is other at of =
    rw (at.2, of.2) (and_assoc (nat_eq first byte) (pointwise nat_eq of.0 at.0) (begins_with at.1 of.1))

pub begins_with_below : (path front : List ℕ) → begins_with (parts_of path) (parts_of front) ≡ below_bytes path front
begins_with_below path [] = empty_front path
begins_with_below [] (first ∷ front) = empty_path first front
begins_with_below (byte ∷ path) (first ∷ front) =
    byte_more byte first path front (is_slash byte) (is_slash first) refl refl (splits path) (splits front)
    ∙ ap (λ b. nat_eq first byte && b) (begins_with_below path front)

-- ---- a walk that stops

pub err_is : {A E : Type 0} (r : Result A E) (e : E) → IsErrAnd r (λ y. y ≡ e) → r ≡ Err e
err_is (Ok value) e is = absurd is
err_is (Err y) e is = ap Err is

pub walk_stops : (r : Result (Unit {0}) PathFault) (e : PathFault) (parts : List (List ℕ)) (at : ℕ) (part : List ℕ)
    (here now : List (List ℕ)) (all : Option (List (List ℕ))) → r ≡ Err e
    → at < length parts → part ≡ get_or parts at part → Walks (Err e) (stepped here part) now
    → walked here (drop at parts) ≡ all → Walks r all now
walk_stops r (fault.Number number) parts at part here now all is lt item gives so =
    rw is (
      gives.0,
      sym so ∙ ap (walked here) (rest_from parts at part lt item)
          ∙ ap (option_and_then (λ there. walked there (drop (at + 1) parts))) gives.1,
    )
walk_stops r fault.NoMemory parts at part here now all is lt item gives so = rw is tt
