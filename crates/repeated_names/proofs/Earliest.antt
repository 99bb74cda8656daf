-- The earliest of places is one of them, and none of them stands before it.
use Rattle.std.proofs.Common.{◌≡◌, ℕ, Bool, true, false, ◌&&◌, ◌||◌, ◌==◌, nat_lt, List, [], ◌∷◌, ◌++◌, Option, Some, None, Contains, if◌then◌else◌, refl, sym, ap, ◌∙◌, subst, arith}
use Rattle.std.proofs.lemmas.Bool.{cases_Bool}
use Rattle.std.proofs.lemmas.List.Elements.{Contains-append_cases, Contains-append_left, Contains-append_right, Contains-push, Contains-push_cases}
use mathlib.Core.Logic.{⊎_elim}
use Rattle.sml_trees.specs.declared.name.At.{At}
use Rattle.repeated_names.specs.Repeats.{is_before, earlier, sooner, earliest_with, earliest, IsEarliest}

-- a place that isn't before one isn't before any that this one isn't before
chain : (a b c : At) → is_before a b ≡ false → is_before b c ≡ false → is_before a c ≡ false
chain a b c first next = search (arith)

-- no place is before itself
itself : (a : At) → is_before a a ≡ false
itself a = search (arith)

-- neither of two places is before the earlier of them
left_after : (a b : At) → is_before a (earlier a b) ≡ false
left_after a b = search (arith)

right_after : (a b : At) → is_before b (earlier a b) ≡ false
right_after a b = search (arith)

left-is : (a b : At) → is_before a b ≡ true → earlier a b ≡ a
left-is a b e = ap (λ t. if t then a else b) e

right-is : (a b : At) → is_before a b ≡ false → earlier a b ≡ b
right-is a b e = ap (λ t. if t then a else b) e

one_of : (a b : At) (ats : List At) → Contains (a ∷ b ∷ ats) (earlier a b)
one_of a b ats =
    ⊎_elim
    (λ e. subst (Contains (a ∷ b ∷ ats)) (sym (left-is a b e)) (Contains-append_left (a ∷ []) (b ∷ ats) a (Contains-push [] a)))
    (λ e. subst (Contains (a ∷ b ∷ ats)) (sym (right-is a b e))
    (Contains-append_right (a ∷ []) (b ∷ ats) b (Contains-append_left (b ∷ []) ats b (Contains-push [] b))))
    (cases_Bool (is_before a b))

turned : (a b : At) (ats : List At) (x : At) → Contains (a ∷ b ∷ ats) x → Contains (b ∷ a ∷ ats) x
turned a b ats x c =
    ⊎_elim
    (λ in_a. Contains-append_right (b ∷ []) (a ∷ ats) x (Contains-append_left (a ∷ []) ats x in_a))
    (λ rest. ⊎_elim
    (λ in_b. Contains-append_left (b ∷ []) (a ∷ ats) x in_b)
    (λ in_ats. Contains-append_right (b ∷ a ∷ []) ats x in_ats)
    (Contains-append_cases (b ∷ []) ats x rest))
    (Contains-append_cases (a ∷ []) (b ∷ ats) x c)

-- the first place of a list
here : (a : At) (ats : List At) → Contains (a ∷ ats) a
here a ats = Contains-append_left (a ∷ []) ats a (Contains-push [] a)

nothing : (x : At) → Contains [] x → ⊥
nothing x c = let lt = c.1 in omega (arith, lt)

only : (a x : At) → Contains (a ∷ []) x → a ≡ x
only a x c = ⊎_elim (λ none. absurd (nothing x none)) (λ same. same) (Contains-push_cases [] a x c)

-- the earliest of two places and others is that of the earlier of them and the others
widen : (a b : At) (ats : List At) (r : Option At) → IsEarliest (earlier a b ∷ ats) r → IsEarliest (a ∷ b ∷ ats) r
widen a b ats None is = cc
widen a b ats (Some g) is =
    let first : is_before (earlier a b) g ≡ false = is.1 (earlier a b) (here (earlier a b) ats) in
    let others : (at : At) → Contains ats at → is_before at g ≡ false =
    λ at c. is.1 at (Contains-append_right (earlier a b ∷ []) ats at c) in (
      ⊎_elim
          (λ c. subst (Contains (a ∷ b ∷ ats)) (only (earlier a b) g c) (one_of a b ats))
          (λ c. Contains-append_right (a ∷ b ∷ []) ats g c)
          (Contains-append_cases (earlier a b ∷ []) ats g is.0),
      λ at c. ⊎_elim
          (λ in_a. subst (λ x. is_before x g ≡ false) (only a at in_a) (chain a (earlier a b) g (left_after a b) first))
          (λ rest. ⊎_elim
          (λ in_b. subst (λ x. is_before x g ≡ false) (only b at in_b) (chain b (earlier a b) g (right_after a b) first))
          (others at)
          (Contains-append_cases (b ∷ []) ats at rest))
          (Contains-append_cases (a ∷ []) (b ∷ ats) at c),
    )

-- the order of places doesn't matter
swapped : (a b : At) (ats : List At) (r : Option At) → IsEarliest (b ∷ a ∷ ats) r → IsEarliest (a ∷ b ∷ ats) r
swapped a b ats None is = cc
swapped a b ats (Some g) is = (turned b a ats g is.0, λ at c. is.1 at (turned a b ats at c))

earliest_of : (a : At) (ats : List At) → IsEarliest (a ∷ ats) (earliest_with (Some a) ats)
earliest_of a [] = (here a [], λ at c. subst (λ x. is_before x a ≡ false) (only a at c) (itself a))
earliest_of a (b ∷ ats) =
    swapped a b ats _ (widen b a ats _ (earliest_of (earlier b a) ats))

-- the earliest of places
pub earliest_is : (ats : List At) → IsEarliest ats (earliest ats)
earliest_is [] = refl
earliest_is (at ∷ ats) = earliest_of at ats
