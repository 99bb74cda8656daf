-- The tables of a loader follow what is loaded.
use Rattle.std.proofs.Common.{◌≡◌, ◌∙◌, ℕ, suc, ◌+◌, List, [], ◌∷◌, ◌++◌, length, map, nat_eq, Bool, true, false, cond, Option, Some, None, refl, ap, sym, arith, if◌then◌else◌}
use Rattle.std.specs.Prelude.{◌||◌, nat_lt, not}
use Rattle.std.specs.List.{list_any, position, position_or_len}
use Rattle.std.proofs.lemmas.Bool.Decides.{nat_tests}
use Rattle.std.proofs.lemmas.List.Folds.{list_any-append}
use lib.Pointwise.{pointwise}
use Rattle.indexmap.specs.IndexSet.{insert_key}
use Rattle.cm_description.specs.declared.loaded.Group.{Group}

shifted : (a b : ℕ) → nat_lt (1 + a) (suc b) ≡ nat_lt a b
shifted a b = grind (arith, nat_tests)

positive : (n : ℕ) → nat_lt 0 (suc n) ≡ true
positive n = grind (arith, nat_tests)

module _ {A : Type 0} (p : A → Bool) where
  -- what passes is found at a place, and else at none
  is_placed : (xs : List A) → nat_lt (position_or_len p xs) (length xs) ≡ list_any p xs
  is_placed [] = refl
  is_placed (x ∷ xs) = by (p x) (is_placed xs)
    where
      by : (b : Bool) → nat_lt (position_or_len p xs) (length xs) ≡ list_any p xs
          → nat_lt (cond (not b) (1 + position_or_len p xs) 0) (suc (length xs)) ≡ (b || list_any p xs)
      by true below = positive (length xs)
      by false below = shifted (position_or_len p xs) (length xs) ∙ below

  nowhere : (b : Bool) (at : ℕ) → ◌≡◌ {A = Option ℕ} (cond b (Some at) None) None → b ≡ false
  nowhere true at h = absurd (cc)
  nowhere false at h = refl

  pub is_absent : (xs : List A) → position p xs ≡ None → list_any p xs ≡ false
  is_absent xs none =
      sym (is_placed xs) ∙ nowhere (nat_lt (position_or_len p xs) (length xs)) (position_or_len p xs) none

abbrev pub names_of : List Group → List (List ℕ)
names_of groups = map (λ (group : Group). group.file) groups

names_on : (groups : List Group) (group : Group) → names_of (groups ++ group ∷ []) ≡ names_of groups ++ group.file ∷ []
names_on [] group = refl
names_on (first ∷ groups) group = ap (λ (names : List (List ℕ)). first.file ∷ names) (names_on groups group)

-- the name of a group that begins goes behind the others
pub named_more : (keys new : List (List ℕ)) (name : List ℕ) (groups : List Group) (group : Group)
    → keys ≡ names_of groups → position (pointwise nat_eq group.file) (names_of groups) ≡ None → name ≡ group.file
    → new ≡ insert_key (pointwise nat_eq) keys name → new ≡ names_of (groups ++ group ∷ [])
named_more keys new name groups group are none same is =
    is ∙ ap (λ (name : List ℕ). insert_key (pointwise nat_eq) keys name) same
    ∙ ap (λ (keys : List (List ℕ)). insert_key (pointwise nat_eq) keys group.file) are
    ∙ ap (λ (b : Bool). if b then names_of groups else names_of groups ++ group.file ∷ [])
    (is_absent (pointwise nat_eq group.file) (names_of groups) none)
    ∙ sym (names_on groups group)

-- the number of a group that ended is among those of all that did
turned : (a b : ℕ) → nat_eq a b ≡ nat_eq b a
turned a b = grind (arith, nat_tests)

pub numbered_more : (number wanted : ℕ) (finished : List ℕ) (old new : Bool)
    → old ≡ list_any (nat_eq wanted) finished → new ≡ cond (nat_eq number wanted) true old
    → new ≡ list_any (nat_eq wanted) (finished ++ number ∷ [])
numbered_more number wanted finished old new before is =
    is ∙ ap (λ (b : Bool). cond b true old) (turned number wanted)
    ∙ ap (λ (b : Bool). cond (nat_eq wanted number) true b) before
    ∙ by (nat_eq wanted number) (list_any (nat_eq wanted) finished)
    ∙ sym (list_any-append (nat_eq wanted) finished (number ∷ []))
  where
    by : (b there : Bool) → cond b true there ≡ (there || (b || false))
    by true true = refl
    by true false = refl
    by false true = refl
    by false false = refl
