-- Definitions whose names differ, gone through from the last one to the first.
use Rattle.std.proofs.Common.{◌≡◌, ◌∙◌, ℕ, List, [], ◌∷◌, ◌++◌, Bool, true, false, map, nat_eq, cond, refl, ap, append_assoc, arith}
use Rattle.std.specs.Prelude.{◌&&◌, ◌||◌, not}
use Rattle.std.specs.List.{list_any}
use Rattle.std.proofs.lemmas.Bool.Decides.{nat_tests}
use lib.Pointwise.{pointwise}
use Rattle.cm_base.specs.declared.record.Def.{Def}
use Rattle.command_words.specs.Words.{defined_once}

abbrev pub names : List Def → List (List ℕ)
names defs = map (λ (def : Def). def.name) defs

turned : (a b : ℕ) → nat_eq a b ≡ nat_eq b a
turned a b = grind (arith, nat_tests)

same_turned : (xs ys : List ℕ) → pointwise nat_eq xs ys ≡ pointwise nat_eq ys xs
same_turned [] [] = refl
same_turned [] (y ∷ ys) = refl
same_turned (x ∷ xs) [] = refl
same_turned (x ∷ xs) (y ∷ ys) =
    ap (λ (b : Bool). b && pointwise nat_eq xs ys) (turned x y)
    ∙ ap (λ (b : Bool). nat_eq y x && b) (same_turned xs ys)

-- a table with one name more
pub known_more : (name wanted : List ℕ) (others : List (List ℕ)) (old new : Bool)
    → new ≡ cond (pointwise nat_eq name wanted) true old → old ≡ list_any (pointwise nat_eq wanted) others
    → new ≡ list_any (pointwise nat_eq wanted) (name ∷ others)
known_more name wanted others old new is before =
    is ∙ ap (λ (b : Bool). cond b true old) (same_turned name wanted)
    ∙ ap (λ (b : Bool). cond (pointwise nat_eq wanted name) true b) before
    ∙ by (pointwise nat_eq wanted name)
  where
    by : (t : Bool) → cond t true (list_any (pointwise nat_eq wanted) others)
        ≡ (t || list_any (pointwise nat_eq wanted) others)
    by true = refl
    by false = refl

none : (b : Bool) → (b && false) ≡ false
none true = refl
none false = refl

-- a name that stands again behind is defined twice, whatever stands before
pub twice : (before : List Def) (def : Def) (after : List Def) → list_any (pointwise nat_eq def.name) (names after) ≡ true
    → defined_once (before ++ def ∷ after) ≡ false
twice [] def after is = ap (λ (b : Bool). not b && defined_once after) is
twice (b ∷ bs) def after is =
    ap (λ (t : Bool). not (list_any (pointwise nat_eq b.name) (names (bs ++ def ∷ after))) && t) (twice bs def after is)
    ∙ none (not (list_any (pointwise nat_eq b.name) (names (bs ++ def ∷ after))))

-- one that doesn't, before others that are defined once
pub once_more : (def : Def) (after : List Def) → list_any (pointwise nat_eq def.name) (names after) ≡ false
    → defined_once after ≡ true → defined_once (def ∷ after) ≡ true
once_more def after is once = ap (λ (b : Bool). not b && defined_once after) is ∙ once

-- the definitions that are left, with the last of them put behind
pub one_back : (all rest before after : List Def) (def : Def) → all ≡ rest ++ after → rest ≡ before ++ def ∷ []
    → all ≡ before ++ def ∷ after
one_back all rest before after def whole last =
    whole ∙ ap (λ r. r ++ after) last ∙ append_assoc before (def ∷ []) after
