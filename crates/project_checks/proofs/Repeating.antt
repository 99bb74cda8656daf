-- Names that stand again further on, found from the last one to the first.
use Rattle.std.proofs.Common.{◌≡◌, ◌∙◌, ℕ, zero, suc, List, [], ◌∷◌, Bool, true, false, Option, Some, None, map, nat_eq, cond, refl, ap, sym, if◌then◌else◌}
use Rattle.std.specs.Prelude.{◌&&◌, ◌||◌}
use Rattle.std.specs.List.{list_any}
use lib.Pointwise.{pointwise}
use Rattle.std.proofs.lemmas.Bool.Decides.{nat_tests}
use Rattle.std.proofs.Common.{arith}
use Rattle.project_checks.specs.Checks.{least, least_if, repeated}

turned : (a b : ℕ) → nat_eq a b ≡ nat_eq b a
turned a b = grind (arith, nat_tests)

same_turned : (xs ys : List ℕ) → pointwise nat_eq xs ys ≡ pointwise nat_eq ys xs
same_turned [] [] = refl
same_turned [] (y ∷ ys) = refl
same_turned (x ∷ xs) [] = refl
same_turned (x ∷ xs) (y ∷ ys) =
    ap (λ (b : Bool). b && pointwise nat_eq xs ys) (turned x y)
    ∙ ap (λ (b : Bool). nat_eq y x && b) (same_turned xs ys)

pub least_more : (b : Bool) (name : List ℕ) (names : List (List ℕ)) (others least_then : Option (List ℕ))
    → b ≡ list_any (pointwise nat_eq name) names → others ≡ least (repeated names)
    → least_then ≡ least_if b name others → least_then ≡ least (repeated (name ∷ names))
least_more b name names others least_then test are is =
    is ∙ ap (λ (o : Option (List ℕ)). least_if b name o) are
    ∙ ap (λ (t : Bool). least_if t name (least (repeated names))) test
    ∙ by (list_any (pointwise nat_eq name) names)
  where
    by : (t : Bool) → least_if t name (least (repeated names))
        ≡ least (if t then name ∷ repeated names else repeated names)
    by true = refl
    by false = refl

pub known_more : (name wanted : List ℕ) (names : List (List ℕ)) (old new : Bool)
    → new ≡ cond (pointwise nat_eq name wanted) true old → old ≡ list_any (pointwise nat_eq wanted) names
    → new ≡ list_any (pointwise nat_eq wanted) (name ∷ names)
known_more name wanted names old new is before =
    is ∙ ap (λ (b : Bool). cond b true old) (same_turned name wanted)
    ∙ ap (λ (b : Bool). cond (pointwise nat_eq wanted name) true b) before
    ∙ by (pointwise nat_eq wanted name)
  where
    by : (t : Bool) → cond t true (list_any (pointwise nat_eq wanted) names)
        ≡ (t || list_any (pointwise nat_eq wanted) names)
    by true = refl
    by false = refl
