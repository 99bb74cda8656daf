use Rattle.std.proofs.Common.{◌≤◌, ◌∷◌, [], ℕ, List, All, map, length, get_or, arith, rules}
use Rattle.std.proofs.lemmas.List.Elements.{All-map, All-cons}
use Rattle.std.proofs.lemmas.List.{length-map}
use Rattle.cm_base.specs.Calls.{IsSmallSpot, IsSmallSkeleton}
use Rattle.cm_base.specs.declared.record.Need.{Need}
use Rattle.test_compilers.specs.LetterSkeletons.{letter_need, letter_spot}
use Rattle.test_compilers.proofs.skeletons.letter_skeleton.Goals as goal

spot_is_small : (letter : ℕ) → IsSmallSpot (letter_spot letter)
spot_is_small letter = record { name = omega arith; line = omega arith; col = omega arith }

needs_are_small : (letters : List ℕ) → All (λ need. IsSmallSpot need.spot) (map letter_need letters)
needs_are_small letters =
    All-map (λ (need : Need). IsSmallSpot need.spot) letter_need letters
    (λ place default below. spot_is_small (get_or letters place default))

is_small : (letter : ℕ) (used : List ℕ) → length used ≤ 1048576
    → IsSmallSkeleton (record { defined = letter_spot letter ∷ []; free = map letter_need used })
is_small letter used few = record {
  defined = omega arith;
  free = omega (arith, length-map used letter_need, few);
  defined_spots = All-cons IsSmallSpot (letter_spot letter) [] (spot_is_small letter) (search rules);
  free_spots = needs_are_small used;
}

pub returns-clause-small : goal.returns-clause-small
returns-clause-small c =
    rw (c.in_ok-free.ensures, c.in_ok-add.ensures.ok, c.new-defined.ensures, c.in_ok-letter_spot.ensures)
    (is_small _ _ (omega (arith, c.if-used-gt-MOST_USED.false)))
