use Rattle.std.proofs.Common.{◌≤◌, ◌∷◌, [], ℕ, List, All, map, length, get_or, arith, rules, take}
use Rattle.std.proofs.lemmas.List.Elements.{All-map, All-cons}
use Rattle.std.proofs.lemmas.List.{length-map, length-take}
use Rattle.cm_base.specs.Calls.{IsSmallSpot, IsSmallSkeleton}
use Rattle.cm_base.specs.declared.record.Need.{Need}
use Rattle.capital_compilers.specs.CapitalSources.{spot_of, use_of}
use Rattle.capital_compilers.proofs.skeletons.named_skeleton.Goals as goal

spot_is_small : (name : List ℕ) → IsSmallSpot (spot_of name)
spot_is_small name = record { name = grind (arith, length-take 255 name); line = omega arith; col = omega arith }

needs_are_small : (names : List (List ℕ)) → All (λ need. IsSmallSpot need.spot) (map use_of names)
needs_are_small names =
    All-map (λ (need : Need). IsSmallSpot need.spot) use_of names
    (λ place default below. spot_is_small (get_or names place default))

is_small : (name : List ℕ) (used : List (List ℕ)) → length used ≤ 1048576
    → IsSmallSkeleton (record { defined = spot_of name ∷ []; free = map use_of used })
is_small name used few = record {
  defined = omega arith;
  free = omega (arith, length-map used use_of, few);
  defined_spots = All-cons IsSmallSpot (spot_of name) [] (spot_is_small name) (search rules);
  free_spots = needs_are_small used;
}

pub returns-clause-small : goal.returns-clause-small
returns-clause-small c =
    rw (c.in_ok-free.ensures, c.in_ok-add.ensures.ok, c.new-defined.ensures, c.in_ok-spot_of.ensures)
    (is_small _ _ (omega (arith, c.if-used-gt-MOST_USED.false)))
