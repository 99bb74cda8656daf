-- Sets of pairs of places.
use Rattle.std.specs.Prelude.{◌≡◌, ℕ, Bool, ◌&&◌, ◌||◌, nat_eq}
use Rattle.indexmap.specs.IndexSet.{contains}
use Rattle.matched_pairs.specs.declared.pairs.Pair.{Pair}
use Rattle.matched_pairs.specs.declared.pairs.Pairs.{Pairs}
use Rattle.matched_pairs.specs.contracts.pairs.PairPartialEq.TheImpl as equality

abbrev pair_of : ℕ → ℕ → Pair
pair_of specified found = record { specified = specified; found = found }

-- whether two places are a pair of a set
abbrev pub has_pair : Pairs → ℕ → ℕ → Bool
has_pair set specified found = contains (equality.ghosts).eq set.pairs (pair_of specified found)

-- a set has one pair more
abbrev pub HasOneMore : Pairs → Pairs → ℕ → ℕ → Type 0
HasOneMore old new specified found =
    (p q : ℕ) → has_pair new p q ≡ ((nat_eq specified p && nat_eq found q) || has_pair old p q)
