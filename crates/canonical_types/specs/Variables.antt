-- Variables by first occurrence, with their places.
use Rattle.std.specs.Prelude.{◌≡◌, ℕ, List, Some, None, cond}
use Rattle.unification.specs.Closing.{is_among, place_of}
use Rattle.environment_walks.specs.declared.places.Images.{Images}
use Rattle.environment_walks.specs.Changing.{image_in}

-- a table tells the place of each variable of a list
pub record AreTold (places : Images) (vs : List ℕ) : Type 0 where
  pub each : (v : ℕ) → image_in places v ≡ cond (is_among v vs) (Some (place_of v vs)) None
