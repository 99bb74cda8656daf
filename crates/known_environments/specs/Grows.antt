-- What a call that may add nodes leaves of a graph.
use Rattle.std.specs.Prelude.{◌≡◌}
use Rattle.sml_modules.specs.Graphs.{Graph, Keeps}

-- all ids keep what they stand for, and no name is made
pub record GrowsByNodes (old new : Graph) : Type 0 where
  pub keeps : Keeps old new
  pub home : new.home ≡ old.home
  pub made : new.made ≡ old.made
