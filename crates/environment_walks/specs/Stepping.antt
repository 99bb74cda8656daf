-- The steps of a walk.
use Rattle.std.specs.Prelude.{ℕ, List, [], ◌∷◌, ◌++◌}
use Rattle.environment_walks.specs.declared.steps.Step.{Step}
use Rattle.environment_walks.specs.declared.steps.Step.TheVariants as step

-- the steps for some places, of which the first one is the last step
abbrev pub entered : List ℕ → List Step
entered [] = []
entered (p ∷ ps) = entered ps ++ step.Enter p ∷ []
