-- Things that are noted one after the other, each once, in a walk. Whether one stands in a list is told by a function.
use Rattle.std.specs.Prelude.{◌≡◌, ℕ, List, [], ◌∷◌, ◌++◌, Bool, true, Some, cond}
use Rattle.environment_walks.specs.declared.places.Images.{Images}
use Rattle.environment_walks.specs.declared.steps.Step.{Step}
use Rattle.environment_walks.specs.declared.steps.Step.TheVariants as step
use Rattle.environment_walks.specs.Changing.{image_in}

-- what is noted, with one thing that is met
abbrev pub noted : {A : Type 0} → (A → List A → Bool) → List A → A → List A
noted listed xs x = cond (listed x xs) xs (xs ++ x ∷ [])

-- .. and with some that are met
abbrev pub noted_all : {A : Type 0} → (A → List A → Bool) → List A → List A → List A
noted_all listed xs [] = xs
noted_all listed xs (m ∷ ms) = noted_all listed (noted listed xs m) ms

-- what steps still meet, those of the last step first, by what stands at places
abbrev pub of_step : {A : Type 0} → (ℕ → List A) → Step → List A
of_step N (step.Enter p) = N p
of_step N (step.Leave p) = []

abbrev pub left : {A : Type 0} → (ℕ → List A) → List Step → List A
left N [] = []
left N (s ∷ ss) = left N ss ++ of_step N s

-- what stands in one list stands in another
abbrev pub AllListed : {A : Type 0} → (A → List A → Bool) → List A → List A → Type 0
AllListed {A} listed ms ns = (x : A) → listed x ms ≡ true → listed x ns ≡ true

-- a place that is left has all noted by then that stands at it
abbrev pub LeaveIs : {A : Type 0} → (A → List A → Bool) → (ℕ → List A) → List A → Step → Type 0
LeaveIs listed N names (step.Enter p) = Unit {0}
LeaveIs listed N names (step.Leave p) = AllListed listed (N p) names

abbrev pub LeavesAre : {A : Type 0} → (A → List A → Bool) → (ℕ → List A) → List A → List Step → Type 0
LeavesAre listed N names [] = Unit {0}
LeavesAre listed N names (s ∷ ss) = LeaveIs listed N (names ++ left N ss) s × LeavesAre listed N names ss

-- what stands at each place that is done is noted, and with what steps still meet all is
pub record IsWalk {A : Type 0} (listed : A → List A → Bool) (N : ℕ → List A) (all names : List A) (done : Images)
    (steps : List Step) : Type 0 where
  pub finds : noted_all listed names (left N steps) ≡ all
  pub leaves : LeavesAre listed N names steps
  pub met : (p q : ℕ) → image_in done p ≡ Some q → AllListed listed (N p) names

-- a step was taken
abbrev pub Goes : {A : Type 0} → (A → List A → Bool) → (ℕ → List A) → Step → List A → List A → Images → Images
    → List Step → List Step → Type 0
Goes {A} listed N s old new done more before after =
    (all : List A) → IsWalk listed N all old done (before ++ s ∷ []) → IsWalk listed N all new more after
