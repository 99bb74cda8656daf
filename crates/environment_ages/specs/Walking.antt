-- A walk that looks whether variables are among the first ones. Only private functions cite this file.
use Rattle.std.specs.Prelude.{◌≡◌, ℕ, List, [], ◌∷◌, Some, Bool, true, false}
use Rattle.std.specs.Option.{is_some}
use Rattle.sml_modules.specs.Items.{Item, at}
use Rattle.static_semantics.specs.Holding.{TypeHas, ValueHas}
use Rattle.environment_walks.specs.declared.places.Images.{Images}
use Rattle.environment_walks.specs.declared.steps.Step.{Step}
use Rattle.environment_walks.specs.declared.steps.Step.TheVariants as step
use Rattle.environment_walks.specs.Changing.{image_in}
use Rattle.environment_ages.specs.Below.{SchemeBelow, FunctionBelow, StandsBelow}

-- in what stands at a node no other variables stand than the first so many
abbrev pub ItemBelow : ℕ → Item → Type 0
ItemBelow n Item.Nowhere = ⊥
ItemBelow n (Item.TypeItem entry) = TypeHas (SchemeBelow n) (FunctionBelow n) entry
ItemBelow n (Item.ValueItem entry) = ValueHas (SchemeBelow n) entry
ItemBelow n (Item.EnvItem env) = StandsBelow n env
ItemBelow n (Item.SignatureItem sig) = ⊥
ItemBelow n (Item.FunctorItem fun) = ⊥
ItemBelow n (Item.TopItem top) = ⊥

-- .. at each place that is done
pub record AreBelow (n : ℕ) (items : List Item) (done : Images) : Type 0 where
  pub each : (p q : ℕ) → image_in done p ≡ Some q → ItemBelow n (at items p)

abbrev pub AreDone : Images → List ℕ → Type 0
AreDone done [] = Unit {0}
AreDone done (p ∷ ps) = (is_some (image_in done p) ≡ true) × AreDone done ps

-- what has to be so at a place where it is so at the root
abbrev pub Asked : ℕ → List Item → ℕ → ℕ → Type 0
Asked n items root place = ItemBelow n (at items root) → ItemBelow n (at items place)

abbrev pub step_place : Step → ℕ
step_place (step.Enter place) = place
step_place (step.Leave place) = place

-- each place that is still to be done is asked for
abbrev pub AreAsked : ℕ → List Item → ℕ → List Step → Type 0
AreAsked n items root [] = Unit {0}
AreAsked n items root (s ∷ steps) = Asked n items root (step_place s) × AreAsked n items root steps

-- the walk goes on, and then something holds; or it ends, as what was asked for doesn't hold
abbrev pub GoesOn : Type 0 → Type 0 → Bool → Type 0
GoesOn Whole Then true = Then
GoesOn Whole Then false = Whole → ⊥
