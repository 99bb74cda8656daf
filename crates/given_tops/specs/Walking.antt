-- A walk that looks whether an environment may be given. Only private functions cite this file.
use Rattle.std.specs.Prelude.{◌≡◌, ℕ, List, [], ◌∷◌, Some, true}
use Rattle.std.specs.Option.{is_some}
use Rattle.sml_modules.specs.Items.{Item, at}
use Rattle.static_semantics.specs.Holding.{ValueHas}
use Rattle.inference_laws.specs.Nodes.{Nodes}
use Rattle.environment_walks.specs.declared.places.Images.{Images}
use Rattle.environment_walks.specs.declared.steps.Step.{Step}
use Rattle.environment_walks.specs.declared.steps.Step.TheVariants as step
use Rattle.environment_walks.specs.Changing.{image_in}
use Rattle.given_tops.specs.Fitting.{SchemeFits, TypeFits, EnvFits}

-- what stands at a node may be given
abbrev pub ItemFits : Nodes → Item → Type 0
ItemFits q Item.Nowhere = ⊥
ItemFits q (Item.TypeItem entry) = TypeFits q entry
ItemFits q (Item.ValueItem entry) = ValueHas (SchemeFits q) entry
ItemFits q (Item.EnvItem env) = EnvFits q env
ItemFits q (Item.SignatureItem sig) = ⊥
ItemFits q (Item.FunctorItem fun) = ⊥
ItemFits q (Item.TopItem top) = ⊥

-- .. at each place that is done
pub record AreFit (q : Nodes) (items : List Item) (done : Images) : Type 0 where
  pub each : (p r : ℕ) → image_in done p ≡ Some r → ItemFits q (at items p)

abbrev pub AreDone : Images → List ℕ → Type 0
AreDone done [] = Unit {0}
AreDone done (p ∷ ps) = (is_some (image_in done p) ≡ true) × AreDone done ps

-- what has to be so at a place where it is so at the root
abbrev pub Asked : Nodes → List Item → ℕ → ℕ → Type 0
Asked q items root place = ItemFits q (at items root) → ItemFits q (at items place)

abbrev pub step_place : Step → ℕ
step_place (step.Enter place) = place
step_place (step.Leave place) = place

-- each place that is still to be done is asked for
abbrev pub AreAsked : Nodes → List Item → ℕ → List Step → Type 0
AreAsked q items root [] = Unit {0}
AreAsked q items root (s ∷ steps) = Asked q items root (step_place s) × AreAsked q items root steps
