-- Looking for types that are too large in structures, each node of the graph once. Only private functions cite this file.
use Rattle.std.specs.Prelude.{◌≡◌, ℕ, List, [], ◌∷◌, ◌++◌, map, nat_eq, Bool, true, false, Some, cond}
use Rattle.std.specs.List.{list_any}
use Rattle.semantic_objects.specs.Tables.{Table}
use Rattle.semantic_objects.specs.Trees.{Tree}
use Rattle.env_parts.specs.Types.{type_types, value_types, types_in}
use Rattle.unification.specs.Types.{Substitution}
use Rattle.sml_modules.specs.Items.{Item, at}
use Rattle.environment_walks.specs.declared.places.Images.{Images}
use Rattle.environment_walks.specs.declared.steps.Step.{Step}
use Rattle.environment_walks.specs.declared.steps.Step.TheVariants as step
use Rattle.environment_walks.specs.Changing.{image_in}
use Rattle.declaration_ends.specs.Sizes.{any_large}

-- the types that stand at a place, and whether one of them is too large
abbrev pub item_types : Item → List Tree
item_types (Item.TypeItem entry) = type_types entry
item_types (Item.ValueItem entry) = value_types entry
item_types (Item.EnvItem env) = types_in env
item_types _ = []

abbrev pub large_at : Substitution → List Item → ℕ → Bool
large_at s items p = any_large s (item_types (at items p))

-- the places of rows
abbrev pub row_places : Table ℕ → List ℕ
row_places rows = map (λ row. row.1) rows

-- whether one is still met that is large, where a function tells of each place whether it is
abbrev pub is_met : (ℕ → Bool) → Step → Bool
is_met large (step.Enter p) = large p
is_met large (step.Leave p) = false

abbrev pub any_met : (ℕ → Bool) → List Step → Bool
any_met large steps = list_any (is_met large) steps

-- a place that is left is large only where the steps before that meet one that is
abbrev pub IsLeft : (ℕ → Bool) → Step → Bool → Type 0
IsLeft large (step.Enter p) met = Unit {0}
IsLeft large (step.Leave p) met = large p ≡ true → met ≡ true

abbrev pub AreLeft : (ℕ → Bool) → List Step → Type 0
AreLeft large [] = Unit {0}
AreLeft large (s ∷ ss) = IsLeft large s (any_met large ss) × AreLeft large ss

-- no place that is done is large, and one is that was to be met, exactly where one is still met
pub record IsWalk (large : ℕ → Bool) (any : Bool) (done : Images) (steps : List Step) : Type 0 where
  pub finds : any_met large steps ≡ any
  pub left : AreLeft large steps
  pub small : (p q : ℕ) → image_in done p ≡ Some q → large p ≡ false

-- a step was taken that found one, or not
abbrev pub IsTaken : (ℕ → Bool) → Step → Images → Images → List Step → List Step → Bool → Type 0
IsTaken large s done more before after true = (any : Bool) → IsWalk large any done (before ++ s ∷ []) → any ≡ true
IsTaken large s done more before after false =
    (any : Bool) → IsWalk large any done (before ++ s ∷ []) → IsWalk large any more after

-- a place was done
abbrev pub IsDone : Images → Images → ℕ → Type 0
IsDone done more place = (p : ℕ) → image_in more p ≡ cond (nat_eq place p) (Some place) (image_in done p)

-- .. unless what stands there is large
abbrev pub IsFinished : Images → Images → ℕ → Bool → Bool → Type 0
IsFinished done more place large true = large ≡ true
IsFinished done more place large false = (large ≡ false) × IsDone done more place

-- the parts of a place are to be met
abbrev pub IsOpened : (ℕ → Bool) → ℕ → List Step → List Step → Type 0
IsOpened large place before after = (done : Images) → IsTaken large (step.Enter place) done done before after false
