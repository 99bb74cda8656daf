-- Items that are gone through in order: each gives one result, none, or a refusal, and the first refusal ends the work.
use Rattle.std.specs.Prelude.{◌≡◌, ◌⊎◌, List, [], ◌∷◌, ◌++◌, Contains}
use Rattle.cm_base.specs.declared.diag.Diag.{Diag}

-- the first item of a list that something holds of
pub record IsFirst {A : Type 0} (P : A → Type 0) (items : List A) (item : A) : Type 0 where
  pub before : List A
  pub after : List A
  pub split : items ≡ before ++ item ∷ after
  pub so : P item
  pub none : (other : A) → Contains before other → P other → ⊥

-- the results of items, in their order: an item either gives one, or it is left out
abbrev pub AreGiven : {A B : Type 0} → (A → B → Type 0) → (A → Type 0) → List A → List B → Type 0
AreGiven Gives IsLeftOut [] results = results ≡ []
AreGiven {B = B} Gives IsLeftOut (item ∷ items) results =
    ((first : B) × (more : List B) × (results ≡ first ∷ more) × Gives item first
    × AreGiven Gives IsLeftOut items more)
    ⊎ (IsLeftOut item × AreGiven Gives IsLeftOut items results)

-- an item that is refused
abbrev pub IsRefused : {A : Type 0} → (A → Diag → Type 0) → A → Type 0
IsRefused Refuses item = (diag : Diag) × Refuses item diag

-- the refusal of the first item that is refused
abbrev pub IsFirstRefusal : {A : Type 0} → (A → Diag → Type 0) → List A → Diag → Type 0
IsFirstRefusal {A} Refuses items diag = (item : A) × IsFirst (IsRefused Refuses) items item × Refuses item diag
