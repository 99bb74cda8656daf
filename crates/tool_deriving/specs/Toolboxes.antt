-- A box of tools, over the list of its tools and what class and rule each of them has.
use Rattle.std.specs.Prelude.{ℕ, ◌≡◌, ◌≢◌, ◌||◌, Bool, not, nat_eq, List, ◌∷◌, [], ◌++◌, take, map, filter, codes, slice_get, set, Option, None, Some, Result, Ok, Err, All}
use Rattle.std.specs.Cmp.Lexicographic.{pointwise}
use Rattle.cm_base.specs.Derived.{ToolRules}

-- the classes of sources and of descriptions, which are no tool's whatever a box has
unfoldable pub is_built_in : List ℕ → Bool
is_built_in class = pointwise nat_eq class (codes "sml") || pointwise nat_eq class (codes "cm")

-- the class and the rule of each tool that a member can be of
abbrev pub rules_of : {A : Type 0} → (A → List ℕ) → (A → List ℕ) → List A → ToolRules
rules_of class_of rule_of tools =
    filter (λ both. not (is_built_in both.0)) (map (λ tool. (class_of tool, rule_of tool)) tools)

-- no tool has a class
abbrev pub NoneHas : {A : Type 0} → (A → List ℕ) → List ℕ → List A → Type 0
NoneHas class_of class tools = All (λ tool. class_of tool ≢ class) tools

-- the place of the tool of a class: the first one that has it
pub record IsPlaceOf {A : Type 0} (class_of : A → List ℕ) (class : List ℕ) (tools : List A) (at : ℕ) : Type 0 where
  pub tool : A
  pub there : slice_get tools at ≡ Some tool
  pub has : class_of tool ≡ class
  pub first : NoneHas class_of class (take at tools)

-- a tool takes the place of the one that has its class, which is handed back as it is
pub record Replaces {A : Type 0} (class_of : A → List ℕ) (old : A) (before after : List A) (tool : A) : Type 0 where
  pub at : ℕ
  pub place : IsPlaceOf class_of (class_of tool) before at
  pub handed : slice_get before at ≡ Some old
  pub put : after ≡ set before at tool

-- what putting a tool into a box answers: the old tool of its class; none, where it is a new class, which goes to the
-- end; or, of a new class alone, the tool itself, and the box is as it was
abbrev pub Registers : {A : Type 0} → (A → List ℕ) → Result (Option A) A → List A → List A → A → Type 0
Registers class_of (Ok (Some old)) before after tool = Replaces class_of old before after tool
Registers class_of (Ok None) before after tool =
    NoneHas class_of (class_of tool) before × (after ≡ before ++ tool ∷ [])
Registers class_of (Err back) before after tool =
    NoneHas class_of (class_of tool) before × (back ≡ tool) × (after ≡ before)

-- a call that changes one tool of a box at most, and what holds of that tool before and after
pub record OfOne {A : Type 0} (at : ℕ) (old new : List A) (Holds : A → A → Type 0) : Type 0 where
  pub before : A
  pub after : A
  pub was : slice_get old at ≡ Some before
  pub is : new ≡ set old at after
  pub so : Holds before after
