-- What becomes of the names that a unit uses, as relations: each is imported, left out, or refused.
use Rattle.std.specs.Prelude.{◌≡◌, ◌⊎◌, ℕ, true, false, List}
use Rattle.cm_base.specs.declared.diag.Diag.{Diag}
use Rattle.cm_base.specs.declared.record.ModName.{ModName}
use Rattle.cm_base.specs.declared.record.Need.{Need}
use Rattle.cm_base.specs.declared.record.Skeleton.{Skeleton}
use Rattle.cm_description.specs.declared.loaded.Export.{Export}
use Rattle.cm_description.specs.declared.loaded.Project.{Project}
use Rattle.cm_description.specs.declared.loaded.Wanted.{Wanted}
use Rattle.visibility.specs.BuiltIn.{is_built_in}
use Rattle.visibility.specs.Imports.{sees_basis}
use Rattle.visibility.specs.Projects.{skeleton_of, spot_place, name_refused, unit_file}
use Rattle.visibility.specs.Providers.{HoldsOfNone, Provides}
use Rattle.visibility_laws.specs.Behind.{IsAmbiguous, IsUnbound}
use Rattle.visibility_laws.specs.Steps.{AreGiven, IsFirstRefusal}

-- the import of a name that a unit uses, from the unit that provides it
pub record IsImport (project : Project) (skeletons : List Skeleton) (below : List (List Export)) (u : ℕ) (need : Need)
    (import : Wanted) : Type 0 where
  pub name : import.name ≡ need.spot.name
  pub provider : Provides project skeletons below u need.spot.name import.provider

-- the name is that of a built-in structure, and the unit's options don't hide it
pub record IsSeenBuiltIn (project : Project) (u : ℕ) (name : ModName) : Type 0 where
  pub sees : sees_basis project u ≡ true
  pub built_in : is_built_in name ≡ true

-- A name without import and without refusal: no unit provides it, and it isn't sure, or it is a built-in structure.
pub record IsLeftOut (project : Project) (skeletons : List Skeleton) (below : List (List Export)) (u : ℕ)
    (need : Need) : Type 0 where
  pub none : HoldsOfNone (Provides project skeletons below u need.spot.name)
  pub why : (need.sure ≡ false)
      ⊎ (IsUnbound project skeletons below u need.spot.name × IsSeenBuiltIn project u need.spot.name)

-- a refusal at a name's spot in the unit's file
abbrev pub refusal_at : Project → ℕ → Need → ℕ → Diag
refusal_at project u need number = name_refused number (spot_place (unit_file project u) need.spot) need.spot.name

-- A name that is sure is refused: 23 where several units may be meant, 24 where none is and the name isn't that of a
-- built-in structure that the unit sees.
pub record Refuses (project : Project) (skeletons : List Skeleton) (below : List (List Export)) (u : ℕ) (need : Need)
    (diag : Diag) : Type 0 where
  pub sure : need.sure ≡ true
  pub why : (IsAmbiguous project skeletons below u need.spot.name × (diag ≡ refusal_at project u need 23))
      ⊎ (IsUnbound project skeletons below u need.spot.name × (IsSeenBuiltIn project u need.spot.name → ⊥)
      × (diag ≡ refusal_at project u need 24))

-- the imports of a unit, in the order of its skeleton
abbrev pub AreImports : Project → List Skeleton → List (List Export) → ℕ → List Wanted → Type 0
AreImports project skeletons below u imports =
    AreGiven (IsImport project skeletons below u) (IsLeftOut project skeletons below u)
    (skeleton_of skeletons u).free imports

-- the refusal of the first name of its skeleton that is refused
abbrev pub IsImportRefusal : Project → List Skeleton → List (List Export) → ℕ → Diag → Type 0
IsImportRefusal project skeletons below u diag =
    IsFirstRefusal (Refuses project skeletons below u) (skeleton_of skeletons u).free diag
