-- The names that a unit imports, each with its provider, or the first that is ambiguous or unbound.
use Rattle.std.specs.Prelude.{ℕ, Bool, false, not, ◌||◌, ◌&&◌, if◌then◌else◌, List, [], ◌∷◌, ◌++◌, Option, slice_get, Result, Ok, Err}
use Rattle.std.specs.Option.{option_map_or}
use Rattle.cm_base.specs.Diags.{◌>>=◌}
use Rattle.cm_base.specs.declared.diag.Diag.{Diag}
use Rattle.cm_base.specs.declared.diag.Place.{Place}
use Rattle.cm_base.specs.declared.record.ModName.{ModName}
use Rattle.cm_base.specs.declared.record.Need.{Need}
use Rattle.cm_base.specs.declared.record.Skeleton.{Skeleton}
use Rattle.cm_description.specs.declared.loaded.Export.{Export}
use Rattle.cm_description.specs.declared.loaded.Project.{Project}
use Rattle.cm_description.specs.declared.loaded.Unit.{Unit as ProjectUnit}
use Rattle.cm_description.specs.declared.loaded.UnitBody.{UnitBody}
use Rattle.cm_description.specs.declared.loaded.UnitBody.TheVariants as body
use Rattle.cm_description.specs.declared.loaded.Wanted.{Wanted}
use Rattle.visibility.specs.BuiltIn.{is_built_in}
use Rattle.visibility.specs.Projects.{group_of, unit_file, skeleton_of, spot_place, name_refused}
use Rattle.visibility.specs.Providers.{provider_in}
use Rattle.visibility.specs.declared.found.Found.{Found}
use Rattle.visibility.specs.declared.found.Found.TheVariants as found

-- what a step makes of each item, one after another, up to the first refusal
abbrev pub collected : {A B : Type 0} → (A → Result (List B) Diag) → List A → Result (List B) Diag
collected step [] = Ok []
collected step (x ∷ xs) = do
  here ← step x
  more ← collected step xs
  Ok (here ++ more)

-- whether the built-in structures are visible in a source: `nobasis` hides them
abbrev pub shows_basis : UnitBody → Bool
shows_basis (body.Source options source) = not options.nobasis
shows_basis (body.Frozen imports interface code) = false

abbrev pub sees_basis : Project → ℕ → Bool
sees_basis project u = option_map_or (λ (unit : ProjectUnit). shows_basis unit.body) (slice_get project.units u) false

-- What is imported for a name that a unit uses. A name that isn't sure may come from an `open` or an `include`: one
-- provider is imported, and in any other case the elaborator is left to judge. A sure one without a provider: under
-- several units it is 23; a built-in structure, where the basis shows, needs no import; all else is 24.
abbrev pub import_by : Bool → Place → Need → Found → Result (List Wanted) Diag
import_by basis at need (found.One v) = Ok (record { name = need.spot.name; provider = v } ∷ [])
import_by basis at need found.Several = if need.sure then Err (name_refused 23 at need.spot.name) else Ok []
import_by basis at need found.Missing =
    if not need.sure || (basis && is_built_in need.spot.name) then Ok [] else Err (name_refused 24 at need.spot.name)

-- the imports of a unit whose names have these providers, in the order of its skeleton; a name that stands there twice
-- is imported twice; a refusal stands at the name's spot in the unit's file
abbrev pub imports_with : Project → List Skeleton → (ModName → Found) → ℕ → Result (List Wanted) Diag
imports_with project skeletons provider u =
    collected (λ need. import_by (sees_basis project u) (spot_place (unit_file project u) need.spot) need
    (provider need.spot.name)) (skeleton_of skeletons u).free

-- the imports of a source of a group
abbrev pub imports_in : Project → List Skeleton → List (List Export) → ℕ → ℕ → Result (List Wanted) Diag
imports_in project skeletons below g u = imports_with project skeletons (provider_in project skeletons below g u) u

-- the imports of a unit
abbrev pub imports_of : Project → List Skeleton → List (List Export) → ℕ → Result (List Wanted) Diag
imports_of project skeletons below u = imports_in project skeletons below (group_of project u) u
