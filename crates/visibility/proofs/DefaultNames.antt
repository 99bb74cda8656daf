-- What a group exports by itself, by its tables.
use Rattle.std.proofs.Common.{◌≡◌, ◌∙◌, sym, ap, ap₂, ℕ, List, Option}
use Rattle.std.proofs.Math.Path.{fun_ext}
use Rattle.cm_base.specs.declared.diag.Place.{Place}
use Rattle.cm_base.specs.declared.record.ModName.{ModName}
use Rattle.cm_base.specs.declared.record.Skeleton.{Skeleton}
use Rattle.cm_description.specs.declared.loaded.Export.{Export}
use Rattle.cm_description.specs.declared.loaded.Project.{Project}
use Rattle.visibility.specs.Exports.{export_by, in_name_order, names_in, subgroups}
use Rattle.visibility.specs.Imports.{collected}
use Rattle.visibility.specs.Projects.{file_place, sources}
use Rattle.visibility.specs.Providers.{found_in, units_under}
use Rattle.visibility.specs.Tables.{FindsAmong, at_name, beneath_by, default_exports_by, defaults_by, defined_or, shown_among, shown_below}
use Rattle.visibility.specs.declared.found.Found.{Found}
use Rattle.visibility.specs.declared.group_names.GroupNames.{GroupNames}

pub default_is : (project : Project) (skeletons : List Skeleton) (places : ℕ → Option ℕ) (below : List (List Export))
    (names : GroupNames) (g : ℕ) (file : List ℕ) (table : ModName → Option Found) (at : Place)
    (among units : List ℕ) (shown ordered : List ModName)
    → among ≡ subgroups project g → units ≡ sources project g → FindsAmong table places below among
    → shown ≡ names_in skeletons units (shown_among places below among) → ordered ≡ in_name_order shown
    → at ≡ file_place file
    → defaults_by names table at ordered
    ≡ default_exports_by project skeletons places below (beneath_by names (shown_below project places below g)) g file
default_is project skeletons places below names g file table at among units shown ordered is_among is_units finds
    is_shown is_ordered is_at =
    let all : List ModName = names_in skeletons (sources project g) (shown_below project places below g) in
    let listed : ordered ≡ in_name_order all =
    is_ordered ∙ ap in_name_order (is_shown
    ∙ ap₂ (λ us ms. names_in skeletons us (shown_among places below ms)) is_units is_among) in
    let found : (name : ModName)
    → at_name table name ≡ found_in (units_under (shown_below project places below g) name) =
    λ name. finds name ∙ ap (λ ms. found_in (units_under (shown_among places below ms) name)) is_among in
    ap₂ (λ place names_listed.
    collected (λ name. export_by place name (defined_or names (at_name table) name)) names_listed) is_at listed
    ∙ ap (λ (others : ModName → Found).
    collected (λ name. export_by (file_place file) name (defined_or names others name)) (in_name_order all))
    (fun_ext found)
