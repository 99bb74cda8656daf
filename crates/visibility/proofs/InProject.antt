-- From a group with its tables to the project that has it.
use Rattle.std.proofs.Common.{◌≡◌, ◌∙◌, sym, ap, ap₂, refl, ℕ, ◌==◌, List, [], slice_get, Option, Some, None, Result, Ok, Err}
use Rattle.std.proofs.Math.Path.{fun_ext}
use Rattle.std.specs.List.{position_from}
use Rattle.std.specs.Option.{option_map_or}
use Rattle.cm_base.specs.Diags.{◌>>=◌}
use Rattle.cm_base.specs.declared.diag.Diag.{Diag}
use Rattle.cm_base.specs.declared.record.Def.{Def}
use Rattle.cm_base.specs.declared.record.ModName.{ModName}
use Rattle.cm_base.specs.declared.record.Skeleton.{Skeleton}
use Rattle.cm_description.specs.declared.loaded.Export.{Export}
use Rattle.cm_description.specs.declared.loaded.Group.{Group}
use Rattle.cm_description.specs.declared.loaded.Project.{Project}
use Rattle.cm_description.specs.declared.loaded.Wanted.{Wanted}
use Rattle.visibility.proofs.NamesOfGroups.{behind_is, beneath_is, provider_is}
use Rattle.visibility.specs.Exports.{clash_in, exports_of, group_exports, recorded_or, unless_clash}
use Rattle.visibility.specs.Imports.{imports_in, imports_with}
use Rattle.visibility.specs.Naming.{importing, unless_frozen, with_imports}
use Rattle.visibility.specs.Projects.{members}
use Rattle.visibility.specs.Tables.{ArePlaces, AreNames, added, behind_by, beneath_by, exports_by_tables, imports_by_tables, imports_read, provider_by, shown_below, shown_by_tables, shown_in, with_group, with_read}
use Rattle.visibility.specs.declared.group_names.GroupNames.{GroupNames}

-- the first place of each group, as the definitions look it up
abbrev pub place_in : Project → ℕ → Option ℕ
place_in project g = position_from (λ h. h == g) 0 project.finished

places_are : (project : Project) (places : ℕ → Option ℕ) → ArePlaces places project.finished → places ≡ place_in project
places_are project places are = fun_ext are

-- the exports of a group by its tables are those of its lists
pub shown_is : (project : Project) (skeletons : List Skeleton) (defs : List Def) (places : ℕ → Option ℕ)
    (below : List (List Export)) (names : GroupNames) (g : ℕ) (group : Group)
    → AreNames names project skeletons places below g
    → shown_by_tables project skeletons defs places below (behind_by names)
    (beneath_by names (shown_below project places below g)) g group
    ≡ shown_in project skeletons defs places below g group
shown_is project skeletons defs places below names g group are =
    ap₂ (λ behind beneath. shown_by_tables project skeletons defs places below behind beneath g group)
    (fun_ext (behind_is names project skeletons places below g are))
    (fun_ext (beneath_is names project skeletons places below g (shown_below project places below g) are))

-- .. of which no two sources define a name
pub read_first : (project : Project) (skeletons : List Skeleton) (defs : List Def) (places : ℕ → Option ℕ)
    (below : List (List Export)) (names : GroupNames) (g : ℕ) (group : Group)
    → AreNames names project skeletons places below g
    → shown_by_tables project skeletons defs places below (behind_by names)
    (beneath_by names (shown_below project places below g)) g group
    ≡ unless_clash project (clash_in project skeletons g) (shown_in project skeletons defs places below g group)
read_first project skeletons defs places below names g group are =
    let shown = shown_in project skeletons defs places below g group in
    shown_is project skeletons defs places below names g group are
    ∙ sym (ap (λ o. unless_clash project o shown) are.definers.apart)

-- .. and so what such a group exports, where it was read from its description
pub read_exports : (project : Project) (skeletons : List Skeleton) (defs : List Def) (places : ℕ → Option ℕ)
    (below : List (List Export)) (names : GroupNames) (g : ℕ) (group : Group)
    → AreNames names project skeletons places below g → group.thawed ≡ None
    → shown_by_tables project skeletons defs places below (behind_by names)
    (beneath_by names (shown_below project places below g)) g group
    ≡ exports_by_tables project skeletons defs places below g group
read_exports project skeletons defs places below names g group are read =
    let shown = shown_in project skeletons defs places below g group in
    read_first project skeletons defs places below names g group are
    ∙ sym (ap (λ o. recorded_or o (unless_clash project (clash_in project skeletons g) shown)) read)

-- .. and so those of the project
pub exports_is : (project : Project) (skeletons : List Skeleton) (defs : List Def) (places : ℕ → Option ℕ)
    (below : List (List Export)) (g : ℕ) (group : Group) → ArePlaces places project.finished
    → slice_get project.groups g ≡ Some group
    → exports_by_tables project skeletons defs places below g group ≡ exports_of project skeletons defs g below
exports_is project skeletons defs places below g group are is =
    ap (λ P. exports_by_tables project skeletons defs P below g group) (places_are project places are)
    ∙ sym (ap (group_exports project skeletons defs g below) is)

-- the imports of a unit by the tables of its group are those of its lists
pub imports_tables : (project : Project) (skeletons : List Skeleton) (places : ℕ → Option ℕ)
    (below : List (List Export))
    (names : GroupNames) (g u : ℕ) → AreNames names project skeletons places below g
    → imports_by_tables project skeletons names u ≡ imports_read project skeletons places below g u
imports_tables project skeletons places below names g u are =
    ap (λ provider. imports_with project skeletons provider u)
    (fun_ext (provider_is names project skeletons places below g u are))

-- .. and so those of the project
pub imports_are : (project : Project) (skeletons : List Skeleton) (places : ℕ → Option ℕ) (below : List (List Export))
    (g u : ℕ) → ArePlaces places project.finished
    → imports_read project skeletons places below g u ≡ imports_in project skeletons below g u
imports_are project skeletons places below g u are =
    ap (λ P. imports_read project skeletons P below g u) (places_are project places are)

-- ---- what a group adds

-- a group that was read from its description
pub read_is : (project : Project) (skeletons : List Skeleton) (defs : List Def) (places : ℕ → Option ℕ)
    (below : List (List Export)) (g : ℕ) (group : Group) (wanted : List (List Wanted))
    → ArePlaces places project.finished
    → slice_get project.groups g ≡ Some group → group.thawed ≡ None
    → with_read project skeletons defs places below g group (imports_read project skeletons places below g) wanted
    ≡ with_group project skeletons defs below g wanted
read_is project skeletons defs places below g group wanted are is read =
    let shown = unless_clash project (clash_in project skeletons g)
    (shown_in project skeletons defs (place_in project) below g group) in
    ap (λ P. with_read project skeletons defs P below g group (imports_read project skeletons P below g) wanted)
    (places_are project places are)
    ∙ sym (ap₂ (λ exports units. exports >>= (λ e. with_imports (imports_in project skeletons below g) units wanted
    >>= (λ set. Ok (added e set))))
    (ap (group_exports project skeletons defs g below) is ∙ ap (λ o. recorded_or o shown) read)
    (ap (λ o. option_map_or (λ (x : Group). unless_frozen x.thawed x.units) o []) is
    ∙ ap (λ o. unless_frozen o group.units) read))

-- a frozen library
pub frozen_is : (project : Project) (skeletons : List Skeleton) (defs : List Def) (below : List (List Export)) (g : ℕ)
    (group : Group) (recorded : List Export) (wanted : List (List Wanted)) → slice_get project.groups g ≡ Some group
    → group.thawed ≡ Some recorded → with_group project skeletons defs below g wanted ≡ Ok (added recorded wanted)
frozen_is project skeletons defs below g group recorded wanted is frozen =
    let shown = unless_clash project (clash_in project skeletons g)
    (shown_in project skeletons defs (place_in project) below g group) in
    ap₂ (λ exports units. exports >>= (λ e. with_imports (imports_in project skeletons below g) units wanted
    >>= (λ set. Ok (added e set))))
    (ap (group_exports project skeletons defs g below) is ∙ ap (λ o. recorded_or o shown) frozen)
    (ap (λ o. option_map_or (λ (x : Group). unless_frozen x.thawed x.units) o []) is
    ∙ ap (λ o. unless_frozen o group.units) frozen)

-- no group of this number
pub missing_is : (project : Project) (skeletons : List Skeleton) (defs : List Def) (below : List (List Export)) (g : ℕ)
    (wanted : List (List Wanted)) → slice_get project.groups g ≡ None
    → with_group project skeletons defs below g wanted ≡ Ok (added [] wanted)
missing_is project skeletons defs below g wanted is =
    ap₂ (λ exports units. exports >>= (λ e. with_imports (imports_in project skeletons below g) units wanted
    >>= (λ set. Ok (added e set))))
    (ap (group_exports project skeletons defs g below) is)
    (ap (λ o. option_map_or (λ (x : Group). unless_frozen x.thawed x.units) o []) is)
