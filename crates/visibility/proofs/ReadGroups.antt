-- A group that was read from its description: its exports, and then the imports of its units.
use Rattle.std.proofs.Common.{◌≡◌, ◌∙◌, sym, ap, ap₂, ℕ, List, Option, Result, Ok, Err}
use Rattle.std.proofs.Math.Path.{fun_ext}
use Rattle.std.specs.Result.{IsErrAnd}
use Rattle.cm_base.specs.Calls.{Gives}
use Rattle.cm_base.specs.Diags.{◌>>=◌}
use Rattle.cm_base.specs.declared.diag.Diag.{Diag}
use Rattle.cm_base.specs.declared.fault.Fault.{Fault}
use Rattle.cm_base.specs.declared.record.Def.{Def}
use Rattle.cm_base.specs.declared.record.Skeleton.{Skeleton}
use Rattle.cm_description.specs.declared.loaded.Export.{Export}
use Rattle.cm_description.specs.declared.loaded.Group.{Group}
use Rattle.cm_description.specs.declared.loaded.Project.{Project}
use Rattle.cm_description.specs.declared.loaded.Wanted.{Wanted}
use Rattle.visibility.proofs.Answering.{adds_passed, bind_right, bind_wrong, imports_wrong}
use Rattle.visibility.proofs.InProject.{imports_tables, read_first}
use Rattle.visibility.specs.Exports.{clash_in, unless_clash}
use Rattle.visibility.specs.Naming.{with_imports}
use Rattle.visibility.specs.Tables.{Added, AddsImports, AddsRead, AreNames, added, behind_by, beneath_by, imports_by_tables, imports_read, shown_below, shown_by_tables, shown_in, with_read}
use Rattle.visibility.specs.declared.group_names.GroupNames.{GroupNames}

-- what a group shows by its tables
abbrev shows : Project → List Skeleton → List Def → (ℕ → Option ℕ) → List (List Export) → GroupNames → ℕ → Group
    → Result (List Export) Diag
shows project skeletons defs places below names g group =
    shown_by_tables project skeletons defs places below (behind_by names)
    (beneath_by names (shown_below project places below g)) g group

-- .. and by its lists
abbrev first_of : Project → List Skeleton → List Def → (ℕ → Option ℕ) → List (List Export) → ℕ → Group
    → Result (List Export) Diag
first_of project skeletons defs places below g group =
    unless_clash project (clash_in project skeletons g) (shown_in project skeletons defs places below g group)

-- what follows on the exports of a group: the imports of its units
abbrev then_units : Project → List Skeleton → (ℕ → Option ℕ) → List (List Export) → ℕ → Group → List (List Wanted)
    → List Export → Result Added Diag
then_units project skeletons places below g group wanted exports =
    with_imports (imports_read project skeletons places below g) group.units wanted
    >>= (λ set. Ok (added exports set))

-- exports that are refused
pub exports_refused : (project : Project) (skeletons : List Skeleton) (defs : List Def) (places : ℕ → Option ℕ)
    (below : List (List Export)) (names : GroupNames) (g : ℕ) (group : Group) (wanted new : List (List Wanted))
    (e : Fault) (r : Result (List Export) Fault) → AreNames names project skeletons places below g
    → IsErrAnd r (λ y. y ≡ e)
    → Gives {A = List Export} (Err e) (shows project skeletons defs places below names g group)
    → AddsRead r project skeletons defs places below g group wanted new
exports_refused project skeletons defs places below names g group wanted new e r are is gives =
    adds_passed r e (shows project skeletons defs places below names g group)
    (with_read project skeletons defs places below g group (imports_read project skeletons places below g) wanted) new
    is gives
    (λ diag wrong.
    bind_wrong (first_of project skeletons defs places below g group)
    (then_units project skeletons places below g group wanted) diag
    (sym (read_first project skeletons defs places below names g group are) ∙ wrong))

-- the imports of the units are those of the lists
units_are : (project : Project) (skeletons : List Skeleton) (places : ℕ → Option ℕ) (below : List (List Export))
    (names : GroupNames) (g : ℕ) (group : Group) (units : List ℕ) (wanted : List (List Wanted))
    → AreNames names project skeletons places below g → units ≡ group.units
    → with_imports (imports_by_tables project skeletons names) units wanted
    ≡ with_imports (imports_read project skeletons places below g) group.units wanted
units_are project skeletons places below names g group units wanted are same =
    ap₂ (λ imports us. with_imports imports us wanted)
    (fun_ext (λ u. imports_tables project skeletons places below names g u are)) same

-- what follows once the exports are there
units_follow : (project : Project) (skeletons : List Skeleton) (defs : List Def) (places : ℕ → Option ℕ)
    (below : List (List Export)) (names : GroupNames) (g : ℕ) (group : Group) (wanted : List (List Wanted))
    (exports : List Export) → AreNames names project skeletons places below g
    → shows project skeletons defs places below names g group ≡ Ok exports
    → with_read project skeletons defs places below g group (imports_read project skeletons places below g) wanted
    ≡ then_units project skeletons places below g group wanted exports
units_follow project skeletons defs places below names g group wanted exports are shown =
    bind_right (first_of project skeletons defs places below g group)
    (then_units project skeletons places below g group wanted) exports
    (sym (read_first project skeletons defs places below names g group are) ∙ shown)

-- imports that are refused
pub units_refused : (project : Project) (skeletons : List Skeleton) (defs : List Def) (places : ℕ → Option ℕ)
    (below : List (List Export)) (names : GroupNames) (g : ℕ) (group : Group) (units : List ℕ)
    (wanted new : List (List Wanted)) (exports : List Export) (e : Fault) (r : Result (List Export) Fault)
    → AreNames names project skeletons places below g → units ≡ group.units
    → shows project skeletons defs places below names g group ≡ Ok exports → IsErrAnd r (λ y. y ≡ e)
    → AddsImports (Err e) (imports_by_tables project skeletons names) units wanted new
    → AddsRead r project skeletons defs places below g group wanted new
units_refused project skeletons defs places below names g group units wanted new exports e r are same shown is adds =
    adds_passed r e (with_imports (imports_by_tables project skeletons names) units wanted)
    (with_read project skeletons defs places below g group (imports_read project skeletons places below g) wanted) new
    is (imports_wrong e (imports_by_tables project skeletons names) units wanted new adds)
    (λ diag wrong.
    units_follow project skeletons defs places below names g group wanted exports are shown
    ∙ bind_wrong (with_imports (imports_read project skeletons places below g) group.units wanted)
    (λ set. Ok (added exports set)) diag
    (sym (units_are project skeletons places below names g group units wanted are same) ∙ wrong))

-- .. and imports that are set
pub units_added : (project : Project) (skeletons : List Skeleton) (defs : List Def) (places : ℕ → Option ℕ)
    (below : List (List Export)) (names : GroupNames) (g : ℕ) (group : Group) (units : List ℕ)
    (wanted new : List (List Wanted)) (exports : List Export)
    → AreNames names project skeletons places below g → units ≡ group.units
    → shows project skeletons defs places below names g group ≡ Ok exports
    → with_imports (imports_by_tables project skeletons names) units wanted ≡ Ok new
    → with_read project skeletons defs places below g group (imports_read project skeletons places below g) wanted
    ≡ Ok (added exports new)
units_added project skeletons defs places below names g group units wanted new exports are same shown set_now =
    units_follow project skeletons defs places below names g group wanted exports are shown
    ∙ bind_right (with_imports (imports_read project skeletons places below g) group.units wanted)
    (λ set. Ok (added exports set)) new
    (sym (units_are project skeletons places below names g group units wanted are same) ∙ set_now)
