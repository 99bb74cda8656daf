-- The loop over all groups of a project.
use Rattle.std.proofs.Common.{◌≡◌, ◌∙◌, sym, ap, ℕ, ◌+◌, ◌<◌, List, [], ◌∷◌, ◌++◌, length, drop, get_or, Result, Ok, Err}
use Rattle.std.specs.Result.{IsErrAnd}
use Rattle.cm_base.specs.Calls.{Gives}
use Rattle.cm_base.specs.declared.diag.Diag.{Diag}
use Rattle.cm_base.specs.declared.fault.Fault.{Fault}
use Rattle.cm_base.specs.declared.record.Def.{Def}
use Rattle.cm_base.specs.declared.record.Skeleton.{Skeleton}
use Rattle.cm_description.specs.declared.loaded.Export.{Export}
use Rattle.cm_description.specs.declared.loaded.Project.{Project}
use Rattle.cm_description.specs.declared.loaded.Wanted.{Wanted}
use Rattle.visibility.proofs.Answering.{added_wrong, passed}
use Rattle.visibility.proofs.Defining.{own_item}
use Rattle.visibility.proofs.GroupSteps.{group_more, group_wrong}
use Rattle.visibility.specs.Naming.{names, names_of, with_groups}
use Rattle.visibility.specs.Tables.{AddsGroup, added, with_group}
use Rattle.visibility.specs.declared.names.Names.{Names}

-- the names so far and those of the groups that are left are those of all
abbrev pub IsOnTheWay : Project → List Skeleton → List Def → ℕ → List (List Export) → List (List Wanted) → Type 0
IsOnTheWay project skeletons defs i below wanted =
    with_groups project skeletons defs (drop i project.finished) (names below wanted)
    ≡ names_of project skeletons defs

-- one more group
pub next_group : (project : Project) (skeletons : List Skeleton) (defs : List Def) (groups : List ℕ) (i : ℕ)
    (below now : List (List Export)) (wanted new : List (List Wanted)) (exports : List Export)
    → groups ≡ project.finished → i < length groups
    → with_group project skeletons defs below (get_or groups i 0) wanted ≡ Ok (added exports new)
    → now ≡ below ++ exports ∷ [] → IsOnTheWay project skeletons defs i below wanted
    → IsOnTheWay project skeletons defs (i + 1) now new
next_group project skeletons defs groups i below now wanted new exports same lt gives grown so_far =
    ap (λ (gs : List ℕ). with_groups project skeletons defs (drop (i + 1) gs) (names now new)) (sym same)
    ∙ group_more project skeletons defs groups i (get_or groups i 0) below now wanted new exports lt
    (own_item groups i lt) gives grown
    ∙ ap (λ (gs : List ℕ). with_groups project skeletons defs (drop i gs) (names below wanted)) same
    ∙ so_far

-- one group that is refused
pub group_refused : (project : Project) (skeletons : List Skeleton) (defs : List Def) (groups : List ℕ) (i : ℕ)
    (below : List (List Export)) (wanted new : List (List Wanted)) (e : Fault) (r : Result Names Fault)
    → groups ≡ project.finished → i < length groups → IsErrAnd r (λ y. y ≡ e)
    → AddsGroup (Err e) project skeletons defs below (get_or groups i 0) wanted new
    → IsOnTheWay project skeletons defs i below wanted → Gives r (names_of project skeletons defs)
group_refused project skeletons defs groups i below wanted new e r same lt is adds so_far =
    let part = with_group project skeletons defs below (get_or groups i 0) wanted in
    passed r e part (names_of project skeletons defs) is (added_wrong e part new adds)
    (λ diag wrong.
    sym so_far
    ∙ sym (ap (λ (gs : List ℕ). with_groups project skeletons defs (drop i gs) (names below wanted)) same)
    ∙ group_wrong project skeletons defs groups i (get_or groups i 0) below wanted diag lt (own_item groups i lt) wrong)
