-- OUT of a folder is that of the project alone; what is asked there; and the units of a project have the compiler's
-- skeletons.
use Rattle.std.proofs.Common.{◌≡◌, ◌∙◌, sym, ap, refl, ℕ, List, [], Option, Some, None}
use Rattle.std.specs.Prelude.{Result, Ok, Err}
use Rattle.cm_base.specs.Definitions.{Definitions}
use Rattle.cm_base.specs.Diags.{◌>>=◌}
use Rattle.cm_base.specs.Files.{Files, HasNoStore}
use Rattle.cm_base.specs.declared.diag.Diag.{Diag}
use Rattle.cm_base.specs.declared.record.Def.{Def}
use Rattle.cm_base.specs.declared.record.PlannedUnit.{PlannedUnit}
use Rattle.cm_base.specs.declared.record.Skeleton.{Skeleton}
use Rattle.cm_description.specs.declared.loaded.Project.{Project}
use Rattle.path_anchors.specs.Names.{Bindings}
use Rattle.loading_laws.specs.Laws.{LoadsAlike}
use Rattle.dependency_graph.specs.Order.{Placed}
use Rattle.visibility.specs.Naming.{names_of}
use Rattle.visibility.specs.declared.names.Names.{Names}
use Rattle.skeleton_asking.specs.Skeletons.{Skeletons, skeletons_of}
use Rattle.skeleton_asking.proofs.StoredSkeletons.{all_asked, stored_same}
use Rattle.bin_store.proofs.Elsewhere.{no_store_good}
use Rattle.project_planning.specs.Buildable.{planned_units}
use Rattle.project_planning.specs.Planning.{edges_of, in_order, plain_plan, plan_in, plan_of, plan_with, unit_names, unless_refused}
use Rattle.project_planning.specs.declared.plan.Plan.{Plan}
use Rattle.project_planning.proofs.Planned.{planned_have}
use Rattle.build_laws.specs.Planned.{HaveSkeletons}
use Rattle.command_parts.specs.ProjectBuild.{of_loading, units_of}
use Rattle.command_parts.specs.Targets.{out_in, out_path}
use Rattle.history_laws.specs.FromNothing.{if_loaded, sources_in, unread_in}

-- ---- over two folders with one project

module _ (by : Definitions) (a b : Files) (alike : LoadsAlike a b) where
  pub out_same : (root out : List ℕ) → out_in a root out ≡ out_in b root out
  out_same root out = ap (λ (r : Result Bindings Diag). r >>= λ anchors. out_path anchors root out) alike.anchors

-- ---- what is asked

pub asked_loading : (by : Definitions) (files : Files) (defs : List Def) (r : Result Project Diag)
    → (of_loading (plain_plan by.skel files) defs r).asked_skeletons ≡ unread_in by files (if_loaded r)
asked_loading by files defs (Ok project) = refl
asked_loading by files defs (Err diag) = refl

-- where no store was begun, all
pub unread_alone : (by : Definitions) (files : Files) (project : Option Project) → HasNoStore files
    → unread_in by files project ≡ sources_in by project
unread_alone by files None none = refl
unread_alone by files (Some project) none =
    ap (λ (all : Skeletons). all.asked)
    (sym (stored_same by [] files project (no_store_good by files none)) ∙ all_asked by.skel files project none)

-- ---- skeletons

-- a plan with these skeletons has them
ordered_has : (project : Project) (skeletons : List Skeleton) (names : Names) (r : Result (List Placed) Diag)
    (plan : Plan) → (r >>= λ order. Ok (plan_in skeletons names order)) ≡ Ok plan → skeletons ≡ plan.skeletons
ordered_has project skeletons names (Ok order) plan is =
    let same : plan_in skeletons names order ≡ plan = cc in ap (λ (p : Plan). p.skeletons) same
ordered_has project skeletons names (Err diag) plan is = cc

named_has : (project : Project) (skeletons : List Skeleton) (r : Result Names Diag) (plan : Plan)
    → (r >>= λ names. in_order (unit_names project) (edges_of names.wanted) >>= λ order.
    Ok (plan_in skeletons names order))
    ≡ Ok plan → skeletons ≡ plan.skeletons
named_has project skeletons (Ok names) plan is =
    ordered_has project skeletons names (in_order (unit_names project) (edges_of names.wanted)) plan is
named_has project skeletons (Err diag) plan is = cc

after_has : (by : Definitions) (project : Project) (defs : List Def) (ended : Option Diag) (plan : Plan)
    → (skeletons_of by.skel project).ended ≡ ended
    → unless_refused ended (plan_with project defs (skeletons_of by.skel project).found) ≡ Ok plan
    → HaveSkeletons by.skel (planned_units project plan)
after_has by project defs (Some diag) plan stops is = cc
after_has by project defs None plan stops is =
    planned_have by.skel project plan.skeletons plan.wanted plan.order
    (named_has project (skeletons_of by.skel project).found
    (names_of project (skeletons_of by.skel project).found defs) plan is)
    stops

abbrev pub HaveAll : Definitions → Result (List PlannedUnit) Diag → Type 0
HaveAll by (Ok planned) = HaveSkeletons by.skel planned
HaveAll by (Err diag) = Unit {0}

units_have : (by : Definitions) (project : Project) (r : Result Plan Diag)
    → ((plan : Plan) → r ≡ Ok plan → HaveSkeletons by.skel (planned_units project plan))
    → HaveAll by (units_of project r)
units_have by project (Ok plan) have = have plan refl
units_have by project (Err diag) have = tt

pub loading_has : (by : Definitions) (files : Files) (defs : List Def) (r : Result Project Diag)
    → HaveAll by (of_loading (plain_plan by.skel files) defs r).units
loading_has by files defs (Ok project) =
    units_have by project (plan_of by.skel project defs).result
    (λ plan is. after_has by project defs (skeletons_of by.skel project).ended plan refl is)
loading_has by files defs (Err diag) = tt
