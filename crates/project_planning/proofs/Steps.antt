-- The steps of a plan: what each refusal and each answer makes of it.
use Rattle.std.proofs.Common.{◌≡◌, ◌∙◌, sym, ap, refl, subst, ℕ, List, None}
use Rattle.std.specs.Prelude.{All, Result, Ok, Err, IsErrAnd}
use Rattle.cm_base.specs.Calls.{Gives}
use Rattle.cm_base.specs.Definitions.{Definitions}
use Rattle.cm_base.specs.Diags.{◌>>=◌}
use Rattle.cm_base.specs.Files.{Files}
use Rattle.cm_base.specs.declared.diag.Diag.{Diag}
use Rattle.cm_base.specs.declared.fault.Fault.{Fault}
use Rattle.cm_base.specs.declared.fault.Fault.TheVariants as fault
use Rattle.cm_base.specs.declared.record.Def.{Def}
use Rattle.cm_base.specs.declared.record.Skeleton.{Skeleton}
use Rattle.cm_base.proofs.FrontLemmas.{grows_all}
use Rattle.cm_description.specs.declared.loaded.Project.{Project}
use Rattle.build_laws.specs.Planned.{HaveSkeletons}
use Rattle.dependency_graph.specs.Order.{Placed}
use Rattle.bin_store.specs.GoodStore.{IsGoodStore}
use Rattle.skeleton_asking.specs.Answers.{FindsAll}
use Rattle.skeleton_asking.specs.Faults.{of_fault}
use Rattle.skeleton_asking.specs.Short.{IsShortSkeleton}
use Rattle.skeleton_asking.specs.Skeletons.{Skeletons, plain_over, skeletons_over}
use Rattle.skeleton_asking.specs.declared.fault.PlanFault.{PlanFault}
use Rattle.skeleton_asking.specs.declared.fault.PlanFault.TheVariants as plan_fault
use Rattle.skeleton_asking.proofs.StoredSkeletons.{stored_same}
use Rattle.visibility.specs.Naming.{names_of}
use Rattle.visibility.specs.declared.names.Names.{Names}
use Rattle.cutoff_builder.specs.Small.{AreShortNames}
use Rattle.project_planning.specs.Buildable.{planned_units}
use Rattle.project_planning.specs.Answers.{Plans}
use Rattle.project_planning.specs.Planning.{edges_of, in_order, plain_plan, plan_in, plan_over, plan_with, planning_after, unit_names, unless_refused}
use Rattle.project_planning.specs.declared.plan.Plan.{Plan}
use Rattle.project_planning.proofs.Planned.{planned_have}
use Rattle.project_planning.proofs.Providers.{then_step}
use Rattle.project_planning.proofs.ShortImports.{names_short}

-- what holds of a fault holds of the answer that passes it on
pub passed : {A E : Type 0} (r : Result A E) (e : E) (P : Result A E → Type 0) → IsErrAnd r (λ y. y ≡ e)
    → P (Err e) → P r
passed (Ok value) e P is holds = absurd is
passed (Err y) e P is holds = subst (λ y. P (Err y)) (sym is) holds

-- ---- names and order

abbrev ordered_next : Project → List Skeleton → Names → Result Plan Diag
ordered_next p skeletons names =
    in_order (unit_names p) (edges_of names.wanted) >>= (λ order. Ok (plan_in skeletons names order))

pub names_refused : (p : Project) (skeletons : List Skeleton) (defs : List Def) (e : Fault)
    → Gives {A = Names} (Err e) (names_of p skeletons defs) → Gives {A = Plan} (Err e) (plan_with p defs skeletons)
names_refused p skeletons defs (fault.Diag diag) is = ap (λ r. r >>= ordered_next p skeletons) is
names_refused p skeletons defs fault.NoMemory is = tt

pub order_refused : (p : Project) (skeletons : List Skeleton) (defs : List Def) (names : Names) (e : Fault)
    → names_of p skeletons defs ≡ Ok names
    → Gives {A = List Placed} (Err e) (in_order (unit_names p) (edges_of names.wanted))
    → Gives {A = Plan} (Err e) (plan_with p defs skeletons)
order_refused p skeletons defs names (fault.Diag diag) found is =
    ap (λ r. r >>= ordered_next p skeletons) found ∙ ap (λ r. r >>= (λ order. Ok (plan_in skeletons names order))) is
order_refused p skeletons defs names fault.NoMemory found is = tt

-- of short skeletons the imports of a plan are short
pub plan_short : (p : Project) (skeletons : List Skeleton) (defs : List Def) (plan : Plan)
    → All IsShortSkeleton skeletons → plan_with p defs skeletons ≡ Ok plan → All AreShortNames plan.wanted
plan_short p skeletons defs plan short is =
    then_step (names_of p skeletons defs) (ordered_next p skeletons) plan (All AreShortNames plan.wanted)
    (λ names found rest.
    then_step (in_order (unit_names p) (edges_of names.wanted)) (λ order. Ok (plan_in skeletons names order)) plan
    (All AreShortNames plan.wanted)
    (λ order gives last.
    let same : plan_in skeletons names order ≡ plan = cc in
    subst (λ (q : Plan). All AreShortNames q.wanted) same (names_short p skeletons defs names short found)) rest) is

pub plan_found : (p : Project) (skeletons : List Skeleton) (defs : List Def) (names : Names) (order : List Placed)
    → names_of p skeletons defs ≡ Ok names → in_order (unit_names p) (edges_of names.wanted) ≡ Ok order
    → plan_with p defs skeletons ≡ Ok (plan_in skeletons names order)
plan_found p skeletons defs names order found is =
    ap (λ r. r >>= ordered_next p skeletons) found ∙ ap (λ r. r >>= (λ order. Ok (plan_in skeletons names order))) is

-- ---- after the skeletons

-- they were refused, or their turn was cut off
pub refused : (p : Project) (defs : List Def) (all : Skeletons) (e : PlanFault) (old new : List (List ℕ))
    → FindsAll (Err e) all old new → Plans (Err e) (planning_after p defs all) old new
refused p defs all (plan_fault.Diag diag) old new finds =
    record { gives = ap (λ o. unless_refused o (plan_with p defs all.found)) finds.gives; asks = finds.asks }
refused p defs all plan_fault.Folder old new finds = record { gives = tt; asks = finds.asks }
refused p defs all plan_fault.NoMemory old new finds = record { gives = tt; asks = finds.asks }

-- where all are found the plan is made with them
with_found : (p : Project) (defs : List Def) (all : Skeletons) (skeletons : List Skeleton) (r : Result Plan Diag)
    → all.found ≡ skeletons → all.ended ≡ None → plan_with p defs skeletons ≡ r
    → (planning_after p defs all).result ≡ r
with_found p defs all skeletons r found ended is =
    ap (λ o. unless_refused o (plan_with p defs all.found)) ended ∙ ap (plan_with p defs) found ∙ is

pub planned : (p : Project) (defs : List Def) (all : Skeletons) (skeletons : List Skeleton) (plan : Plan)
    (old new : List (List ℕ)) → FindsAll (Ok skeletons) all old new → plan_with p defs skeletons ≡ Ok plan
    → Plans (Ok plan) (planning_after p defs all) old new
planned p defs all skeletons plan old new finds is =
    record { gives = with_found p defs all skeletons (Ok plan) finds.gives.0 finds.gives.1 is; asks = finds.asks }

pub unplanned : (p : Project) (defs : List Def) (all : Skeletons) (skeletons : List Skeleton) (e : Fault)
    (old new : List (List ℕ)) → FindsAll (Ok skeletons) all old new
    → Gives {A = Plan} (Err e) (plan_with p defs skeletons)
    → Plans (Err (of_fault e)) (planning_after p defs all) old new
unplanned p defs all skeletons (fault.Diag diag) old new finds is =
    record { gives = with_found p defs all skeletons (Err diag) finds.gives.0 finds.gives.1 is; asks = finds.asks }
unplanned p defs all skeletons fault.NoMemory old new finds is =
    record { gives = tt; asks = grows_all old new all.asked finds.asks }

-- ---- over a good store

-- what is found is what the compiler gives
pub found_plain : {by : Definitions} {known : List (List ℕ)} {files : Files} (p : Project)
    (r : Result (List Skeleton) PlanFault) (old new : List (List ℕ)) → IsGoodStore by known files
    → FindsAll r (skeletons_over by.skel files p) old new → FindsAll r (plain_over by.skel files p) old new
found_plain {by} {known} {files} p r old new good finds =
    subst (λ (all : Skeletons). FindsAll r all old new) (stored_same by known files p good) finds

-- so a plan has the compiler's skeletons
pub planned_lawful : {by : Definitions} {known : List (List ℕ)} {files : Files} (p : Project)
    (skeletons : List Skeleton) (plan : Plan) (old new : List (List ℕ)) → IsGoodStore by known files
    → FindsAll (Ok skeletons) (skeletons_over by.skel files p) old new → plan.skeletons ≡ skeletons
    → HaveSkeletons by.skel (planned_units p plan)
planned_lawful {by} {known} {files} p skeletons plan old new good finds same =
    let plain = found_plain p (Ok skeletons) old new good finds in
    planned_have by.skel p plan.skeletons plan.wanted plan.order (plain.gives.0 ∙ sym same) plain.gives.1

pub plan_same : (by : Definitions) (texts : List (List ℕ)) (files : Files) (project : Project) (defs : List Def)
    → IsGoodStore by texts files → plan_over by.skel files project defs ≡ plain_plan by.skel files project defs
plan_same by texts files project defs good = ap (planning_after project defs) (stored_same by texts files project good)
