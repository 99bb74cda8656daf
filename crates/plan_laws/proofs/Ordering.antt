-- A plan is an order of its units.
use Rattle.std.proofs.Common.{◌≡◌, ◌∙◌, sym, ap, refl, subst, ℕ, zero, suc, List, [], ◌∷◌, length, map, slice_get, Option, Some, None, Result, Ok, Err, inl, inr}
use Rattle.cm_base.specs.Diags.{◌>>=◌}
use Rattle.cm_base.specs.declared.diag.Diag.{Diag}
use Rattle.cm_base.specs.declared.record.Def.{Def}
use Rattle.cm_base.specs.declared.record.Skeleton.{Skeleton}
use Rattle.cm_description.specs.WellFormed.{AllDiffer, IsWellFormed}
use Rattle.cm_description.specs.declared.loaded.Project.{Project}
use Rattle.cm_description.specs.declared.loaded.Unit.{Unit as ProjectUnit}
use Rattle.cm_description.specs.declared.loaded.UnitBody.{UnitBody}
use Rattle.visibility.specs.Naming.{names_of}
use Rattle.visibility.specs.declared.names.Names.{Names}
use Rattle.dependency_graph.specs.Cycle.{HasNoCycle}
use Rattle.dependency_graph.specs.Order.{Placed}
use Rattle.dependency_graph.specs.Ordered.{ordered}
use Rattle.dependency_graph.proofs.Counting.{Differ, Member}
use Rattle.order_laws.specs.Laws.{AreUnits}
use Rattle.order_laws.proofs.Values.{order_is_value, order_without_cycle}
use Rattle.skeleton_asking.specs.Skeletons.{Answer, Skeletons, answer_over, skeletons_by, skeletons_over, then_skeletons}
use Rattle.project_planning.specs.Planning.{edges_of, in_order, plan_in, plan_with, unit_names, unless_cycle, unless_refused}
use Rattle.project_planning.specs.declared.plan.Plan.{Plan}
use Rattle.project_planning.proofs.Graphs.{edges_are_units, edges_count, units_differ}
use Rattle.project_planning.proofs.Planned.{order_differs}
use Rattle.project_planning.proofs.Providers.{names_counted, names_provided, then_step}
use Rattle.project_planning.proofs.Steps.{plan_found}
use Rattle.plan_laws.specs.Laws.{CyclesHaveNoPlan, IsInOrder, PlansAreOrders, StoredPlansAreOrders}

-- ---- each number once

at_member : (xs : List ℕ) (i x : ℕ) → slice_get xs i ≡ Some x → Member xs x
at_member [] i x is = cc
at_member (y ∷ ys) zero x is = let same : y ≡ x = cc in inl same
at_member (y ∷ ys) (suc i) x is = inr (at_member ys i x is)

all_differ : (xs : List ℕ) → Differ xs → AllDiffer xs
all_differ [] once i j x first second = cc
all_differ (y ∷ ys) once zero zero x first second = refl
all_differ (y ∷ ys) once zero (suc j) x first second = absurd (once.0 (at_member ys j y (second ∙ sym first)))
all_differ (y ∷ ys) once (suc i) zero x first second = absurd (once.0 (at_member ys i y (first ∙ sym second)))
all_differ (y ∷ ys) once (suc i) (suc j) x first second = ap suc (all_differ ys once.1 i j x first second)

-- ---- the order

uncycled : (names : List (List ℕ)) (r : Result (List Placed) (List ℕ)) (order : List Placed)
    → unless_cycle names r ≡ Ok order → r ≡ Ok order
uncycled names (Ok found) order is = let same : ◌≡◌ {A = List Placed} found order = cc in ap Ok same
uncycled names (Err cycle) order is = cc

are_units : (p : Project) (defs : List Def) (skeletons : List Skeleton) (names : Names) → IsWellFormed p
    → names_of p skeletons defs ≡ Ok names → AreUnits (unit_names p) (edges_of names.wanted)
are_units p defs skeletons names formed found =
    let counted = names_counted p skeletons defs names formed found in
    record {
      lists = edges_count p (unit_names p) (edges_of names.wanted) names.wanted counted refl refl;
      known = edges_are_units p (edges_of names.wanted) names.wanted counted
          (names_provided p skeletons defs names formed found) refl;
      apart = units_differ p (unit_names p) formed refl;
    }

planned : (p : Project) (defs : List Def) (skeletons : List Skeleton) (names : Names) (order : List Placed)
    → IsWellFormed p → length skeletons ≡ length p.units → names_of p skeletons defs ≡ Ok names
    → in_order (unit_names p) (edges_of names.wanted) ≡ Ok order → IsInOrder p (plan_in skeletons names order)
planned p defs skeletons names order formed counted found gives =
    let edges = edges_of names.wanted in
    let is = (order_is_value (unit_names p) edges order (are_units p defs skeletons names formed found)).0
    (uncycled (unit_names p) (ordered (unit_names p) edges) order gives) in
    record {
      skeletons = counted;
      wanted = names_counted p skeletons defs names formed found;
      providers = names_provided p skeletons defs names formed found;
      once = all_differ (map (λ (placed : Placed). placed.unit) order)
          (order_differs (unit_names p) edges order is.whole);
      ordered = is;
    }

abbrev with_order : Project → List Skeleton → Names → Result Plan Diag
with_order p skeletons names =
    in_order (unit_names p) (edges_of names.wanted) >>= (λ order. Ok (plan_in skeletons names order))

pub plans_are_orders : PlansAreOrders
plans_are_orders p defs skeletons plan formed counted is =
    then_step (names_of p skeletons defs) (with_order p skeletons) plan (IsInOrder p plan)
    (λ names found rest.
    then_step (in_order (unit_names p) (edges_of names.wanted)) (λ order. Ok (plan_in skeletons names order)) plan
    (IsInOrder p plan)
    (λ order gives last.
    let same : plan_in skeletons names order ≡ plan = cc in
    subst (IsInOrder p) same (planned p defs skeletons names order formed counted found gives)) rest) is

-- ---- over files

counted_by : (asked : List (List ℕ)) (answer : Result Skeleton Diag) (rest : Skeletons) (n : ℕ)
    → (rest.ended ≡ None → length rest.found ≡ n) → (then_skeletons asked answer rest).ended ≡ None
    → length (then_skeletons asked answer rest).found ≡ suc n
counted_by asked (Ok skeleton) rest n more ended = ap suc (more ended)
counted_by asked (Err diag) rest n more ended = cc

-- where none is refused each unit has a skeleton
each_has : (answering : List ℕ → UnitBody → Answer) (units : List ProjectUnit)
    → (skeletons_by answering units).ended ≡ None → length (skeletons_by answering units).found ≡ length units
each_has answering [] ended = refl
each_has answering (unit ∷ units) ended =
    counted_by (answering unit.name unit.body).asked (answering unit.name unit.body).gives
    (skeletons_by answering units) (length units) (each_has answering units) ended

unrefused : (o : Option Diag) (r : Result Plan Diag) (plan : Plan) → unless_refused o r ≡ Ok plan
    → (o ≡ None) × (r ≡ Ok plan)
unrefused None r plan is = (refl, is)
unrefused (Some diag) r plan is = cc

pub stored_are_orders : StoredPlansAreOrders
stored_are_orders skel files p defs plan formed is =
    let all = skeletons_over skel files p in
    let two = unrefused all.ended (plan_with p defs all.found) plan is in
    plans_are_orders p defs all.found plan formed (each_has (answer_over skel files) p.units two.0) two.1

-- ---- cycles

cycle_free : (p : Project) (defs : List Def) (skeletons : List Skeleton) (names : Names) (plan : Plan)
    → IsWellFormed p → names_of p skeletons defs ≡ Ok names → plan_with p defs skeletons ≡ Ok plan
    → HasNoCycle (edges_of names.wanted)
cycle_free p defs skeletons names plan formed found is =
    let edges = edges_of names.wanted in
    then_step (in_order (unit_names p) edges) (λ order. Ok (plan_in skeletons names order)) plan (HasNoCycle edges)
    (λ order gives last. (order_without_cycle (unit_names p) edges (are_units p defs skeletons names formed found)).1
    (order, uncycled (unit_names p) (ordered (unit_names p) edges) order gives))
    (sym (ap (λ r. r >>= with_order p skeletons) found) ∙ is)

pub cycles_have_no_plan : CyclesHaveNoPlan
cycles_have_no_plan p defs skeletons names formed found = (
  λ none.
      let order = (order_without_cycle (unit_names p) (edges_of names.wanted)
      (are_units p defs skeletons names formed found)).0 none in (
        plan_in skeletons names order.0,
        plan_found p skeletons defs names order.0 found (ap (unless_cycle (unit_names p)) order.1),
      ),
  λ some. cycle_free p defs skeletons names some.0 formed found some.1,
)
