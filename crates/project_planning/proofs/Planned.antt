-- The units of a plan, as a build takes them: their names differ, and their skeletons are the compiler's.
use Rattle.std.proofs.Common.{◌≡◌, ◌≢◌, ◌∙◌, sym, ap, refl, subst, inl, inr, ◌⊎◌, ℕ, zero, suc, ◌<◌, ◌≤◌, List, [], ◌∷◌, ◌++◌, length, map, slice_get, Option, Some, None, Result, Ok, Err, arith}
use Rattle.std.specs.Prelude.{Contains}
use Rattle.std.specs.List.{AllByRecursion}
use Rattle.std.specs.Option.{option_map}
use Rattle.std.proofs.lemmas.List.{length-map}
use Rattle.std.proofs.lemmas.Option.{slice_get-map}
use Rattle.cm_base.specs.declared.diag.Diag.{Diag}
use Rattle.cm_base.specs.declared.record.PlannedUnit.{PlannedUnit}
use Rattle.cm_base.specs.declared.record.Skeleton.{Skeleton}
use Rattle.cm_description.specs.WellFormed.{AllDiffer, IsWellFormed, StandsAt}
use Rattle.cm_description.specs.declared.loaded.Project.{Project}
use Rattle.cm_description.specs.declared.loaded.Unit.{Unit as ProjectUnit}
use Rattle.cm_description.specs.declared.loaded.UnitBody.{UnitBody}
use Rattle.cm_description.specs.declared.loaded.UnitBody.TheVariants as body
use Rattle.cm_description.specs.declared.loaded.Wanted.{Wanted}
use Rattle.build_laws.specs.Planned.{HaveSkeletons, NamesDiffer}
use Rattle.cutoff_builder.specs.Planning.{of_body, of_parts, planned_at, planned_in, planned_of, source_unit}
use Rattle.dependency_graph.specs.Order.{IsOrder, Placed}
use Rattle.dependency_graph.proofs.Counting.{Differ, Member, all_differ}
use Rattle.dependency_graph.proofs.RankValues.{none_in}
use Rattle.dependency_graph.proofs.Walks.{member_cases}
use Rattle.skeleton_asking.specs.Skeletons.{Skeletons, answer_to, skeletons_in, skeletons_of, then_skeletons}
use Rattle.project_planning.specs.Planning.{edges_of, unit_names}

-- ---- lists

all_append : {A : Type 0} (P : A → Type 0) (xs ys : List A) → AllByRecursion P xs → AllByRecursion P ys
    → AllByRecursion P (xs ++ ys)
all_append P [] ys first second = second
all_append P (x ∷ xs) ys first second = (first.0, all_append P xs ys first.1 second)

pub to_member : (xs : List ℕ) (x : ℕ) → Contains xs x → Member xs x
to_member [] x c = none_in x c
to_member (y ∷ ys) x c = elim (member_cases y ys x c) [ inl same ↦ inl same | inr more ↦ inr (to_member ys x more) ]

-- ---- names

-- a unit of another number has another name
body_other : (units : List ProjectUnit) (name : List ℕ) (b : UnitBody) (skeleton : Skeleton) (wanted : List Wanted)
    (other : List ℕ) → name ≢ other
    → AllByRecursion (λ (q : PlannedUnit). q.unit ≢ other) (of_body units name b skeleton wanted)
body_other units name (body.Source options source) skeleton wanted other apart = (apart, tt)
body_other units name (body.Frozen imports interface code) skeleton wanted other apart = tt

parts_other : (units : List ProjectUnit) (number m : ℕ) (name : List ℕ) (o : Option ProjectUnit) (s : Option Skeleton)
    (w : Option (List Wanted)) → AllDiffer (map (λ (unit : ProjectUnit). unit.name) units)
    → StandsAt (map (λ (unit : ProjectUnit). unit.name) units) number name → m ≢ number → slice_get units m ≡ o
    → AllByRecursion (λ (q : PlannedUnit). q.unit ≢ name) (of_parts units o s w)
parts_other units number m name (Some unit) (Some skeleton) (Some wanted) differ here other is =
    body_other units unit.name unit.body skeleton wanted name
    (λ same. other (differ m number name
    (slice_get-map (λ (unit : ProjectUnit). unit.name) units m
    ∙ ap (λ (o : Option ProjectUnit). option_map (λ (u : ProjectUnit). u.name) o) is ∙ ap Some same) here))
parts_other units number m name (Some unit) (Some skeleton) None differ here other is = tt
parts_other units number m name (Some unit) None w differ here other is = tt
parts_other units number m name None s w differ here other is = tt

pub others : (p : Project) (skeletons : List Skeleton) (wanted : List (List Wanted)) (number : ℕ) (name : List ℕ)
    (numbers : List ℕ) → AllDiffer (unit_names p) → StandsAt (unit_names p) number name → (Member numbers number → ⊥)
    → AllByRecursion (λ (q : PlannedUnit). q.unit ≢ name) (planned_in p skeletons wanted numbers)
others p skeletons wanted number name [] differ here away = tt
others p skeletons wanted number name (m ∷ more) differ here away =
    all_append (λ (q : PlannedUnit). q.unit ≢ name) (planned_at p skeletons wanted m)
    (planned_in p skeletons wanted more)
    (parts_other p.units number m name (slice_get p.units m) (slice_get skeletons m) (slice_get wanted m) differ here
    (λ same. away (inl same)) refl)
    (others p skeletons wanted number name more differ here (λ among. away (inr among)))

body_first : (units : List ProjectUnit) (name : List ℕ) (b : UnitBody) (skeleton : Skeleton) (wanted : List Wanted)
    (rest : List PlannedUnit) → AllByRecursion (λ (q : PlannedUnit). q.unit ≢ name) rest → NamesDiffer rest
    → NamesDiffer (of_body units name b skeleton wanted ++ rest)
body_first units name (body.Source options source) skeleton wanted rest other differ = (other, differ)
body_first units name (body.Frozen imports interface code) skeleton wanted rest other differ = differ

parts_first : (units : List ProjectUnit) (number : ℕ) (o : Option ProjectUnit) (s : Option Skeleton)
    (w : Option (List Wanted)) (rest : List PlannedUnit)
    → ((name : List ℕ) → StandsAt (map (λ (unit : ProjectUnit). unit.name) units) number name
    → AllByRecursion (λ (q : PlannedUnit). q.unit ≢ name) rest)
    → slice_get units number ≡ o → NamesDiffer rest → NamesDiffer (of_parts units o s w ++ rest)
parts_first units number (Some unit) (Some skeleton) (Some wanted) rest other is differ =
    body_first units unit.name unit.body skeleton wanted rest
    (other unit.name (slice_get-map (λ (u : ProjectUnit). u.name) units number
    ∙ ap (λ (o : Option ProjectUnit). option_map (λ (u : ProjectUnit). u.name) o) is)) differ
parts_first units number (Some unit) (Some skeleton) None rest other is differ = differ
parts_first units number (Some unit) None w rest other is differ = differ
parts_first units number None s w rest other is differ = differ

in_differ : (p : Project) (skeletons : List Skeleton) (wanted : List (List Wanted)) (numbers : List ℕ)
    → AllDiffer (unit_names p) → Differ numbers → NamesDiffer (planned_in p skeletons wanted numbers)
in_differ p skeletons wanted [] differ once = tt
in_differ p skeletons wanted (number ∷ more) differ once =
    parts_first p.units number (slice_get p.units number) (slice_get skeletons number) (slice_get wanted number)
    (planned_in p skeletons wanted more)
    (λ name here. others p skeletons wanted number name more differ here once.0) refl
    (in_differ p skeletons wanted more differ once.1)

-- an order has each unit once
pub order_differs : (names edges : List (List ℕ)) (order : List Placed) → IsOrder names edges order
    → Differ (map (λ (placed : Placed). placed.unit) order)
order_differs names edges order whole =
    let numbers = map (λ (placed : Placed). placed.unit) order in
    all_differ (length names) numbers (λ u below. to_member numbers u (whole.every u below))
    (omega (arith, length-map order (λ (placed : Placed). placed.unit), whole.counted))

-- the units of a project in an order have names that differ
pub planned_differ : (p : Project) (skeletons : List Skeleton) (wanted : List (List Wanted)) (order : List Placed)
    → IsWellFormed p → IsOrder (unit_names p) (edges_of wanted) order
    → NamesDiffer (planned_of p skeletons wanted order)
planned_differ p skeletons wanted order formed whole =
    in_differ p skeletons wanted (map (λ (placed : Placed). placed.unit) order) formed.names
    (order_differs (unit_names p) (edges_of wanted) order whole)

-- ---- skeletons

-- a source unit has the compiler's skeleton
abbrev IsCompilers : (List ℕ → List ℕ → Result Skeleton Diag) → List ℕ → UnitBody → Skeleton → Type 0
IsCompilers skel name (body.Source options source) skeleton = skel name source ≡ Ok skeleton
IsCompilers skel name (body.Frozen imports interface code) skeleton = Unit {0}

answered : (skel : List ℕ → List ℕ → Result Skeleton Diag) (name : List ℕ) (b : UnitBody) (skeleton : Skeleton)
    → (answer_to skel name b).gives ≡ Ok skeleton → IsCompilers skel name b skeleton
answered skel name (body.Source options source) skeleton is = is
answered skel name (body.Frozen imports interface code) skeleton is = tt

some_same : {A : Type 0} (x y : A) → Some x ≡ Some y → x ≡ y
some_same x y is = cc

of_answer : (skel : List ℕ → List ℕ → Result Skeleton Diag) (first : ProjectUnit) (asked : List (List ℕ))
    (answer : Result Skeleton Diag) (rest : Skeletons) (units : List ProjectUnit) (number : ℕ) (unit : ProjectUnit)
    (skeleton : Skeleton)
    → ((m : ℕ) → rest.ended ≡ None → slice_get units m ≡ Some unit → slice_get rest.found m ≡ Some skeleton
    → IsCompilers skel unit.name unit.body skeleton)
    → (answer_to skel first.name first.body).gives ≡ answer → (then_skeletons asked answer rest).ended ≡ None
    → slice_get (first ∷ units) number ≡ Some unit
    → slice_get (then_skeletons asked answer rest).found number ≡ Some skeleton
    → IsCompilers skel unit.name unit.body skeleton
of_answer skel first asked (Err diag) rest units number unit skeleton later gives ended here there = cc
of_answer skel first asked (Ok found) rest units zero unit skeleton later gives ended here there =
    subst (λ (u : ProjectUnit). IsCompilers skel u.name u.body skeleton) (some_same first unit here)
    (answered skel first.name first.body skeleton (gives ∙ ap Ok (some_same found skeleton there)))
of_answer skel first asked (Ok found) rest units (suc number) unit skeleton later gives ended here there =
    later number ended here there

-- the skeleton of the unit of a number, where none is refused
at_number : (skel : List ℕ → List ℕ → Result Skeleton Diag) (units : List ProjectUnit) (number : ℕ) (unit : ProjectUnit)
    (skeleton : Skeleton) → (skeletons_in skel units).ended ≡ None → slice_get units number ≡ Some unit
    → slice_get (skeletons_in skel units).found number ≡ Some skeleton → IsCompilers skel unit.name unit.body skeleton
at_number skel [] number unit skeleton ended here there = cc
at_number skel (first ∷ units) number unit skeleton ended here there =
    of_answer skel first (answer_to skel first.name first.body).asked (answer_to skel first.name first.body).gives
    (skeletons_in skel units) units number unit skeleton (λ m. at_number skel units m unit skeleton) refl ended here
    there

body_has : (skel : List ℕ → List ℕ → Result Skeleton Diag) (units : List ProjectUnit) (name : List ℕ) (b : UnitBody)
    (skeleton : Skeleton) (wanted : List Wanted) → IsCompilers skel name b skeleton
    → HaveSkeletons skel (of_body units name b skeleton wanted)
body_has skel units name (body.Source options source) skeleton wanted is = (is, tt)
body_has skel units name (body.Frozen imports interface code) skeleton wanted is = tt

parts_have : (skel : List ℕ → List ℕ → Result Skeleton Diag) (units : List ProjectUnit) (number : ℕ)
    (o : Option ProjectUnit) (s : Option Skeleton) (w : Option (List Wanted)) → (skeletons_in skel units).ended ≡ None
    → slice_get units number ≡ o → slice_get (skeletons_in skel units).found number ≡ s
    → HaveSkeletons skel (of_parts units o s w)
parts_have skel units number (Some unit) (Some skeleton) (Some wanted) ended here there =
    body_has skel units unit.name unit.body skeleton wanted
    (at_number skel units number unit skeleton ended here there)
parts_have skel units number (Some unit) (Some skeleton) None ended here there = tt
parts_have skel units number (Some unit) None w ended here there = tt
parts_have skel units number None s w ended here there = tt

in_have : (skel : List ℕ → List ℕ → Result Skeleton Diag) (p : Project) (wanted : List (List Wanted)) (numbers : List ℕ)
    → (skeletons_of skel p).ended ≡ None
    → HaveSkeletons skel (planned_in p (skeletons_of skel p).found wanted numbers)
in_have skel p wanted [] ended = tt
in_have skel p wanted (number ∷ more) ended =
    all_append (λ (q : PlannedUnit). skel q.unit q.source ≡ Ok q.skeleton)
    (planned_at p (skeletons_of skel p).found wanted number) (planned_in p (skeletons_of skel p).found wanted more)
    (parts_have skel p.units number (slice_get p.units number) (slice_get (skeletons_of skel p).found number)
    (slice_get wanted number) ended refl refl)
    (in_have skel p wanted more ended)

-- the units of a project have the compiler's skeletons
pub planned_have : (skel : List ℕ → List ℕ → Result Skeleton Diag) (p : Project) (skeletons : List Skeleton)
    (wanted : List (List Wanted)) (order : List Placed) → (skeletons_of skel p).found ≡ skeletons
    → (skeletons_of skel p).ended ≡ None → HaveSkeletons skel (planned_of p skeletons wanted order)
planned_have skel p skeletons wanted order is ended =
    subst (λ (s : List Skeleton). HaveSkeletons skel (planned_of p s wanted order)) is
    (in_have skel p wanted (map (λ (placed : Placed). placed.unit) order) ended)
