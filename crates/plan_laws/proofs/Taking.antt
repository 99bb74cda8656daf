-- A build takes each source of a plan, and providers first.
use Rattle.std.proofs.Common.{◌≡◌, ◌≢◌, ◌∙◌, sym, ap, refl, subst, inl, inr, ℕ, zero, suc, ◌<◌, List, [], ◌∷◌, ◌++◌, length, get_or, map, slice_get, Option, Some, None, arith}
use Rattle.std.specs.Prelude.{All, Contains}
use Rattle.std.specs.List.{AllByRecursion}
use Rattle.std.specs.Option.{option_map}
use Rattle.std.proofs.lemmas.List.{get_or-map, length-map}
use Rattle.std.proofs.lemmas.List.Elements.{All-map, Contains-append_cases, Contains-append_left, Contains-append_right}
use Rattle.std.proofs.lemmas.Option.{get_or_from_slice_get, slice_get-get_or, slice_get-map, slice_get_within}
use Rattle.cm_base.specs.declared.record.PlannedUnit.{PlannedUnit}
use Rattle.cm_base.specs.declared.record.Skeleton.{Skeleton}
use Rattle.cm_base.specs.declared.record.WantedName.{WantedName}
use Rattle.cm_description.specs.WellFormed.{AllDiffer}
use Rattle.cm_description.specs.declared.loaded.Project.{Project}
use Rattle.cm_description.specs.declared.loaded.Unit.{Unit as ProjectUnit}
use Rattle.cm_description.specs.declared.loaded.UnitBody.{UnitBody}
use Rattle.cm_description.specs.declared.loaded.UnitBody.TheVariants as body
use Rattle.cm_description.specs.declared.loaded.Wanted.{Wanted}
use Rattle.dependency_graph.specs.Order.{AreProvidersFirst, Placed, providers}
use Rattle.dependency_graph.proofs.Counting.{Member}
use Rattle.dependency_graph.proofs.RankValues.{first_in, none_in}
use Rattle.dependency_graph.proofs.Walks.{member_cases}
use Rattle.cutoff_builder.specs.Planning.{name_in, of_body, of_parts, planned_at, planned_in, source_unit, wanted_name}
use Rattle.project_planning.specs.Buildable.{AreProvided}
use Rattle.project_planning.specs.Planning.{edges_of, providers_of, unit_names}
use Rattle.project_planning.specs.declared.plan.Plan.{Plan}
use Rattle.project_planning.proofs.Planned.{others, planned_differ, to_member}
use Rattle.plan_laws.specs.Laws.{AreProvidersBefore, BuildsTakeEachSource, IsInOrder, IsOfUnit, IsSource}

-- ---- what stands at a place

contained : {A : Type 0} (xs : List A) (i : ℕ) (x : A) → slice_get xs i ≡ Some x → Contains xs x
contained xs i x is = (i, slice_get_within xs i x is, get_or_from_slice_get xs i x x is)

placed : {A : Type 0} (xs : List A) (x : A) → Contains xs x → (i : ℕ) × (slice_get xs i ≡ Some x)
placed xs x (i, within, is) = (i, slice_get-get_or xs i x within ∙ ap (λ y. Some y) is)

some_at : {A B : Type 0} (xs : List A) (ys : List B) (i : ℕ) (x : A) → length ys ≡ length xs
    → slice_get xs i ≡ Some x → (y : B) × (slice_get ys i ≡ Some y)
some_at [] ys i x same is = cc
some_at (x ∷ xs) [] i z same is = absurd (omega (arith, same))
some_at (x ∷ xs) (y ∷ ys) zero z same is = (y, refl)
some_at (x ∷ xs) (y ∷ ys) (suc i) z same is = some_at xs ys i z (omega (arith, same)) is

-- ---- no source is left out

-- a unit is taken
abbrev Taken : ProjectUnit → List PlannedUnit → Type 0
Taken unit planned = (p : PlannedUnit) × Contains planned p × IsOfUnit unit p

body_taken : (units : List ProjectUnit) (name : List ℕ) (b : UnitBody) (skeleton : Skeleton) (wanted : List Wanted)
    → IsSource b → (p : PlannedUnit) × Contains (of_body units name b skeleton wanted) p × (p.unit ≡ name)
    × (b ≡ body.Source p.options p.source)
body_taken units name (body.Source options source) skeleton wanted is =
    let p = source_unit units name options source skeleton wanted in (p, first_in p [], refl, refl)
body_taken units name (body.Frozen imports interface code) skeleton wanted is = absurd is

at_taken : (p : Project) (skeletons : List Skeleton) (wanted : List (List Wanted)) (n : ℕ) (unit : ProjectUnit)
    (skeleton : Skeleton) (names : List Wanted) → slice_get p.units n ≡ Some unit
    → slice_get skeletons n ≡ Some skeleton → slice_get wanted n ≡ Some names → IsSource unit.body → Taken unit (planned_at p skeletons wanted n)
at_taken p skeletons wanted n unit skeleton names here with these source =
    let taken = body_taken p.units unit.name unit.body skeleton names source in
    let same : of_parts p.units (slice_get p.units n) (slice_get skeletons n) (slice_get wanted n)
    ≡ of_body p.units unit.name unit.body skeleton names = rw (here, with, these) refl in (
      taken.0,
      subst (λ l. Contains l taken.0) (sym same) taken.1,
      record { name = taken.2; source = taken.3 },
    )

number_taken : (p : Project) (skeletons : List Skeleton) (wanted : List (List Wanted)) (numbers : List ℕ) (n : ℕ)
    (unit : ProjectUnit) → Member numbers n → Taken unit (planned_at p skeletons wanted n)
    → Taken unit (planned_in p skeletons wanted numbers)
number_taken p skeletons wanted [] n unit among taken = absurd among
number_taken p skeletons wanted (m ∷ more) n unit (inl same) taken = (
  taken.0,
  Contains-append_left (planned_at p skeletons wanted m) (planned_in p skeletons wanted more) taken.0
      (subst (λ k. Contains (planned_at p skeletons wanted k) taken.0) (sym same) taken.1),
  taken.2,
)
number_taken p skeletons wanted (m ∷ more) n unit (inr later) taken =
    let rest = number_taken p skeletons wanted more n unit later taken in (
      rest.0,
      Contains-append_right (planned_at p skeletons wanted m) (planned_in p skeletons wanted more) rest.0 rest.1,
      rest.2,
    )

each_taken : (p : Project) (plan : Plan) (unit : ProjectUnit) → IsInOrder p plan → Contains p.units unit
    → IsSource unit.body
    → Taken unit (planned_in p plan.skeletons plan.wanted (map (λ (q : Placed). q.unit) plan.order))
each_taken p plan unit is among source =
    let numbers = map (λ (q : Placed). q.unit) plan.order in
    let here = placed p.units unit among in
    let with = some_at p.units plan.skeletons here.0 unit is.skeletons here.1 in
    let these = some_at p.units plan.wanted here.0 unit is.wanted here.1 in
    let within = slice_get_within p.units here.0 unit here.1 in
    let counted = length-map p.units (λ (u : ProjectUnit). u.name) in
    number_taken p plan.skeletons plan.wanted numbers here.0 unit
    (to_member numbers here.0 (is.ordered.whole.every here.0 (omega (arith, within, counted))))
    (at_taken p plan.skeletons plan.wanted here.0 unit with.0 these.0 here.1 with.1 these.1 source)

-- ---- nothing else is taken

abbrev IsUnits : List ProjectUnit → PlannedUnit → Type 0
IsUnits units p = (unit : ProjectUnit) × Contains units unit × IsOfUnit unit p

body_only : (units : List ProjectUnit) (name : List ℕ) (b : UnitBody) (skeleton : Skeleton) (wanted : List Wanted)
    (p : PlannedUnit) → Contains (of_body units name b skeleton wanted) p
    → (p.unit ≡ name) × (b ≡ body.Source p.options p.source)
body_only units name (body.Source options source) skeleton wanted p among =
    elim (member_cases (source_unit units name options source skeleton wanted) [] p among) [
      | inl same ↦ (
        ap (λ (q : PlannedUnit). q.unit) (sym same),
        ap (λ (q : PlannedUnit). body.Source q.options q.source) same,
      )
      | inr more ↦ absurd (none_in p more)
    ]
body_only units name (body.Frozen imports interface code) skeleton wanted p among = absurd (none_in p among)

parts_only : (units : List ProjectUnit) (m : ℕ) (o : Option ProjectUnit) (s : Option Skeleton)
    (w : Option (List Wanted)) (p : PlannedUnit) → slice_get units m ≡ o → Contains (of_parts units o s w) p
    → IsUnits units p
parts_only units m (Some unit) (Some skeleton) (Some wanted) p here among =
    let is = body_only units unit.name unit.body skeleton wanted p among in
    (unit, contained units m unit here, record { name = is.0; source = is.1 })
parts_only units m (Some unit) (Some skeleton) None p here among = absurd (none_in p among)
parts_only units m (Some unit) None w p here among = absurd (none_in p among)
parts_only units m None s w p here among = absurd (none_in p among)

only_units : (q : Project) (skeletons : List Skeleton) (wanted : List (List Wanted)) (numbers : List ℕ)
    (p : PlannedUnit) → Contains (planned_in q skeletons wanted numbers) p → IsUnits q.units p
only_units q skeletons wanted [] p among = absurd (none_in p among)
only_units q skeletons wanted (m ∷ more) p among =
    elim (Contains-append_cases (planned_at q skeletons wanted m) (planned_in q skeletons wanted more) p among) [
      | inl here ↦ parts_only q.units m (slice_get q.units m) (slice_get skeletons m) (slice_get wanted m) p refl here
      | inr later ↦ only_units q skeletons wanted more p later
    ]

-- ---- providers first

-- none of its providers is a number itself or stands behind it
abbrev NoneBehind : List (List ℕ) → List ℕ → Type 0
NoneBehind edges [] = Unit {0}
NoneBehind edges (m ∷ more) =
    ((v : ℕ) → Contains (providers edges m) v → Member (m ∷ more) v → ⊥) × NoneBehind edges more

order_at : (order : List Placed) (v : ℕ) (d : Placed) → Member (map (λ (q : Placed). q.unit) order) v
    → (k : ℕ) × (k < length order) × ((get_or order k d).unit ≡ v)
order_at [] v d among = absurd among
order_at (x ∷ order) v d (inl same) = (zero, omega arith, same)
order_at (x ∷ order) v d (inr later) =
    let rest = order_at order v d later in let within = rest.1 in (suc rest.0, omega (arith, within), rest.2)

none_behind : (edges : List (List ℕ)) (order : List Placed) → AreProvidersFirst edges order
    → NoneBehind edges (map (λ (q : Placed). q.unit) order)
none_behind edges [] first = tt
none_behind edges (x ∷ order) first = (
  λ v provides among.
      let at = order_at (x ∷ order) v x among in
      let early : at.0 < 0 =
      first zero at.0 x (omega arith) at.1 (subst (Contains (providers edges x.unit)) (sym at.2) provides) in
      absurd (omega (arith, early)),
  none_behind edges order (λ user provider d here there provides.
      let later = first (suc user) (suc provider) d (omega (arith, here)) (omega (arith, there)) provides in
      omega (arith, later)),
)

-- of none of the names that a unit wants the provider is among these
abbrev ProvidersAway : List ProjectUnit → List Wanted → List PlannedUnit → Type 0
ProvidersAway units names planned =
    All (λ (w : Wanted). AllByRecursion (λ (q : PlannedUnit). q.unit ≢ name_in (slice_get units w.provider)) planned)
    names

body_before : (units : List ProjectUnit) (name : List ℕ) (b : UnitBody) (skeleton : Skeleton) (names : List Wanted)
    (rest : List PlannedUnit) → ProvidersAway units names (of_body units name b skeleton names ++ rest)
    → AreProvidersBefore rest → AreProvidersBefore (of_body units name b skeleton names ++ rest)
body_before units name (body.Source options source) skeleton names rest away before = (
  All-map (λ (w : WantedName). AllByRecursion (λ (q : PlannedUnit). q.unit ≢ w.provider)
      (source_unit units name options source skeleton names ∷ rest)) (wanted_name units) names away,
  before,
)
body_before units name (body.Frozen imports interface code) skeleton names rest away before = before

parts_before : (units : List ProjectUnit) (o : Option ProjectUnit) (s : Option Skeleton) (w : Option (List Wanted))
    (rest : List PlannedUnit)
    → ((names : List Wanted) → w ≡ Some names → ProvidersAway units names (of_parts units o s w ++ rest))
    → AreProvidersBefore rest → AreProvidersBefore (of_parts units o s w ++ rest)
parts_before units (Some unit) (Some skeleton) (Some names) rest away before =
    body_before units unit.name unit.body skeleton names rest (away names refl) before
parts_before units (Some unit) (Some skeleton) None rest away before = before
parts_before units (Some unit) None w rest away before = before
parts_before units None s w rest away before = before

named_at : (units : List ProjectUnit) (v : ℕ) → v < length units
    → slice_get (map (λ (u : ProjectUnit). u.name) units) v ≡ Some (name_in (slice_get units v))
named_at [] v within = absurd (omega (arith, within))
named_at (u ∷ us) zero within = refl
named_at (u ∷ us) (suc v) within = named_at us v (omega (arith, within))

-- the providers of a unit are those of its names
edge_at : (wanted : List (List Wanted)) (m k : ℕ) (names : List Wanted) (d : Wanted) → slice_get wanted m ≡ Some names
    → k < length names → Contains (providers (edges_of wanted) m) (get_or names k d).provider
edge_at wanted m k names d is within =
    let v = (get_or names k d).provider in
    let edges : get_or (edges_of wanted) m [] ≡ providers_of names =
    get_or_from_slice_get (edges_of wanted) m (providers_of names) []
    (slice_get-map providers_of wanted m ∙ ap (option_map providers_of) is) in
    let counted = length-map names (λ (w : Wanted). w.provider) in
    subst (λ l. Contains l v) (sym edges)
    (k, omega (arith, within, counted), get_or-map (λ (w : Wanted). w.provider) names k d v within)

names_away : (p : Project) (skeletons : List Skeleton) (wanted : List (List Wanted)) (m : ℕ) (more : List ℕ)
    (names : List Wanted) → AllDiffer (unit_names p) → AreProvided p wanted → slice_get wanted m ≡ Some names
    → ((v : ℕ) → Contains (providers (edges_of wanted) m) v → Member (m ∷ more) v → ⊥)
    → ProvidersAway p.units names (planned_in p skeletons wanted (m ∷ more))
names_away p skeletons wanted m more names differ provided is behind k d within =
    let v = (get_or names k d).provider in
    let below : v < length p.units =
    subst (λ (list : List Wanted). All (λ (w : Wanted). w.provider < length p.units) list)
    (get_or_from_slice_get wanted m names names is)
    (provided m names (slice_get_within wanted m names is)) k d within in
    others p skeletons wanted v (name_in (slice_get p.units v)) (m ∷ more) differ (named_at p.units v below)
    (behind v (edge_at wanted m k names d is within))

each_before : (p : Project) (skeletons : List Skeleton) (wanted : List (List Wanted)) (numbers : List ℕ)
    → AllDiffer (unit_names p) → AreProvided p wanted → NoneBehind (edges_of wanted) numbers
    → AreProvidersBefore (planned_in p skeletons wanted numbers)
each_before p skeletons wanted [] differ provided behind = tt
each_before p skeletons wanted (m ∷ more) differ provided behind =
    parts_before p.units (slice_get p.units m) (slice_get skeletons m) (slice_get wanted m)
    (planned_in p skeletons wanted more)
    (λ names is. names_away p skeletons wanted m more names differ provided is behind.0)
    (each_before p skeletons wanted more differ provided behind.1)

-- ---- all of it

pub takes_each : BuildsTakeEachSource
takes_each p plan formed is =
    let numbers = map (λ (q : Placed). q.unit) plan.order in
    record {
      each = λ unit among source. each_taken p plan unit is among source;
      only = λ planned among. only_units p plan.skeletons plan.wanted numbers planned among;
      once = planned_differ p plan.skeletons plan.wanted plan.order formed is.ordered.whole;
      before = each_before p plan.skeletons plan.wanted numbers formed.names is.providers
          (none_behind (edges_of plan.wanted) plan.order is.ordered.before);
    }
