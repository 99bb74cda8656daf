-- The store's formats can hold the units that a build takes of short ones.
use Rattle.std.proofs.Common.{◌≡◌, sym, subst, refl, ℕ, ◌<◌, ◌^◌, List, [], ◌∷◌, ◌++◌, length, map, Option, Some, None, arith}
use Rattle.std.specs.Prelude.{All, slice_get}
use Rattle.std.specs.List.{AllByRecursion}
use Rattle.std.proofs.lemmas.List.{length-map}
use Rattle.std.proofs.lemmas.List.Elements.{All-head, All-tail}
use Rattle.std.proofs.lemmas.Option.{get_or_from_slice_get, slice_get_within}
use Rattle.cm_base.specs.declared.record.Skeleton.{Skeleton}
use Rattle.cm_description.specs.declared.loaded.Project.{Project}
use Rattle.cm_description.specs.declared.loaded.Unit.{Unit as ProjectUnit}
use Rattle.cm_description.specs.declared.loaded.UnitBody.{UnitBody}
use Rattle.cm_description.specs.declared.loaded.UnitBody.TheVariants as body
use Rattle.cm_description.specs.declared.loaded.Wanted.{Wanted}
use Rattle.dependency_graph.specs.Order.{Placed}
use Rattle.skeleton_asking.specs.Short.{IsShortSkeleton}
use Rattle.build_laws.specs.Storing.{IsShortWanted, IsSmallPlanned}
use Rattle.cutoff_builder.specs.Planning.{name_in, of_body, of_parts, planned_at, planned_in, planned_of, wanted_name}
use Rattle.cutoff_builder.specs.Small.{AreShortNames, IsShortBody, IsShortUnit}

-- ---- what stands at a place

item_of : {A : Type 0} (P : A → Type 0) (xs : List A) (i : ℕ) (x : A) → All P xs → slice_get xs i ≡ Some x → P x
item_of P xs i x all is = subst P (get_or_from_slice_get xs i x x is) (all i x (slice_get_within xs i x is))

name_is : (units : List ProjectUnit) (i : ℕ) (o : Option ProjectUnit) → All IsShortUnit units
    → slice_get units i ≡ o → length (name_in o) < 2 ^ 32
name_is units i None all is = omega arith
name_is units i (Some unit) all is = (item_of IsShortUnit units i unit all is).name

-- ---- a unit that a build takes

wanted_are : (units : List ProjectUnit) (ws : List Wanted) → All IsShortUnit units
    → All (λ (w : Wanted). length w.name.name < 2 ^ 32) ws → AllByRecursion IsShortWanted (map (wanted_name units) ws)
wanted_are units [] all each = tt
wanted_are units (w ∷ ws) all each = (
  record {
    name = All-head (λ (w : Wanted). length w.name.name < 2 ^ 32) w ws each;
    provider = name_is units w.provider (slice_get units w.provider) all refl;
  },
  wanted_are units ws all (All-tail (λ (w : Wanted). length w.name.name < 2 ^ 32) w ws each),
)

body_small : (units : List ProjectUnit) (name : List ℕ) (b : UnitBody) (skeleton : Skeleton) (wanted : List Wanted)
    → All IsShortUnit units → length name < 2 ^ 32 → IsShortBody b → IsShortSkeleton skeleton
    → AreShortNames wanted → AllByRecursion IsSmallPlanned (of_body units name b skeleton wanted)
body_small units name (body.Source options source) skeleton wanted all named short small names = (
  record {
    unit = named;
    source = short;
    defined = small.defined;
    each_defined = small.each_defined;
    free = small.free;
    each_free = small.each_free;
    wanted = subst (λ n. n < 2 ^ 32) (sym (length-map wanted (wanted_name units))) names.count;
    each_wanted = wanted_are units wanted all names.each;
  },
  tt,
)
body_small units name (body.Frozen imports interface code) skeleton wanted all named short small names = tt

parts_small : (units : List ProjectUnit) (skeletons : List Skeleton) (wanted : List (List Wanted)) (number : ℕ)
    (o : Option ProjectUnit) (s : Option Skeleton) (w : Option (List Wanted)) → All IsShortUnit units
    → All IsShortSkeleton skeletons → All AreShortNames wanted → slice_get units number ≡ o
    → slice_get skeletons number ≡ s → slice_get wanted number ≡ w
    → AllByRecursion IsSmallPlanned (of_parts units o s w)
parts_small units skeletons wanted number (Some unit) (Some skeleton) (Some names) all short each here with these =
    let is = item_of IsShortUnit units number unit all here in
    body_small units unit.name unit.body skeleton names all is.name is.body
    (item_of IsShortSkeleton skeletons number skeleton short with)
    (item_of AreShortNames wanted number names each these)
parts_small units skeletons wanted number (Some unit) (Some skeleton) None all short each here with these = tt
parts_small units skeletons wanted number (Some unit) None w all short each here with these = tt
parts_small units skeletons wanted number None s w all short each here with these = tt

-- ---- all of them

all_append : {A : Type 0} (P : A → Type 0) (xs ys : List A) → AllByRecursion P xs → AllByRecursion P ys
    → AllByRecursion P (xs ++ ys)
all_append P [] ys all more = more
all_append P (x ∷ xs) ys all more = (all.0, all_append P xs ys all.1 more)

each_small : (p : Project) (skeletons : List Skeleton) (wanted : List (List Wanted)) (numbers : List ℕ)
    → All IsShortUnit p.units → All IsShortSkeleton skeletons → All AreShortNames wanted
    → AllByRecursion IsSmallPlanned (planned_in p skeletons wanted numbers)
each_small p skeletons wanted [] all short each = tt
each_small p skeletons wanted (number ∷ more) all short each =
    all_append IsSmallPlanned (planned_at p skeletons wanted number) (planned_in p skeletons wanted more)
    (parts_small p.units skeletons wanted number (slice_get p.units number) (slice_get skeletons number)
    (slice_get wanted number) all short each refl refl refl)
    (each_small p skeletons wanted more all short each)

pub all_small : (p : Project) (skeletons : List Skeleton) (wanted : List (List Wanted)) (order : List Placed)
    → All IsShortUnit p.units → All IsShortSkeleton skeletons → All AreShortNames wanted
    → AllByRecursion IsSmallPlanned (planned_of p skeletons wanted order)
all_small p skeletons wanted order all short each =
    each_small p skeletons wanted (map (λ (placed : Placed). placed.unit) order) all short each
