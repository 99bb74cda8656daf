-- What the store has of a skeleton: in a good one the compiler's; where none was begun nothing.
use Rattle.std.proofs.Common.{◌≡◌, ◌∙◌, sym, ap, ap₂, subst, refl, ℕ, Bool, true, false, not, cond, List, [], ◌∷◌, ◌++◌, map, Option, Some, None, Result, Ok, Err}
use Rattle.std.specs.Prelude.{nat_eq, is_some, filter}
use Rattle.std.specs.FinMap.{get}
use Rattle.std.specs.Cmp.Lexicographic.{pointwise, same_text}
use Rattle.cm_base.specs.Definitions.{Definitions}
use Rattle.cm_base.specs.Files.{Files, HasNoStore, is_stored}
use Rattle.cm_base.specs.declared.diag.Diag.{Diag}
use Rattle.cm_base.specs.declared.record.Skeleton.{Skeleton}
use Rattle.cm_description.specs.declared.loaded.Project.{Project}
use Rattle.cm_description.specs.declared.loaded.Unit.{Unit as ProjectUnit}
use Rattle.cm_description.specs.declared.loaded.UnitBody.{UnitBody}
use Rattle.cm_description.specs.declared.loaded.UnitBody.TheVariants as body
use Rattle.bin_formats.specs.declared.bin.Bin.{Bin}
use Rattle.bin_store.specs.GoodStore.{IsGoodStore}
use Rattle.bin_store.specs.Paths.{bin_path}
use Rattle.bin_store.specs.Stored.{bin_found, stored_bin}
use Rattle.bin_store.proofs.Elsewhere.{bin_stored}
use Rattle.bin_store.proofs.StoredBins.{bin_unit, good_bin_stored}
use Rattle.skeleton_asking.specs.Skeletons.{Answer, Skeletons, after_answer, answer_over, answer_to, ask_for, asked_in, at_hand, empty_skeleton, is_unread, plain_in, plain_over, skeleton_of_source, skeletons_by, skeletons_in, skeletons_of, skeletons_over, stored_skeleton, then_skeletons, unless_refused, unless_stored, up_to_refused}

-- ---- a skeleton out of a binfile

record TakenFrom (source : List ℕ) (found : Option Bin) (skeleton : Skeleton) : Type 0 where
  pub bin : Bin
  pub there : found ≡ Some bin
  pub source_is : bin.source ≡ source
  pub skeleton_is : bin.skeleton ≡ skeleton

by_test : (b : Bool) (bin : Bin) (source : List ℕ) (skeleton : Skeleton) → pointwise nat_eq bin.source source ≡ b
    → cond b (Some bin.skeleton) None ≡ Some skeleton → TakenFrom source (Some bin) skeleton
by_test true bin source skeleton same e =
    record { bin = bin; there = refl; source_is = same_text bin.source source (sym same); skeleton_is = cc }
by_test false bin source skeleton same e = absurd cc

taken_from : (source : List ℕ) (found : Option Bin) (skeleton : Skeleton)
    → skeleton_of_source source found ≡ Some skeleton → TakenFrom source found skeleton
taken_from source None skeleton e = absurd cc
taken_from source (Some bin) skeleton e = by_test (pointwise nat_eq bin.source source) bin source skeleton refl e

-- in a good store it is the compiler's
stored_is : (by : Definitions) (texts : List (List ℕ)) (files : Files) (unit source : List ℕ) (skeleton : Skeleton)
    → IsGoodStore by texts files → stored_skeleton files unit source ≡ Some skeleton → by.skel unit source ≡ Ok skeleton
unfolding stored_skeleton
stored_is by texts files unit source skeleton good e =
    let found = taken_from source (stored_bin files unit) skeleton e in
    let is = (good_bin_stored by texts files unit found.bin good found.there).good in
    let unit_is : is.input.unit ≡ unit =
    sym (ap (λ (b : Bin). b.unit) is.bin_is) ∙ bin_unit files unit found.bin found.there in
    let source_is : is.input.source ≡ source = sym (ap (λ (b : Bin). b.source) is.bin_is) ∙ found.source_is in
    let same : is.skeleton ≡ skeleton = sym (ap (λ (b : Bin). b.skeleton) is.bin_is) ∙ found.skeleton_is in
    ap₂ by.skel (sym unit_is) (sym source_is) ∙ is.skeleton_is ∙ ap Ok same

-- ---- the units of a project

abbrev names_of : (ProjectUnit → Bool) → List ProjectUnit → List (List ℕ)
names_of p units = map (λ (unit : ProjectUnit). unit.name) (filter p units)

first_in : (p : ProjectUnit → Bool) (unit : ProjectUnit) (units : List ProjectUnit) → p unit ≡ true
    → names_of p (unit ∷ units) ≡ unit.name ∷ names_of p units
first_in p unit units is = rw is refl

first_out : (p : ProjectUnit → Bool) (unit : ProjectUnit) (units : List ProjectUnit) → p unit ≡ false
    → names_of p (unit ∷ units) ≡ names_of p units
first_out p unit units is = rw is refl

abbrev with_asked : Skeletons → List (List ℕ) → Skeletons
with_asked all asked = record { found = all.found; ended = all.ended; asked = asked }

-- a unit whose skeleton is stored only where the compiler gives the same
unit_same : (p : ProjectUnit → Bool) (unit : ProjectUnit) (stored : Option Skeleton) (given : Result Skeleton Diag)
    (asked : List (List ℕ)) (over plain : Skeletons) (tail : List ProjectUnit)
    → ((skeleton : Skeleton) → stored ≡ Some skeleton → given ≡ Ok skeleton) → p unit ≡ not (is_some stored)
    → over ≡ with_asked plain (names_of p tail)
    → after_answer (unless_stored stored (record { gives = given; asked = unit.name ∷ [] })) over
    ≡ with_asked (then_skeletons asked given plain) (names_of p (unit ∷ unless_refused given tail))
unit_same p unit None (Ok skeleton) asked over plain tail same unread rest =
    ap (then_skeletons (unit.name ∷ []) (Ok skeleton)) rest
    ∙ ap (with_asked (then_skeletons asked (Ok skeleton) plain)) (sym (first_in p unit tail unread))
unit_same p unit None (Err diag) asked over plain tail same unread rest =
    ap (with_asked (then_skeletons asked (Err diag) plain)) (sym (first_in p unit [] unread))
unit_same p unit (Some skeleton) given asked over plain tail same unread rest =
    let is = same skeleton refl in
    subst (λ (g : Result Skeleton Diag). after_answer (at_hand skeleton) over
    ≡ with_asked (then_skeletons asked g plain) (names_of p (unit ∷ unless_refused g tail))) (sym is)
    (ap (then_skeletons [] (Ok skeleton)) rest
    ∙ ap (with_asked (then_skeletons asked (Ok skeleton) plain)) (sym (first_out p unit tail unread)))

body_same : (by : Definitions) (texts : List (List ℕ)) (files : Files) (p : ProjectUnit → Bool) (unit : ProjectUnit)
    (b : UnitBody) (over plain : Skeletons) (tail : List ProjectUnit) → IsGoodStore by texts files
    → p unit ≡ is_unread files unit.name b → over ≡ with_asked plain (names_of p tail)
    → after_answer (answer_over by.skel files unit.name b) over
    ≡ with_asked (after_answer (answer_to by.skel unit.name b) plain)
    (names_of p (unit ∷ unless_refused (answer_to by.skel unit.name b).gives tail))
body_same by texts files p unit (body.Source options source) over plain tail good unread rest =
    unit_same p unit (stored_skeleton files unit.name source) (by.skel unit.name source) (unit.name ∷ []) over plain
    tail (λ skeleton is. stored_is by texts files unit.name source skeleton good is) unread rest
body_same by texts files p unit (body.Frozen imports interface code) over plain tail good unread rest =
    unit_same p unit (Some empty_skeleton) (Ok empty_skeleton) [] over plain tail (λ skeleton is. ap unwrapped is)
    unread rest
  where
    unwrapped : Option Skeleton → Result Skeleton Diag
    unwrapped (Some skeleton) = Ok skeleton
    unwrapped None = Ok empty_skeleton

units_same : (by : Definitions) (texts : List (List ℕ)) (files : Files) (units : List ProjectUnit)
    → IsGoodStore by texts files → skeletons_by (answer_over by.skel files) units ≡ plain_in by.skel files units
units_same by texts files [] good = refl
units_same by texts files (unit ∷ units) good =
    body_same by texts files (λ (u : ProjectUnit). is_unread files u.name u.body) unit unit.body
    (skeletons_by (answer_over by.skel files) units) (skeletons_in by.skel units) (up_to_refused by.skel units) good
    refl (units_same by texts files units good)

pub stored_same : (by : Definitions) (texts : List (List ℕ)) (files : Files) (project : Project)
    → IsGoodStore by texts files → skeletons_over by.skel files project ≡ plain_over by.skel files project
stored_same by texts files project good = units_same by texts files project.units good

-- ---- where no store was begun

none_stored : (files : Files) (unit : List ℕ) → HasNoStore files → stored_bin files unit ≡ None
unfolding stored_bin
none_stored files unit none = by_file (get files (bin_path unit)) refl
  where
    by_file : (file : Option (List ℕ)) → get files (bin_path unit) ≡ file → bin_found unit file ≡ None
    by_file None is = refl
    by_file (Some bytes) is =
        let outside = none.none (bin_path unit) bytes is in
        let inside = bin_stored unit in
        absurd (let bad : true ≡ false = sym inside ∙ outside in cc)

none_there : (files : Files) (unit source : List ℕ) → HasNoStore files → stored_skeleton files unit source ≡ None
unfolding stored_skeleton
none_there files unit source none = ap (skeleton_of_source source) (none_stored files unit none)

answer_same : (skel : List ℕ → List ℕ → Result Skeleton Diag) (files : Files) (name : List ℕ) (b : UnitBody)
    → HasNoStore files → answer_over skel files name b ≡ answer_to skel name b
answer_same skel files name (body.Source options source) none =
    ap (λ (stored : Option Skeleton). unless_stored stored (ask_for skel name source))
    (none_there files name source none)
answer_same skel files name (body.Frozen imports interface code) none = refl

each_same : (skel : List ℕ → List ℕ → Result Skeleton Diag) (files : Files) (units : List ProjectUnit)
    → HasNoStore files → skeletons_by (answer_over skel files) units ≡ skeletons_in skel units
each_same skel files [] none = refl
each_same skel files (unit ∷ units) none =
    ap₂ after_answer (answer_same skel files unit.name unit.body none) (each_same skel files units none)

pub all_asked : (skel : List ℕ → List ℕ → Result Skeleton Diag) (files : Files) (project : Project) → HasNoStore files
    → skeletons_over skel files project ≡ skeletons_of skel project
all_asked skel files project none = each_same skel files project.units none
