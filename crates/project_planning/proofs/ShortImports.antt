-- What units import are names that their skeletons use, so of short skeletons these names are short.
use Rattle.std.proofs.Common.{arith, suc, ◌≡◌, subst, refl, ℕ, ◌<◌, ◌≤◌, ◌^◌, Bool, true, false, not, ◌&&◌, ◌||◌, cond, List, [], ◌∷◌, ◌++◌, length, length-append, slice_get, Option, Some, None, unwrap_or, Result, Ok, Err}
use Rattle.std.specs.Prelude.{All, slice_set}
use Rattle.std.proofs.lemmas.List.Elements.{All-nil, All-push, All-append, All-head, All-map, All-set, All-tail}
use Rattle.std.proofs.lemmas.Option.{get_or_from_slice_get, slice_get_within}
use Rattle.cm_base.specs.Diags.{◌>>=◌}
use Rattle.cm_base.specs.declared.diag.Diag.{Diag}
use Rattle.cm_base.specs.declared.diag.Place.{Place}
use Rattle.cm_base.specs.declared.record.Def.{Def}
use Rattle.cm_base.specs.declared.record.Need.{Need}
use Rattle.cm_base.specs.declared.record.Skeleton.{Skeleton}
use Rattle.cm_description.specs.declared.loaded.Export.{Export}
use Rattle.cm_description.specs.declared.loaded.Project.{Project}
use Rattle.cm_description.specs.declared.loaded.Unit.{Unit as ProjectUnit}
use Rattle.cm_description.specs.declared.loaded.Wanted.{Wanted}
use Rattle.bin_formats.specs.Format.{IsSpot}
use Rattle.visibility.specs.BuiltIn.{is_built_in}
use Rattle.visibility.specs.Exports.{exports_of}
use Rattle.visibility.specs.Imports.{collected, import_by, imports_in, sees_basis}
use Rattle.visibility.specs.Naming.{importing, names, names_of, no_imports, with_groups, with_imports}
use Rattle.visibility.specs.Projects.{name_refused, no_names, skeleton_of, spot_place, unit_file}
use Rattle.visibility.specs.Providers.{provider_in}
use Rattle.visibility.specs.declared.found.Found.{Found}
use Rattle.visibility.specs.declared.found.Found.TheVariants as found
use Rattle.visibility.specs.declared.names.Names.{Names}
use Rattle.skeleton_asking.specs.Short.{IsShortSkeleton}
use Rattle.cutoff_builder.specs.Small.{AreShortNames}
use Rattle.project_planning.proofs.Providers.{then_step}

abbrev IsShortName : Wanted → Type 0
IsShortName w = length w.name.name < 2 ^ 32

-- ---- the imports of one unit

-- no more than so many wanted names, each of them short
record AreFew (n : ℕ) (wanted : List Wanted) : Type 0 where
  pub count : length wanted ≤ n
  pub each : All IsShortName wanted

none_are_few : (n : ℕ) (list : List Wanted) → ◌≡◌ {A = Result (List Wanted) Diag} (Ok []) (Ok list) → AreFew n list
none_are_few n list is =
    let same : ◌≡◌ {A = List Wanted} [] list = cc in
    subst (AreFew n) same (record { count = omega arith; each = All-nil IsShortName })

nothing_or : (b : Bool) (diag : Diag) (list : List Wanted)
    → ◌≡◌ {A = Result (List Wanted) Diag} (cond b (Ok []) (Err diag)) (Ok list) → AreFew 1 list
nothing_or true diag list is = none_are_few 1 list is
nothing_or false diag list is = cc

refused_or : (b : Bool) (diag : Diag) (list : List Wanted)
    → ◌≡◌ {A = Result (List Wanted) Diag} (cond b (Err diag) (Ok [])) (Ok list) → AreFew 1 list
refused_or true diag list is = cc
refused_or false diag list is = none_are_few 1 list is

one_import : (basis : Bool) (at : Place) (need : Need) (f : Found) (list : List Wanted) → IsSpot need.spot
    → import_by basis at need f ≡ Ok list → AreFew 1 list
one_import basis at need (found.One v) list spot is =
    let item : Wanted = record { name = need.spot.name; provider = v } in
    let same : (item ∷ []) ≡ list = cc in
    subst (AreFew 1) same
    (record { count = omega arith; each = All-push IsShortName [] item (All-nil IsShortName) spot.name })
one_import basis at need found.Several list spot is =
    refused_or need.sure (name_refused 23 at need.spot.name) list is
one_import basis at need found.Missing list spot is =
    nothing_or (not need.sure || (basis && is_built_in need.spot.name)) (name_refused 24 at need.spot.name) list is

one_more : (n : ℕ) (a b : Result (List Wanted) Diag) (list : List Wanted)
    → ((here : List Wanted) → a ≡ Ok here → AreFew 1 here) → ((more : List Wanted) → b ≡ Ok more → AreFew n more)
    → (a >>= (λ here. b >>= (λ more. Ok (here ++ more)))) ≡ Ok list → AreFew (suc n) list
one_more n (Ok here) (Ok more) list first rest is =
    let same : here ++ more ≡ list = cc in
    let one = first here refl in
    let others = rest more refl in
    let few = one.count in
    let fewer = others.count in
    subst (AreFew (suc n)) same (record {
      count = omega (arith, length-append here more, few, fewer);
      each = All-append IsShortName here more one.each others.each;
    })
one_more n (Ok here) (Err diag) list first rest is = cc
one_more n (Err diag) b list first rest is = cc

all_imports : (step : Need → Result (List Wanted) Diag)
    → ((need : Need) (list : List Wanted) → IsSpot need.spot → step need ≡ Ok list → AreFew 1 list)
    → (needs : List Need) (list : List Wanted) → All (λ (need : Need). IsSpot need.spot) needs
    → collected step needs ≡ Ok list → AreFew (length needs) list
all_imports step each [] list spots is = none_are_few 0 list is
all_imports step each (need ∷ needs) list spots is =
    one_more (length needs) (step need) (collected step needs) list
    (λ here gives. each need here (All-head (λ (n : Need). IsSpot n.spot) need needs spots) gives)
    (λ more gives. all_imports step each needs more (All-tail (λ (n : Need). IsSpot n.spot) need needs spots) gives) is

-- ---- skeletons

no_names_short : IsShortSkeleton no_names
no_names_short = record {
  defined = omega arith;
  each_defined = All-nil IsSpot;
  free = omega arith;
  each_free = All-nil (λ (need : Need). IsSpot need.spot);
}

at_or_none : (skeletons : List Skeleton) (u : ℕ) (o : Option Skeleton) → All IsShortSkeleton skeletons
    → slice_get skeletons u ≡ o → IsShortSkeleton (unwrap_or o no_names)
at_or_none skeletons u None all is = no_names_short
at_or_none skeletons u (Some skeleton) all is =
    subst IsShortSkeleton (get_or_from_slice_get skeletons u skeleton skeleton is)
    (all u skeleton (slice_get_within skeletons u skeleton is))

unit_skeleton : (skeletons : List Skeleton) (u : ℕ) → All IsShortSkeleton skeletons
    → IsShortSkeleton (skeleton_of skeletons u)
unit_skeleton skeletons u all = at_or_none skeletons u (slice_get skeletons u) all refl

imports_short : (p : Project) (skeletons : List Skeleton) (below : List (List Export)) (g u : ℕ) (list : List Wanted)
    → All IsShortSkeleton skeletons → imports_in p skeletons below g u ≡ Ok list → AreShortNames list
imports_short p skeletons below g u list all is =
    let skeleton = skeleton_of skeletons u in
    let short = unit_skeleton skeletons u all in
    let few = all_imports
    (λ (need : Need). import_by (sees_basis p u) (spot_place (unit_file p u) need.spot) need
    (provider_in p skeletons below g u need.spot.name))
    (λ need some spot gives. one_import (sees_basis p u) (spot_place (unit_file p u) need.spot) need
    (provider_in p skeletons below g u need.spot.name) some spot gives) skeleton.free list short.each_free is in
    let count = few.count in
    let free = short.free in
    record { count = omega (arith, count, free); each = few.each }

-- ---- all names

none_short : AreShortNames []
none_short = record { count = omega arith; each = All-nil IsShortName }

imported : (imports : ℕ → Result (List Wanted) Diag)
    → ((u : ℕ) (list : List Wanted) → imports u ≡ Ok list → AreShortNames list) → (units : List ℕ)
    → (old new : List (List Wanted)) → All AreShortNames old → with_imports imports units old ≡ Ok new
    → All AreShortNames new
imported imports each [] old new all is = let same : old ≡ new = cc in subst (All AreShortNames) same all
imported imports each (u ∷ units) old new all is =
    then_step (imports u) (λ these. with_imports imports units (slice_set old u these)) new (All AreShortNames new)
    (λ list gives more. imported imports each units (slice_set old u list) new
    (All-set AreShortNames old u list (each u list gives) all) more) is

named : (p : Project) (skeletons : List Skeleton) (defs : List Def) (groups : List ℕ) (so_far all : Names)
    → All IsShortSkeleton skeletons → All AreShortNames so_far.wanted
    → with_groups p skeletons defs groups so_far ≡ Ok all → All AreShortNames all.wanted
named p skeletons defs [] so_far all short these is =
    let same : so_far ≡ all = cc in subst (λ (n : Names). All AreShortNames n.wanted) same these
named p skeletons defs (g ∷ groups) so_far all short these is =
    then_step (exports_of p skeletons defs g so_far.exports)
    (λ e. with_imports (imports_in p skeletons so_far.exports g) (importing p g) so_far.wanted
    >>= (λ w. with_groups p skeletons defs groups (names (so_far.exports ++ e ∷ []) w))) all
    (All AreShortNames all.wanted)
    (λ e gives rest.
    then_step (with_imports (imports_in p skeletons so_far.exports g) (importing p g) so_far.wanted)
    (λ w. with_groups p skeletons defs groups (names (so_far.exports ++ e ∷ []) w)) all (All AreShortNames all.wanted)
    (λ w set more. named p skeletons defs groups (names (so_far.exports ++ e ∷ []) w) all short
    (imported (imports_in p skeletons so_far.exports g)
    (λ u list found. imports_short p skeletons so_far.exports g u list short found)
    (importing p g) so_far.wanted w these set) more) rest) is

-- of short skeletons all wanted names are short
pub names_short : (p : Project) (skeletons : List Skeleton) (defs : List Def) (all : Names)
    → All IsShortSkeleton skeletons → names_of p skeletons defs ≡ Ok all → All AreShortNames all.wanted
names_short p skeletons defs all short is =
    named p skeletons defs p.finished (names [] (no_imports p)) all short
    (All-map AreShortNames (λ (unit : ProjectUnit). []) p.units (λ k d lt. none_short)) is
