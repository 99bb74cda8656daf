-- What a build over a good store gives and leaves, also where it was cut off: a good store, in which the plain build's
-- paths alone have changed.
use Rattle.std.proofs.Common.{◌≡◌, ◌≢◌, ◌∙◌, sym, ap, ap₂, subst, refl, inl, inr, ℕ, Bool, true, false, cond, List, [], ◌∷◌, ◌++◌, Option, Some, None, map, arith, append_assoc}
use Rattle.std.specs.Prelude.{Result, Ok, Err, Contains}
use Rattle.std.specs.List.{AllByRecursion}
use Rattle.std.specs.FinMap.{get, insert}
use Rattle.std.proofs.lemmas.List.Elements.{Contains-append_left, Contains-append_right}
use Rattle.cm_base.specs.Definitions.{Definitions}
use Rattle.cm_base.specs.Diags.{whole_file}
use Rattle.cm_base.specs.Files.{Files}
use Rattle.cm_base.specs.Keeping.{Keeps}
use Rattle.cm_base.specs.declared.diag.Diag.{Diag}
use Rattle.cm_base.specs.declared.record.CompileInput.{CompileInput}
use Rattle.cm_base.specs.declared.record.Compiled.{Compiled}
use Rattle.cm_base.specs.declared.record.How.TheVariants as how
use Rattle.cm_base.specs.declared.record.BuiltUnit.{BuiltUnit}
use Rattle.cm_base.specs.declared.record.PlannedUnit.{PlannedUnit}
use Rattle.cm_base.proofs.FileLemmas.{get-insert_other}
use Rattle.cm_bytes.specs.Hashes.{hash_of, HashesApart}
use Rattle.bin_formats.specs.Format.{binfile, interface_file}
use Rattle.bin_store.specs.GoodStore.{IsGoodStore, StoreIsGood}
use Rattle.bin_store.specs.Paths.{bin_path, interface_path}
use Rattle.bin_store.proofs.GoodAfter.{store_is_good, store_same}
use Rattle.build_laws.specs.CutBuild.{Cut, turn, turn_by, compiled_turn, cut_build}
use Rattle.build_laws.specs.Inputs.{givens_of, input_after, interface_bytes, is_too_large, built_unit}
use Rattle.build_laws.specs.Left.{NextUnit, LeftByCut}
use Rattle.build_laws.specs.PlainBuild.{PlainUnit, Build, compiled_unit, compiled_units, plain_unit, unit_after, then_build, build_after, plain_build}
use Rattle.build_laws.specs.Planned.{interfaces_of, paths_of, NamesDiffer, ArePlanned}
use Rattle.build_laws.specs.Stale.{loaded_for}
use Rattle.build_laws.specs.Storing.{bin_of_unit, with_unit, with_units, unit_paths, IsSmallPlanned, StoresUnit}
use Rattle.build_laws.proofs.Building.{plain, IsPlain, AsAtEntry, cut_is_plain, input_plain, bytes_plain}
use Rattle.build_laws.proofs.Fresh.{loaded_how}
use Rattle.build_laws.proofs.Fronts.{plain_append, plain_front, units_on}
use Rattle.build_laws.proofs.Made.{IsKnownUnit, IsMade, made_unit, givens_known, within, good_stored}
use Rattle.build_laws.proofs.Outside.{stored_outside}

-- ---- what the compiler's answer gives

pub record UnitAnswers (n : ℕ) (input : CompileInput) (answer : Result Compiled Diag) (v : PlainUnit) : Type 0 where
  pub answers : answer ≡ Ok v.made
  pub input_is : v.input ≡ input
  pub fits : is_too_large n v.made ≡ false

pub unit_answers : (n : ℕ) (input : CompileInput) (answer : Result Compiled Diag) (v : PlainUnit)
    → plain_unit n input answer ≡ Ok v → UnitAnswers n input answer v
unit_answers n input (Err d) v is = cc
unit_answers n input (Ok made) v is = sized (is_too_large n made) refl is
  where
    sized : (large : Bool) → is_too_large n made ≡ large
        → ◌≡◌ {A = Result PlainUnit Diag} (cond large (Err (whole_file 12 input.unit)) (Ok (record { input = input; made = made }))) (Ok v)
        → UnitAnswers n input (Ok made) v
    sized true size is = cc
    sized false size is =
        let same : ◌≡◌ {A = PlainUnit} (record { input = input; made = made }) v = cc in
        subst (UnitAnswers n input (Ok made)) same (record { answers = refl; input_is = refl; fits = size })

-- a unit that a turn gives as compiled is the compiler's
compiled_is : (compiled : CompileInput → Result Compiled Diag) (files : Files) (bs : List BuiltUnit) (p : PlannedUnit) (u : BuiltUnit)
    → (turn compiled files bs p).gives ≡ Ok u → u.how ≡ how.Compiled
    → (v : PlainUnit) × (plain_unit (interface_bytes bs) (input_after bs p) (compiled (input_after bs p)) ≡ Ok v) × (compiled_unit v ≡ u)
compiled_is compiled files bs p u gives came = by_loaded (loaded_for files (input_after bs p)) refl gives
  where
    by_size : (w : BuiltUnit) (large : Bool) → w.how ≡ how.Loaded
        → ◌≡◌ {A = Result BuiltUnit Diag} (cond large (Err (whole_file 12 w.unit)) (Ok w)) (Ok u)
        → (v : PlainUnit) × (plain_unit (interface_bytes bs) (input_after bs p) (compiled (input_after bs p)) ≡ Ok v) × (compiled_unit v ≡ u)
    by_size w true other is = cc
    by_size w false other is =
        let same : w ≡ u = cc in
        let bad : how.Loaded ≡ how.Compiled = sym other ∙ ap (λ (b : BuiltUnit). b.how) same ∙ came in cc

    by_answer : (r : Result PlainUnit Diag) → (compiled_turn files p r).gives ≡ Ok u
        → (v : PlainUnit) × (r ≡ Ok v) × (compiled_unit v ≡ u)
    by_answer (Err d) is = cc
    by_answer (Ok v) is = let same : compiled_unit v ≡ u = cc in (v, refl, same)

    by_loaded : (l : Option BuiltUnit) → loaded_for files (input_after bs p) ≡ l
        → (turn_by compiled files (interface_bytes bs) p (input_after bs p) l).gives ≡ Ok u
        → (v : PlainUnit) × (plain_unit (interface_bytes bs) (input_after bs p) (compiled (input_after bs p)) ≡ Ok v) × (compiled_unit v ≡ u)
    by_loaded None is gives = by_answer (plain_unit (interface_bytes bs) (input_after bs p) (compiled (input_after bs p))) gives
    by_loaded (Some w) is gives =
        by_size w (is_too_large (interface_bytes bs) (record { interface = w.interface; code = w.code }))
        (loaded_how files p.unit p.options p.source _ w is) gives

-- ---- the paths that a build changes

paths_append : (us vs : List PlainUnit) → paths_of (us ++ vs) ≡ paths_of us ++ paths_of vs
paths_append [] vs = refl
paths_append (u ∷ us) vs =
    ap (λ l. unit_paths (compiled_unit u) ++ l) (paths_append us vs)
    ∙ sym (append_assoc (unit_paths (compiled_unit u)) (paths_of us) (paths_of vs))

with_outside : (files : Files) (p : PlannedUnit) (u : PlainUnit) (q : List ℕ) → u.input.unit ≡ p.unit
    → (Contains (unit_paths (compiled_unit u)) q → ⊥) → get (with_unit files p (compiled_unit u)) q ≡ get files q
unfolding with_unit
with_outside files p u q name out =
    get-insert_other (insert files (interface_path (hash_of u.made.interface)) (interface_file u.made.interface)) (bin_path p.unit)
    (binfile (bin_of_unit p (compiled_unit u))) q
    (λ same. out (1, omega arith, ap bin_path name ∙ sym same))
    ∙ get-insert_other files (interface_path (hash_of u.made.interface)) (interface_file u.made.interface) q
    (λ same. out (0, omega arith, sym same))

module _ (compiled : CompileInput → Result Compiled Diag) where
  then_outside : (files : Files) (p : PlannedUnit) (ps : List PlannedUnit) (input : CompileInput) (r : Result PlainUnit Diag)
      (rest : PlainUnit → Build) (q : List ℕ)
      → ((u : PlainUnit) → r ≡ Ok u → u.input.unit ≡ p.unit)
      → ((u : PlainUnit) (after : Files) → (Contains (paths_of (rest u).units) q → ⊥)
      → get (with_units after ps (compiled_units (rest u).units)) q ≡ get after q)
      → (Contains (paths_of (then_build input r rest).units) q → ⊥)
      → get (with_units files (p ∷ ps) (compiled_units (then_build input r rest).units)) q ≡ get files q
  then_outside files p ps input (Err d) rest q name more out = refl
  then_outside files p ps input (Ok u) rest q name more out =
      more u (with_unit files p (compiled_unit u))
      (λ h. out (Contains-append_right (unit_paths (compiled_unit u)) (paths_of (rest u).units) q h))
      ∙ with_outside files p u q (name u refl)
      (λ h. out (Contains-append_left (unit_paths (compiled_unit u)) (paths_of (rest u).units) q h))

  pub built_outside : (ps : List PlannedUnit) (us : List PlainUnit) (files : Files) (q : List ℕ)
      → (Contains (paths_of (build_after compiled us ps).units) q → ⊥)
      → get (with_units files ps (compiled_units (build_after compiled us ps).units)) q ≡ get files q
  built_outside [] us files q out = refl
  built_outside (p ∷ ps) us files q out =
      let input = input_after (compiled_units us) p in
      let n = interface_bytes (compiled_units us) in
      then_outside files p ps input (unit_after compiled (compiled_units us) p) (λ u. build_after compiled (us ++ u ∷ []) ps) q
      (λ u is. ap (λ (i : CompileInput). i.unit) (unit_answers n input (compiled input) u is).input_is)
      (λ u after more. built_outside ps (us ++ u ∷ []) after q more) out

-- ---- what holds of the first units, and of the rest

each_front : {A : Type 0} (P : A → Type 0) (xs ys : List A) → AllByRecursion P (xs ++ ys) → AllByRecursion P xs
each_front P [] ys all = tt
each_front P (x ∷ xs) ys all = (all.0, each_front P xs ys all.1)

each_rest : {A : Type 0} (P : A → Type 0) (xs ys : List A) → AllByRecursion P (xs ++ ys) → AllByRecursion P ys
each_rest P [] ys all = all
each_rest P (x ∷ xs) ys all = each_rest P xs ys all.1

names_front : (ps qs : List PlannedUnit) → NamesDiffer (ps ++ qs) → NamesDiffer ps
names_front [] qs differ = tt
names_front (p ∷ ps) qs differ = (each_front (λ (q : PlannedUnit). q.unit ≢ p.unit) ps qs differ.0, names_front ps qs differ.1)

all_entry : (files : Files) (ps : List PlannedUnit) → AsAtEntry files files ps
all_entry files [] = tt
all_entry files (p ∷ ps) = (refl, all_entry files ps)

interfaces_front : (us vs : List PlainUnit) (t : List ℕ) → Contains (interfaces_of us) t → Contains (interfaces_of (us ++ vs)) t
interfaces_front us vs t h = subst (λ l. Contains l t) (sym (join us)) (Contains-append_left (interfaces_of us) (interfaces_of vs) t h)
  where
    join : (xs : List PlainUnit) → interfaces_of (xs ++ vs) ≡ interfaces_of xs ++ interfaces_of vs
    join [] = refl
    join (x ∷ xs) = ap (λ l. x.made.interface ∷ l) (join xs)

-- ---- the theorem of a build

module _ (by : Definitions) (texts : List (List ℕ)) (apart : HashesApart texts) (files : Files) (good : IsGoodStore by texts files)
    (planned : List PlannedUnit) (are : ArePlanned by planned)
    (inside : (t : List ℕ) → Contains (interfaces_of (plain_build by.compiled planned).units) t → Contains texts t) where
  abbrev whole : Build
  whole = plain_build by.compiled planned

  pub build_is_plain : IsPlain by texts files files planned whole (cut_build by.compiled files planned)
  build_is_plain = cut_is_plain by texts apart files good planned files [] [] refl good (all_entry files planned) are.names
      are.skeletons are.small tt inside

  front_is_plain : (front rest : List PlannedUnit) → planned ≡ front ++ rest
      → IsPlain by texts files files front (plain_build by.compiled front) (cut_build by.compiled files front)
  front_is_plain front rest split =
      let more = plain_front by.compiled front rest in
      let all = subst (ArePlanned by) split are in
      cut_is_plain by texts apart files good front files [] [] refl good (all_entry files front) (names_front front rest all.names)
      (each_front (λ (p : PlannedUnit). by.skel p.unit p.source ≡ Ok p.skeleton) front rest all.skeletons)
      (each_front IsSmallPlanned front rest all.small) tt
      (λ t h. inside t (subst (λ ps. Contains (interfaces_of (plain_build by.compiled ps).units) t) (sym split)
      (subst (λ us. Contains (interfaces_of us) t) (sym more.1) (interfaces_front (plain_build by.compiled front).units more.0 t h))))

  -- a build that ended changes the plain build's paths alone
  pub frame_ended : (new : Option Files) → new ≡ Some (cut_build by.compiled files planned).files
      → Keeps (Some files) new (paths_of whole.units)
  frame_ended new is = record {
    rest = λ before told.
        let same : files ≡ before = cc in (
          with_units files planned (compiled_units whole.units),
          is ∙ ap Some build_is_plain.leaves,
          λ q out. built_outside by.compiled planned [] files q out ∙ ap (λ (f : Files). get f q) same,
        );
  }

  module _ (new : Option Files) (left : LeftByCut by.compiled files planned new) where
    front : IsPlain by texts files files left.front (plain_build by.compiled left.front) (cut_build by.compiled files left.front)
    front = front_is_plain left.front left.rest left.split

    abbrev us : List PlainUnit
    us = (plain_build by.compiled left.front).units

    here_good : IsGoodStore by texts left.here
    here_good = subst (IsGoodStore by texts) (ap (λ (c : Cut). c.files) left.so_far.is) front.good

    known : AllByRecursion (IsKnownUnit texts) left.done
    known = subst (AllByRecursion (IsKnownUnit texts)) (ap (λ (c : Cut). c.units) left.so_far.is) front.known

    same : map plain left.done ≡ compiled_units us
    same = ap (map plain) (sym (ap (λ (c : Cut). c.units) left.so_far.is)) ∙ front.same

    ended : (plain_build by.compiled left.front).ended ≡ None
    ended = sym front.ended ∙ ap (λ (c : Cut). c.ended) left.so_far.is

    -- the next unit is the plain build's
    record IsNext (p : PlannedUnit) (u : BuiltUnit) : Type 0 where
      unit : PlainUnit
      unit_is : compiled_unit unit ≡ u
      says : UnitAnswers (interface_bytes left.done) (input_after left.done p) (by.compiled (input_after left.done p)) unit
      more : List PlainUnit
      whole_is : whole.units ≡ us ++ unit ∷ more

    next_is : (next : NextUnit by.compiled left.done left.here left.rest new) → IsNext next.at next.unit
    next_is next =
        let p = next.at in
        let one = compiled_is by.compiled left.here left.done p next.unit next.gives next.came in
        let later = λ (v : PlainUnit). build_after by.compiled (us ++ v ∷ []) next.later in
        let here : unit_after by.compiled (compiled_units us) p ≡ Ok one.0 =
        ap₂ (λ n i. plain_unit n i (by.compiled i)) (bytes_plain left.done us same) (input_plain left.done us p same) ∙ one.1 in
        record {
          unit = one.0;
          unit_is = one.2;
          says = unit_answers (interface_bytes left.done) (input_after left.done p) (by.compiled (input_after left.done p)) one.0 one.1;
          more = (later one.0).units;
          whole_is = ap (λ ps. (plain_build by.compiled ps).units) left.split
              ∙ ap (λ (b : Build). b.units) (plain_append by.compiled left.front left.rest [])
              ∙ units_on (plain_build by.compiled left.front) (λ vs. build_after by.compiled vs left.rest) ended
              ∙ ap (λ ps. us ++ (build_after by.compiled us ps).units) next.first
              ∙ ap (λ r. us ++ (then_build (input_after (compiled_units us) p) r later).units) here;
        }

    made : (next : NextUnit by.compiled left.done left.here left.rest new) (is : IsNext next.at next.unit)
        → IsMade by.compiled texts next.at (givens_of left.done next.at.wanted) is.unit.made
    made next is = record {
      made_is = is.says.answers;
      givens_are = givens_known texts left.done next.at.wanted known;
      known = inside is.unit.made.interface (subst (λ vs. Contains (interfaces_of vs) is.unit.made.interface) (sym is.whole_is)
          (here us is.unit is.more));
      small = (within (interface_bytes left.done) is.unit.made is.says.fits).interface;
    }
      where
        here : (xs : List PlainUnit) (v : PlainUnit) (ys : List PlainUnit) → Contains (interfaces_of (xs ++ v ∷ ys)) v.made.interface
        here [] v ys = (0, omega arith, refl)
        here (x ∷ xs) v ys = Contains-append_right (x.made.interface ∷ []) (interfaces_of (xs ++ v ∷ ys)) v.made.interface (here xs v ys)

    unit_is : (next : NextUnit by.compiled left.done left.here left.rest new) (is : IsNext next.at next.unit)
        → next.unit ≡ made_unit next.at (givens_of left.done next.at.wanted) is.unit.made
    unit_is next is = sym is.unit_is ∙ ap (λ (i : CompileInput). built_unit i is.unit.made) is.says.input_is

    skeleton : (next : NextUnit by.compiled left.done left.here left.rest new)
        → by.skel next.at.unit next.at.source ≡ Ok next.at.skeleton
    skeleton next = (subst (AllByRecursion (λ (p : PlannedUnit). by.skel p.unit p.source ≡ Ok p.skeleton)) next.first
        (each_rest (λ (p : PlannedUnit). by.skel p.unit p.source ≡ Ok p.skeleton) left.front left.rest
        (subst (ArePlanned by) left.split are).skeletons)).0

    -- a build that was cut off leaves a good store
    pub good_left : StoreIsGood by texts new
    good_left =
        elim left.next [
          | inl same_files ↦ store_same same_files (store_is_good refl here_good)
          | inr next ↦ begun next (next_is next)
        ]
      where
        begun : (next : NextUnit by.compiled left.done left.here left.rest new) → IsNext next.at next.unit
            → StoreIsGood by texts new
        begun next is =
            good_stored by texts apart next.at (skeleton next) (givens_of left.done next.at.wanted) is.unit.made (made next is)
            (subst (StoresUnit (Some left.here) new next.at) (unit_is next is) next.stores) (store_is_good refl here_good)

    -- .. and changes the plain build's paths alone
    here_outside : (q : List ℕ) → (Contains (paths_of whole.units) q → ⊥) → get left.here q ≡ get files q
    here_outside q out =
        let more = plain_front by.compiled left.front left.rest in
        ap (λ (f : Files). get f q) (sym (ap (λ (c : Cut). c.files) left.so_far.is) ∙ front.leaves)
        ∙ built_outside by.compiled left.front [] files q
        (λ h. out (subst (λ l. Contains l q)
        (sym (ap (λ ps. paths_of (plain_build by.compiled ps).units) left.split ∙ ap paths_of more.1 ∙ paths_append us more.0))
        (Contains-append_left (paths_of us) (paths_of more.0) q h)))

    pub frame_left : Keeps (Some files) new (paths_of whole.units)
    frame_left = record {
      rest = λ before told. let same_files : files ≡ before = cc in
          elim left.next [
            | inl is ↦ (left.here, is, λ q out. here_outside q out ∙ ap (λ (f : Files). get f q) same_files)
            | inr next ↦ begun next (next_is next) before same_files
          ];
    }
      where
        begun : (next : NextUnit by.compiled left.done left.here left.rest new) → IsNext next.at next.unit
            → (before : Files) → files ≡ before
            → (after : Files) × (new ≡ Some after)
            × ((q : List ℕ) → (Contains (paths_of whole.units) q → ⊥) → get after q ≡ get before q)
        begun next is before same_files =
            let one = stored_outside next.at next.unit next.stores in
            let paths : paths_of whole.units ≡ paths_of us ++ (unit_paths (compiled_unit is.unit) ++ paths_of is.more) =
            ap paths_of is.whole_is ∙ paths_append us (is.unit ∷ is.more) in
            let its : (q : List ℕ) → Contains (unit_paths (compiled_unit is.unit)) q → Contains (paths_of whole.units) q = λ q h.
            subst (λ l. Contains l q) (sym paths) (Contains-append_right (paths_of us) (unit_paths (compiled_unit is.unit) ++ paths_of is.more) q
            (Contains-append_left (unit_paths (compiled_unit is.unit)) (paths_of is.more) q h)) in
            let interface : next.unit.interface ≡ is.unit.made.interface = ap (λ (b : BuiltUnit). b.interface) (unit_is next is) in
            let name : is.unit.input.unit ≡ next.at.unit = ap (λ (i : CompileInput). i.unit) is.says.input_is in (
              one.0,
              one.1,
              λ q out. one.2 q
                  (λ at. out (its q (0, omega arith, sym (at ∙ ap (λ t. interface_path (hash_of t)) interface))))
                  (λ at. out (its q (1, omega arith, ap bin_path name ∙ sym at)))
                  ∙ here_outside q out ∙ ap (λ (f : Files). get f q) same_files,
            )
