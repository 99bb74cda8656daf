-- What a build over a store writes, whatever it answers: the interface file and the binfile of each unit that is
-- compiled, and nothing else.
use Rattle.std.proofs.Common.{◌≡◌, ◌∙◌, sym, ap, ap₂, subst, refl, inl, inr, arith, ℕ, Bool, true, false, cond, List, [], ◌∷◌, ◌++◌, Option, Some, None, append_assoc}
use Rattle.std.specs.Prelude.{Result, Ok, Err}
use Rattle.std.specs.FinMap.{get, insert}
use Rattle.std.proofs.lemmas.List.Elements.{Contains-append_left}
use Rattle.cm_base.specs.Diags.{whole_file}
use Rattle.cm_base.specs.Files.{Files}
use Rattle.cm_base.specs.Keeping.{Keeps}
use Rattle.cm_base.specs.declared.diag.Diag.{Diag}
use Rattle.cm_base.specs.declared.record.BuiltUnit.{BuiltUnit}
use Rattle.cm_base.specs.declared.record.CompileInput.{CompileInput}
use Rattle.cm_base.specs.declared.record.Compiled.{Compiled}
use Rattle.cm_base.specs.declared.record.How.TheVariants as how
use Rattle.cm_base.specs.declared.record.PlannedUnit.{PlannedUnit}
use Rattle.cm_base.proofs.KeepingLemmas.{keeps_same, keeps_then, keeps_touches, keeps_wider, touches_written}
use Rattle.cm_bytes.specs.Hashes.{hash_of}
use Rattle.bin_formats.specs.Format.{binfile}
use Rattle.bin_store.specs.Paths.{bin_path, interface_path}
use Rattle.bin_store.specs.Stored.{with_interface}
use Rattle.bin_store.proofs.GoodAfter.{keeps_put_interface}
use Rattle.build_laws.specs.CutBuild.{Cut, compiled_turn, cut_after, cut_build, limited, then_cut, turn, turn_by}
use Rattle.build_laws.specs.Inputs.{built_unit, input_after, interface_bytes, is_too_large}
use Rattle.build_laws.specs.Left.{LeftByCut, NextUnit}
use Rattle.build_laws.specs.PlainBuild.{PlainUnit, plain_unit}
use Rattle.build_laws.specs.Stale.{loaded_for}
use Rattle.build_laws.specs.Storing.{bin_of_unit, put_unit, unit_paths, StoresUnit}
use Rattle.build_laws.proofs.Fresh.{loaded_how}
use Rattle.build_laws.proofs.Fronts.{cut_whole}
use Rattle.build_laws.proofs.Outside.{stored_outside}
use Rattle.build_laws.proofs.Putting.{puts_interface}
use Rattle.command_parts.specs.Meaning.{paths_by, paths_in}

-- ---- a build that isn't cut off

put_frame : (files : Files) (p : PlannedUnit) (u : BuiltUnit) → u.unit ≡ p.unit → u.hash ≡ hash_of u.interface
    → Keeps (Some files) (Some (put_unit files p u)) (unit_paths u)
unfolding put_unit
put_frame files p u name hash =
    subst (λ ps. Keeps (Some files) (Some (put_unit files p u)) ps)
    (ap₂ (λ h n. interface_path h ∷ bin_path n ∷ []) (sym hash) (sym name))
    (keeps_then (keeps_put_interface (puts_interface files u.interface))
    (keeps_touches (touches_written (Some (with_interface files u.interface))
    (Some (insert (with_interface files u.interface) (bin_path p.unit) (binfile (bin_of_unit p u))))
    (bin_path p.unit) (binfile (bin_of_unit p u)) refl)))

-- a turn writes the paths of the unit that it compiled, or nothing
abbrev DoneFrame : Files → Result BuiltUnit Diag → Files → Type 0
DoneFrame files (Ok unit) here = Keeps (Some files) (Some here) (paths_by unit.how unit)
DoneFrame files (Err diag) here = here ≡ files

then_frame : (g : Result BuiltUnit Diag) (asked : List (List ℕ)) (files here : Files) (rest : BuiltUnit → Cut)
    → DoneFrame files g here
    → ((u : BuiltUnit) → Keeps (Some here) (Some (rest u).files) (paths_in (rest u).units))
    → Keeps (Some files) (Some (then_cut g asked here rest).files) (paths_in (then_cut g asked here rest).units)
then_frame (Err d) asked files here rest same more = keeps_same (Some files) (Some here) [] (ap Some same)
then_frame (Ok u) asked files here rest one more = keeps_then one (more u)

loaded_frame : (files : Files) (n : ℕ) (u : BuiltUnit) → DoneFrame files (limited n u) files
loaded_frame files n u = by (is_too_large n (record { interface = u.interface; code = u.code }))
  where
    by : (b : Bool) → DoneFrame files (cond b (Err (whole_file 12 u.unit)) (Ok u)) files
    by true = refl
    by false = keeps_same (Some files) (Some files) (paths_by u.how u) refl

-- what the compiler made, where it passes its limit or doesn't
abbrev sized : Bool → CompileInput → Compiled → Result PlainUnit Diag
sized large input made = cond large (Err (whole_file 12 input.unit)) (Ok (record { input = input; made = made }))

compiled_frame : (files : Files) (p : PlannedUnit) (n : ℕ) (input : CompileInput) (answer : Result Compiled Diag)
    → input.unit ≡ p.unit
    → DoneFrame files (compiled_turn files p (plain_unit n input answer)).gives
    (compiled_turn files p (plain_unit n input answer)).files
compiled_frame files p n input (Err d) name = refl
compiled_frame files p n input (Ok made) name = by (is_too_large n made)
  where
    by : (b : Bool) → DoneFrame files (compiled_turn files p (sized b input made)).gives
        (compiled_turn files p (sized b input made)).files
    by true = refl
    by false = put_frame files p (built_unit input made) name refl

module _ (compiled : CompileInput → Result Compiled Diag) where
  by_frame : (files : Files) (n : ℕ) (p : PlannedUnit) (input : CompileInput) (l : Option BuiltUnit) → input.unit ≡ p.unit
      → DoneFrame files (turn_by compiled files n p input l).gives (turn_by compiled files n p input l).files
  by_frame files n p input (Some u) name = loaded_frame files n u
  by_frame files n p input None name = compiled_frame files p n input (compiled input) name

  pub cut_frame : (ps : List PlannedUnit) (files : Files) (bs : List BuiltUnit)
      → Keeps (Some files) (Some (cut_after compiled files bs ps).files) (paths_in (cut_after compiled files bs ps).units)
  cut_frame [] files bs = keeps_same (Some files) (Some files) [] refl
  cut_frame (p ∷ ps) files bs =
      let t = turn compiled files bs p in
      then_frame t.gives t.asked files t.files (λ u. cut_after compiled t.files (bs ++ u ∷ []) ps)
      (by_frame files (interface_bytes bs) p (input_after bs p) (loaded_for files (input_after bs p)) refl)
      (λ u. cut_frame ps t.files (bs ++ u ∷ []))

-- ---- a build that was cut off

-- a unit that was compiled is its plan's, and has its interface's hash
record IsOwn (p : PlannedUnit) (u : BuiltUnit) : Type 0 where
  unit : u.unit ≡ p.unit
  hash : u.hash ≡ hash_of u.interface

is_own : (compiled : CompileInput → Result Compiled Diag) (files : Files) (bs : List BuiltUnit) (p : PlannedUnit)
    (u : BuiltUnit) → (turn compiled files bs p).gives ≡ Ok u → u.how ≡ how.Compiled → IsOwn p u
is_own compiled files bs p u gives came = by_loaded (loaded_for files (input_after bs p)) refl gives
  where
    by_limit : (w : BuiltUnit) (large : Bool) → w.how ≡ how.Loaded
        → ◌≡◌ {A = Result BuiltUnit Diag} (cond large (Err (whole_file 12 w.unit)) (Ok w)) (Ok u) → IsOwn p u
    by_limit w true other is = cc
    by_limit w false other is =
        let same : w ≡ u = cc in
        let bad : how.Loaded ≡ how.Compiled = sym other ∙ ap (λ (b : BuiltUnit). b.how) same ∙ came in cc

    by_size : (made : Compiled) (large : Bool) → (compiled_turn files p (sized large (input_after bs p) made)).gives ≡ Ok u
        → IsOwn p u
    by_size made true is = cc
    by_size made false is =
        let same : built_unit (input_after bs p) made ≡ u = cc in subst (IsOwn p) same (record { unit = refl; hash = refl })

    by_answer : (answer : Result Compiled Diag)
        → (compiled_turn files p (plain_unit (interface_bytes bs) (input_after bs p) answer)).gives ≡ Ok u → IsOwn p u
    by_answer (Err d) is = cc
    by_answer (Ok made) is = by_size made (is_too_large (interface_bytes bs) made) is

    by_loaded : (l : Option BuiltUnit) → loaded_for files (input_after bs p) ≡ l
        → (turn_by compiled files (interface_bytes bs) p (input_after bs p) l).gives ≡ Ok u → IsOwn p u
    by_loaded None is gives = by_answer (compiled (input_after bs p)) gives
    by_loaded (Some w) is gives =
        by_limit w (is_too_large (interface_bytes bs) (record { interface = w.interface; code = w.code }))
        (loaded_how files p.unit p.options p.source _ w is) gives

-- however far the storing of a unit came, it writes the unit's paths alone
stored_frame : (here : Files) (new : Option Files) (p : PlannedUnit) (u : BuiltUnit) → IsOwn p u → u.how ≡ how.Compiled
    → StoresUnit (Some here) new p u → Keeps (Some here) new (paths_by u.how u)
stored_frame here new p u own came stores =
    subst (λ h. Keeps (Some here) new (paths_by h u)) (sym came) (record {
      rest = λ before told.
          let same : here ≡ before = cc in
          let one = stored_outside p u stores in (
            one.0,
            one.1,
            λ q out. one.2 q
                (λ at. out (0, omega arith, sym (at ∙ ap interface_path (sym own.hash))))
                (λ at. out (1, omega arith, sym (at ∙ ap bin_path (sym own.unit))))
                ∙ ap (λ (f : Files). get f q) same,
          );
    })

paths_append : (us vs : List BuiltUnit) → paths_in (us ++ vs) ≡ paths_in us ++ paths_in vs
paths_append [] vs = refl
paths_append (u ∷ us) vs =
    ap (λ l. paths_by u.how u ++ l) (paths_append us vs)
    ∙ sym (append_assoc (paths_by u.how u) (paths_in us) (paths_in vs))

module _ (compiled : CompileInput → Result Compiled Diag) (files : Files) (planned : List PlannedUnit)
    (new : Option Files) (left : LeftByCut compiled files planned new) where
  -- the units of the rest of the build
  abbrev others : List PlannedUnit → List BuiltUnit
  others rest = (cut_after compiled left.here left.done rest).units

  paths_are : paths_in (cut_build compiled files planned).units ≡ paths_in left.done ++ paths_in (others left.rest)
  paths_are =
      ap (λ ps. paths_in (cut_build compiled files ps).units) left.split
      ∙ ap (λ (c : Cut). paths_in c.units)
      (cut_whole compiled files left.front left.done left.asked left.here left.so_far left.rest)
      ∙ paths_append left.done (others left.rest)

  here_frame : Keeps (Some files) (Some left.here) (paths_in left.done)
  here_frame =
      subst (λ (c : Cut). Keeps (Some files) (Some c.files) (paths_in c.units)) left.so_far.is
      (cut_frame compiled left.front files [])

  next_frame : NextUnit compiled left.done left.here left.rest new
      → Keeps (Some left.here) new (paths_in (others left.rest))
  next_frame next =
      let t = turn compiled left.here left.done next.at in
      let rest = λ (u : BuiltUnit). cut_after compiled t.files (left.done ++ u ∷ []) next.later in
      let own = is_own compiled left.here left.done next.at next.unit next.gives next.came in
      subst (λ ps. Keeps (Some left.here) new (paths_in (others ps))) (sym next.first)
      (subst (λ g. Keeps (Some left.here) new (paths_in (then_cut g t.asked t.files rest).units)) (sym next.gives)
      (keeps_wider (stored_frame left.here new next.at next.unit own next.came next.stores)
      (λ q h. Contains-append_left (paths_by next.unit.how next.unit) (paths_in (rest next.unit).units) q h)))

  pub left_frame : Keeps (Some files) new (paths_in (cut_build compiled files planned).units)
  left_frame =
      subst (Keeps (Some files) new) (sym paths_are)
      (elim left.next [
        | inl same ↦ keeps_then here_frame (keeps_same (Some left.here) new (paths_in (others left.rest)) same)
        | inr next ↦ keeps_then here_frame (next_frame next)
      ])
