-- Over a good store the build as the store stands is the plain build as it comes over the store, for all planned units.
use Rattle.std.proofs.Common.{◌≡◌, ◌≢◌, ◌∙◌, sym, ap, ap₂, subst, refl, ℕ, Bool, true, false, cond, List, [], ◌∷◌, ◌++◌, Option, Some, None, map, arith, append-nil}
use Rattle.std.specs.Prelude.{Result, Ok, Err, Contains, is_some}
use Rattle.std.specs.List.{AllByRecursion}
use Rattle.std.proofs.lemmas.List.Elements.{Contains-append_left, Contains-append_right}
use Rattle.cm_base.specs.Definitions.{Definitions}
use Rattle.cm_base.specs.Diags.{whole_file}
use Rattle.cm_base.specs.Files.{Files}
use Rattle.cm_base.specs.declared.diag.Diag.{Diag}
use Rattle.cm_base.specs.declared.record.BuiltUnit.{BuiltUnit}
use Rattle.cm_base.specs.declared.record.CompileInput.{CompileInput}
use Rattle.cm_base.specs.declared.record.Compiled.{Compiled}
use Rattle.cm_base.specs.declared.record.Given.{Given}
use Rattle.cm_base.specs.declared.record.PlannedUnit.{PlannedUnit}
use Rattle.cm_bytes.specs.Hashes.{hash_of, HashesApart}
use Rattle.bin_store.specs.GoodStore.{IsGoodStore, IsKnown}
use Rattle.bin_store.proofs.StoreLaws.{good_more}
use Rattle.build_laws.specs.CutBuild.{Cut, Turn, compiled_turn, cut_after, cut_build, cut_turn, limited, loaded_turn, then_cut, turn, turn_by}
use Rattle.build_laws.specs.Inputs.{givens_of, input_after, input_of, interface_bytes, is_too_large}
use Rattle.build_laws.specs.PlainBuild.{Build, PlainUnit, build_after, compiled_unit, compiled_units, plain_build, plain_unit, then_build}
use Rattle.build_laws.specs.Planned.{interfaces_of, HaveSkeletons, NamesDiffer}
use Rattle.build_laws.specs.Stale.{asked_in, inputs_of, is_fresh, loaded_for, marked, marked_unit, stale_names}
use Rattle.build_laws.specs.Storing.{with_unit, with_units}
use Rattle.build_laws.proofs.Building.{all_end, bytes_plain, input_plain, plain, plain_end}
use Rattle.build_laws.proofs.Fresh.{IsAsMade, fresh_is_made}
use Rattle.build_laws.proofs.Fronts.{made_cut}
use Rattle.build_laws.proofs.Made.{IsKnownUnit, givens_known, made_unit, within}
use Rattle.build_laws.proofs.Putting.{stands_already}
use Rattle.build_laws.proofs.Turning.{TurnGives, marked_known}
use Rattle.command_parts.proofs.Shadows.{Shadows, entry_shadows, fresh_at_entry, later_shadows, loads, put_is_set, put_shadows}

-- ---- one unit's turn

-- it is the plain build's, and the files have a shadow then
record Follows (by : Definitions) (texts : List (List ℕ)) (start files : Files) (p : PlannedUnit) (ps : List PlannedUnit)
    (input : CompileInput) (fresh : Bool) (r : Result PlainUnit Diag) (t : Turn) : Type 0 where
  gives : TurnGives texts files p input fresh r t
  asked : t.asked ≡ cond fresh [] (p.unit ∷ [])
  shadows : Shadows by texts start t.files ps

module _ (by : Definitions) (texts : List (List ℕ)) (apart : HashesApart texts) (start files : Files) (p : PlannedUnit)
    (ps : List PlannedUnit) (is : Shadows by texts start files (p ∷ ps))
    (differ : AllByRecursion (λ (q : PlannedUnit). q.unit ≢ p.unit) ps) (n : ℕ)
    (skeleton : by.skel p.unit p.source ≡ Ok p.skeleton) (givens : List Given)
    (known : AllByRecursion (IsKnown texts) givens) where
  abbrev input : CompileInput
  input = input_of p givens

  -- what is known where the compiler's answer passes no limit
  abbrev Within : Type 0
  Within = (made : Compiled) → by.compiled input ≡ Ok made → is_too_large n made ≡ false → Contains texts made.interface

  abbrev of_size : Compiled → Bool → Result PlainUnit Diag
  of_size made large = cond large (Err (whole_file 12 p.unit)) (Ok (record { input = input; made = made }))

  abbrev Is : Bool → Result PlainUnit Diag → Turn → Type 0
  Is fresh r t = Follows by texts start files p ps input fresh r t

  -- a unit that is compiled
  sized : (made : Compiled) (large : Bool) → is_too_large n made ≡ large → by.compiled input ≡ Ok made → Within
      → Is false (of_size made large) (compiled_turn files p (of_size made large))
  sized made true size made_is inside =
      record { gives = (refl, refl); asked = refl; shadows = later_shadows by texts start files p ps is }
  sized made false size made_is inside =
      let short = (within n made size).interface in
      let there = inside made made_is size in
      record {
        gives = (refl, put_is_set by texts apart start files p ps is (made_unit p givens made) refl (omega (arith, short)) there, refl, there);
        asked = refl;
        shadows = put_shadows by texts apart start files p ps is (made_unit p givens made) refl (omega (arith, short)) there differ;
      }

  compiled_is : (answer : Result Compiled Diag) → by.compiled input ≡ answer → Within
      → Is false (plain_unit n input answer) (compiled_turn files p (plain_unit n input answer))
  compiled_is (Err diag) made_is inside =
      record { gives = (refl, refl); asked = refl; shadows = later_shadows by texts start files p ps is }
  compiled_is (Ok made) made_is inside = sized made (is_too_large n made) refl made_is inside

  -- a unit that is loaded
  load_sized : (made : Compiled) (large : Bool) → Contains texts made.interface
      → with_unit files p (made_unit p givens made) ≡ files
      → Is true (of_size made large)
      (loaded_turn files (cond large (Err (whole_file 12 p.unit)) (Ok (marked_unit true (made_unit p givens made)))))
  load_sized made true here stands =
      record { gives = (refl, refl); asked = refl; shadows = later_shadows by texts start files p ps is }
  load_sized made false here stands =
      record { gives = (refl, sym stands, refl, here); asked = refl; shadows = later_shadows by texts start files p ps is }

  loaded_is : (u : BuiltUnit) → IsAsMade by texts is.shade p givens u
      → Is true (plain_unit n input (by.compiled input)) (loaded_turn files (limited n u))
  loaded_is u made =
      subst (λ r. Is true (plain_unit n input r) (loaded_turn files (limited n u))) (sym made.is.made_is)
      (subst (λ v. Is true (plain_unit n input (Ok made.made)) (loaded_turn files (limited n v))) (sym made.unit_is)
      (load_sized made.made (is_too_large n made.made) made.is.known
      (stands_already files p (made_unit p givens made.made) (is.interfaces (hash_of made.made.interface) ∙ made.text_stands)
      (is.bins.0 ∙ made.bin_stands))))

  -- whatever the store has of it
  turn_follows : Within
      → Is (is_some (loaded_for files input)) (plain_unit n input (by.compiled input))
      (turn_by by.compiled files n p input (loaded_for files input))
  turn_follows inside = by_loaded (loaded_for files input) refl
    where
      by_loaded : (l : Option BuiltUnit) → loaded_for files input ≡ l
          → Is (is_some l) (plain_unit n input (by.compiled input)) (turn_by by.compiled files n p input l)
      by_loaded None at = compiled_is (by.compiled input) refl inside
      by_loaded (Some u) at =
          loaded_is u (fresh_is_made by texts is.shade is.good apart p givens u skeleton known
          (sym (loads by texts apart start files p ps is input refl) ∙ at))

-- ---- a build

record IsComing (start files : Files) (ps : List PlannedUnit) (b : Build) (c : Cut) : Type 0 where
  units : c.units ≡ marked start b
  ended : c.ended ≡ b.ended
  asked : c.asked ≡ asked_in start b
  leaves : c.files ≡ with_units files ps (compiled_units b.units)

module _ (by : Definitions) (texts : List (List ℕ)) (apart : HashesApart texts) (start : Files)
    (at : IsGoodStore by texts start) where
  asked_first : (p : PlannedUnit) (fresh : Bool) (input : CompileInput) (more : List CompileInput) → input.unit ≡ p.unit
      → is_fresh start input ≡ fresh
      → cond fresh [] (p.unit ∷ []) ++ stale_names start more ≡ stale_names start (input ∷ more)
  asked_first p true input more name is =
      sym (ap (λ b. cond b (stale_names start more) (input.unit ∷ stale_names start more)) is)
  asked_first p false input more name is =
      sym (ap (λ b. cond b (stale_names start more) (input.unit ∷ stale_names start more)) is
      ∙ ap (λ u. u ∷ stale_names start more) name)

  -- a unit that is refused
  refused : (files : Files) (p : PlannedUnit) (ps : List PlannedUnit) (input : CompileInput) (fresh : Bool) (d : Diag) (t : Turn)
      (rest : PlainUnit → Build) (more : Files → BuiltUnit → Cut) → input.unit ≡ p.unit → is_fresh start input ≡ fresh
      → Follows by texts start files p ps input fresh (Err d) t
      → IsComing start files (p ∷ ps) (then_build input (Err d) rest) (cut_turn t more)
  refused files p ps input fresh d t rest more name is turns =
      subst (λ g. IsComing start files (p ∷ ps) (then_build input (Err d) rest) (then_cut g t.asked t.files (more t.files)))
      (sym turns.gives.0)
      (record {
        units = refl;
        ended = refl;
        asked = turns.asked ∙ sym (append-nil (cond fresh [] (p.unit ∷ []))) ∙ asked_first p fresh input [] name is;
        leaves = turns.gives.1;
      })

  -- a unit that is done, and the rest
  done : (files : Files) (p : PlannedUnit) (ps : List PlannedUnit) (input : CompileInput) (fresh : Bool) (u : PlainUnit) (t : Turn)
      (rest : PlainUnit → Build) (more : Files → BuiltUnit → Cut) → input.unit ≡ p.unit → is_fresh start input ≡ fresh
      → Follows by texts start files p ps input fresh (Ok u) t
      → IsComing start t.files ps (rest u) (more t.files (marked_unit fresh (compiled_unit u)))
      → IsComing start files (p ∷ ps) (then_build input (Ok u) rest) (cut_turn t more)
  done files p ps input fresh u t rest more name is turns next =
      subst (λ g. IsComing start files (p ∷ ps) (then_build input (Ok u) rest) (then_cut g t.asked t.files (more t.files)))
      (sym turns.gives.0)
      (record {
        units = ap₂ (λ b xs. marked_unit b (compiled_unit u) ∷ xs) (sym here) next.units;
        ended = next.ended;
        asked = ap₂ (λ xs ys. xs ++ ys) turns.asked next.asked
            ∙ asked_first p fresh u.input (inputs_of (rest u)) (ap (λ (i : CompileInput). i.unit) turns.gives.2 ∙ name) here;
        leaves = next.leaves ∙ ap (λ (f : Files). with_units f ps (compiled_units (rest u).units)) turns.gives.1;
      })
    where
      here : is_fresh start u.input ≡ fresh
      here = ap (is_fresh start) turns.gives.2 ∙ is

  step : (files : Files) (p : PlannedUnit) (ps : List PlannedUnit) (input : CompileInput) (fresh : Bool) (r : Result PlainUnit Diag)
      (t : Turn) (rest : PlainUnit → Build) (more : Files → BuiltUnit → Cut) → input.unit ≡ p.unit → is_fresh start input ≡ fresh
      → Follows by texts start files p ps input fresh r t
      → ((u : PlainUnit) → r ≡ Ok u → Contains texts u.made.interface
      → IsComing start t.files ps (rest u) (more t.files (marked_unit fresh (compiled_unit u))))
      → IsComing start files (p ∷ ps) (then_build input r rest) (cut_turn t more)
  step files p ps input fresh (Err d) t rest more name is turns then = refused files p ps input fresh d t rest more name is turns
  step files p ps input fresh (Ok u) t rest more name is turns then =
      done files p ps input fresh u t rest more name is turns (then u refl turns.gives.3)

  -- the plain build of some units, with what the first of them is given and counts
  abbrev built : List PlainUnit → PlannedUnit → List PlannedUnit → ℕ → CompileInput → Build
  built us p ps n input =
      then_build input (plain_unit n input (by.compiled input)) (λ u. build_after by.compiled (us ++ u ∷ []) ps)

  abbrev Inside : Build → Type 0
  Inside b = (t : List ℕ) → Contains (interfaces_of b.units) t → Contains texts t

  first_inside : (input : CompileInput) (r : Result PlainUnit Diag) (rest : PlainUnit → Build) (u : PlainUnit) → r ≡ Ok u
      → Inside (then_build input r rest) → Contains texts u.made.interface
  first_inside input r rest u is inside =
      subst (λ x. Inside (then_build input x rest)) is inside u.made.interface (0, omega arith, refl)

  rest_inside : (input : CompileInput) (r : Result PlainUnit Diag) (rest : PlainUnit → Build) (u : PlainUnit) → r ≡ Ok u
      → Inside (then_build input r rest) → Inside (rest u)
  rest_inside input r rest u is inside = λ t h.
      subst (λ x. Inside (then_build input x rest)) is inside t
      (Contains-append_right (u.made.interface ∷ []) (interfaces_of (rest u).units) t h)

  -- what is shown of the rest of a build
  abbrev CutComes : List PlannedUnit → Type 0
  CutComes ps = (files : Files) (bs : List BuiltUnit) (us : List PlainUnit)
      → map plain bs ≡ compiled_units us → Shadows by texts start files ps → NamesDiffer ps
      → HaveSkeletons by.skel ps → AllByRecursion (IsKnownUnit texts) bs
      → Inside (build_after by.compiled us ps)
      → IsComing start files ps (build_after by.compiled us ps) (cut_after by.compiled files bs ps)

  cut_comes : (ps : List PlannedUnit) (files : Files) (bs : List BuiltUnit) (us : List PlainUnit)
      → map plain bs ≡ compiled_units us → Shadows by texts start files ps → NamesDiffer ps
      → HaveSkeletons by.skel ps → AllByRecursion (IsKnownUnit texts) bs
      → Inside (build_after by.compiled us ps)
      → IsComing start files ps (build_after by.compiled us ps) (cut_after by.compiled files bs ps)
  cut_comes [] files bs us same shadows differ skeletons known inside =
      record { units = refl; ended = refl; asked = refl; leaves = refl }
  cut_comes (p ∷ ps) files bs us same shadows differ skeletons known inside =
      subst (λ b. IsComing start files (p ∷ ps) b (cut_after by.compiled files bs (p ∷ ps))) (sym whole)
      (step files p ps input (is_fresh files input) (plain_unit n input (by.compiled input)) (turn by.compiled files bs p)
      (λ u. build_after by.compiled (us ++ u ∷ []) ps) (λ after b. cut_after by.compiled after (bs ++ b ∷ []) ps)
      refl (fresh_at_entry by texts apart start files p ps shadows at input refl) turns
      (next (λ f b u e s d k w i. cut_comes ps f b u e s d k w i)))
    where
      n : ℕ
      n = interface_bytes bs

      input : CompileInput
      input = input_after bs p

      whole : build_after by.compiled us (p ∷ ps) ≡ built us p ps n input
      whole = ap₂ (built us p ps) (bytes_plain bs us same) (input_plain bs us p same)

      here : Inside (built us p ps n input)
      here = subst Inside whole inside

      within_texts : (made : Compiled) → by.compiled input ≡ Ok made → is_too_large n made ≡ false
          → Contains texts made.interface
      within_texts made is size =
          first_inside input (plain_unit n input (by.compiled input)) (λ u. build_after by.compiled (us ++ u ∷ []) ps)
          (record { input = input; made = made })
          (ap (plain_unit n input) is ∙ ap (λ b. cond b (Err (whole_file 12 input.unit)) (Ok (record { input = input; made = made }))) size) here

      turns : Follows by texts start files p ps input (is_fresh files input) (plain_unit n input (by.compiled input))
          (turn by.compiled files bs p)
      turns = turn_follows by texts apart start files p ps shadows differ.0 n skeletons.0 (givens_of bs p.wanted)
          (givens_known texts bs p.wanted known) within_texts

      next : CutComes ps → (u : PlainUnit) → plain_unit n input (by.compiled input) ≡ Ok u → Contains texts u.made.interface
          → IsComing start (turn by.compiled files bs p).files ps (build_after by.compiled (us ++ u ∷ []) ps)
          (cut_after by.compiled (turn by.compiled files bs p).files (bs ++ marked_unit (is_fresh files input) (compiled_unit u) ∷ []) ps)
      next then u is there =
          then (turn by.compiled files bs p).files (bs ++ marked_unit (is_fresh files input) (compiled_unit u) ∷ []) (us ++ u ∷ [])
          (plain_end bs us (is_fresh files input) u same) turns.shadows differ.1 skeletons.1
          (all_end (IsKnownUnit texts) bs (marked_unit (is_fresh files input) (compiled_unit u)) known
          (marked_known texts (is_fresh files input) u there))
          (rest_inside input (plain_unit n input (by.compiled input)) (λ v. build_after by.compiled (us ++ v ∷ []) ps) u is here)

-- ---- the law

pub agrees : (by : Definitions) (known : List (List ℕ)) (files : Files) (planned : List PlannedUnit) → NamesDiffer planned
    → HaveSkeletons by.skel planned → HashesApart (known ++ interfaces_of (plain_build by.compiled planned).units)
    → IsGoodStore by known files
    → cut_build by.compiled files planned
    ≡ made_cut (marked files (plain_build by.compiled planned)) (plain_build by.compiled planned).ended
    (asked_in files (plain_build by.compiled planned))
    (with_units files planned (compiled_units (plain_build by.compiled planned).units))
agrees by known files planned differ skeletons apart good =
    ap₂ (λ us e. made_cut us e c.asked c.files) is.units is.ended
    ∙ ap₂ (λ a f. made_cut (marked files b) b.ended a f) is.asked is.leaves
  where
    b : Build
    b = plain_build by.compiled planned

    c : Cut
    c = cut_build by.compiled files planned

    texts : List (List ℕ)
    texts = known ++ interfaces_of b.units

    at : IsGoodStore by texts files
    at = good_more (λ t h. Contains-append_left known (interfaces_of b.units) t h) good

    is : IsComing files files planned b c
    is = cut_comes by texts apart files at planned files [] [] refl (entry_shadows by texts files planned at) differ skeletons tt
        (λ t h. Contains-append_right known (interfaces_of b.units) t h)
