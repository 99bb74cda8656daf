-- The files that a plain build leaves over a good store are a good store, whatever the units are.
use Rattle.std.proofs.Common.{◌≡◌, sym, subst, refl, ℕ, List, [], ◌∷◌, ◌++◌, arith}
use Rattle.std.specs.Prelude.{Result, Ok, Err, Contains}
use Rattle.std.specs.List.{AllByRecursion}
use Rattle.std.proofs.lemmas.List.Elements.{Contains-append_right}
use Rattle.cm_base.specs.Definitions.{Definitions}
use Rattle.cm_base.specs.Files.{Files}
use Rattle.cm_base.specs.declared.diag.Diag.{Diag}
use Rattle.cm_base.specs.declared.record.CompileInput.{CompileInput}
use Rattle.cm_base.specs.declared.record.Given.{Given}
use Rattle.cm_base.specs.declared.record.PlannedUnit.{PlannedUnit}
use Rattle.cm_bytes.specs.Hashes.{HashesApart}
use Rattle.bin_store.specs.GoodStore.{IsGoodStore, IsKnown}
use Rattle.build_laws.specs.Inputs.{built_unit, givens_of, input_after, input_of, interface_bytes}
use Rattle.build_laws.specs.PlainBuild.{Build, PlainUnit, build_after, compiled_unit, compiled_units, plain_unit, then_build, unit_after}
use Rattle.build_laws.specs.Planned.{HaveSkeletons, interfaces_of}
use Rattle.build_laws.specs.Storing.{with_unit, with_units}
use Rattle.build_laws.proofs.Leaving.{unit_answers}
use Rattle.build_laws.proofs.Made.{IsKnownUnit, givens_known, within}
use Rattle.history_laws.specs.Laws.{GivesSmallSkeletons}
use Rattle.history_laws.proofs.Putting.{good_with}

known_end : (texts : List (List ℕ)) (us : List PlainUnit) (u : PlainUnit)
    → AllByRecursion (IsKnownUnit texts) (compiled_units us) → Contains texts u.made.interface
    → AllByRecursion (IsKnownUnit texts) (compiled_units (us ++ u ∷ []))
known_end texts [] u known there = ((there, refl), tt)
known_end texts (v ∷ us) u known there = (known.0, known_end texts us u known.1 there)

module _ (by : Definitions) (texts : List (List ℕ)) (apart : HashesApart texts) (small : GivesSmallSkeletons by) where
  -- the interfaces of a build are among these
  abbrev Inside : Build → Type 0
  Inside b = (t : List ℕ) → Contains (interfaces_of b.units) t → Contains texts t

  -- a unit that is done
  unit_good : (files : Files) (p : PlannedUnit) (n : ℕ) (givens : List Given) (u : PlainUnit)
      → by.skel p.unit p.source ≡ Ok p.skeleton → AllByRecursion (IsKnown texts) givens
      → plain_unit n (input_of p givens) (by.compiled (input_of p givens)) ≡ Ok u → Contains texts u.made.interface
      → IsGoodStore by texts files → IsGoodStore by texts (with_unit files p (compiled_unit u))
  unit_good files p n givens u skeleton known is there good =
      let answers = unit_answers n (input_of p givens) (by.compiled (input_of p givens)) u is in
      subst (λ (i : CompileInput). IsGoodStore by texts (with_unit files p (built_unit i u.made)))
      (sym answers.input_is)
      (good_with by texts apart p skeleton (small p.unit p.source p.skeleton skeleton) givens u.made
      (record {
        made_is = answers.answers;
        givens_are = known;
        known = there;
        small = (within n u.made answers.fits).interface;
      }) files good)

  -- .. and the rest
  then_good : (files : Files) (p : PlannedUnit) (ps : List PlannedUnit) (input : CompileInput)
      (r : Result PlainUnit Diag) (rest : PlainUnit → Build) → IsGoodStore by texts files
      → Inside (then_build input r rest)
      → ((u : PlainUnit) → r ≡ Ok u → Contains texts u.made.interface
      → IsGoodStore by texts (with_unit files p (compiled_unit u)))
      → ((u : PlainUnit) (here : Files) → Contains texts u.made.interface → Inside (rest u) → IsGoodStore by texts here
      → IsGoodStore by texts (with_units here ps (compiled_units (rest u).units)))
      → IsGoodStore by texts (with_units files (p ∷ ps) (compiled_units (then_build input r rest).units))
  then_good files p ps input (Err d) rest good inside one more = good
  then_good files p ps input (Ok u) rest good inside one more =
      let there : Contains texts u.made.interface = inside u.made.interface (0, omega arith, refl) in
      more u (with_unit files p (compiled_unit u)) there
      (λ t h. inside t (Contains-append_right (u.made.interface ∷ []) (interfaces_of (rest u).units) t h))
      (one u refl there)

  pub good_units : (ps : List PlannedUnit) (us : List PlainUnit) (files : Files) → HaveSkeletons by.skel ps
      → AllByRecursion (IsKnownUnit texts) (compiled_units us) → Inside (build_after by.compiled us ps)
      → IsGoodStore by texts files
      → IsGoodStore by texts (with_units files ps (compiled_units (build_after by.compiled us ps).units))
  good_units [] us files skeletons known inside good = good
  good_units (p ∷ ps) us files skeletons known inside good =
      then_good files p ps (input_after (compiled_units us) p) (unit_after by.compiled (compiled_units us) p)
      (λ u. build_after by.compiled (us ++ u ∷ []) ps) good inside
      (λ u is there. unit_good files p (interface_bytes (compiled_units us)) (givens_of (compiled_units us) p.wanted) u
      skeletons.0 (givens_known texts (compiled_units us) p.wanted known) is there good)
      (λ u here there within_texts at.
      good_units ps (us ++ u ∷ []) here skeletons.1 (known_end texts us u known there) within_texts at)
