-- One unit's turn over a good store is what the plain build does with it, and leaves a good store.
use Rattle.std.proofs.Common.{◌≡◌, sym, subst, refl, ℕ, Bool, true, false, cond, List, [], ◌∷◌, Option, Some, None}
use Rattle.std.specs.Prelude.{Result, Ok, Err, Contains, is_some}
use Rattle.std.specs.List.{AllByRecursion}
use Rattle.cm_base.specs.Definitions.{Definitions}
use Rattle.cm_base.specs.Diags.{whole_file}
use Rattle.cm_base.specs.Files.{Files}
use Rattle.cm_base.specs.declared.diag.Diag.{Diag}
use Rattle.cm_base.specs.declared.record.CompileInput.{CompileInput}
use Rattle.cm_base.specs.declared.record.Compiled.{Compiled}
use Rattle.cm_base.specs.declared.record.Given.{Given}
use Rattle.cm_base.specs.declared.record.BuiltUnit.{BuiltUnit}
use Rattle.cm_base.specs.declared.record.PlannedUnit.{PlannedUnit}
use Rattle.cm_bytes.specs.Hashes.{HashesApart}
use Rattle.bin_store.specs.GoodStore.{IsKnown, IsGoodStore}
use Rattle.build_laws.specs.CutBuild.{Turn, limited, loaded_turn, compiled_turn, turn_by}
use Rattle.build_laws.specs.Inputs.{input_of, is_too_large}
use Rattle.build_laws.specs.PlainBuild.{PlainUnit, compiled_unit, plain_unit}
use Rattle.build_laws.specs.Stale.{loaded_for, marked_unit}
use Rattle.build_laws.specs.Storing.{with_unit, IsSmallPlanned}
use Rattle.build_laws.proofs.Fresh.{IsAsMade, fresh_is_made}
use Rattle.build_laws.proofs.Made.{IsMade, IsKnownUnit, ShortGivens, made_unit, within, spelled, put_is_with, good_put}
use Rattle.build_laws.proofs.Putting.{stands_already}

-- it gives the plain build's unit, as it came, and leaves its files; or it gives the plain build's diagnostic
abbrev pub TurnGives : List (List ℕ) → Files → PlannedUnit → CompileInput → Bool → Result PlainUnit Diag → Turn → Type 0
TurnGives texts files p input fresh (Err diag) t = (t.gives ≡ Err diag) × (t.files ≡ files)
TurnGives texts files p input fresh (Ok u) t =
    (t.gives ≡ Ok (marked_unit fresh (compiled_unit u))) × (t.files ≡ with_unit files p (compiled_unit u))
    × (u.input ≡ input) × Contains texts u.made.interface

pub record IsTurn (by : Definitions) (texts : List (List ℕ)) (files : Files) (p : PlannedUnit) (input : CompileInput)
    (fresh : Bool) (r : Result PlainUnit Diag) (t : Turn) : Type 0 where
  pub gives : TurnGives texts files p input fresh r t
  pub asked : t.asked ≡ cond fresh [] (p.unit ∷ [])
  pub good : IsGoodStore by texts t.files

-- a marked unit is known as it is
pub marked_known : (texts : List (List ℕ)) (fresh : Bool) (u : PlainUnit) → Contains texts u.made.interface
    → IsKnownUnit texts (marked_unit fresh (compiled_unit u))
marked_known texts true u known = (known, refl)
marked_known texts false u known = (known, refl)

module _ (by : Definitions) (texts : List (List ℕ)) (apart : HashesApart texts) (files : Files)
    (good : IsGoodStore by texts files) (n : ℕ) (p : PlannedUnit) (skeleton : by.skel p.unit p.source ≡ Ok p.skeleton)
    (small : IsSmallPlanned p) (givens : List Given) (known : AllByRecursion (IsKnown texts) givens)
    (short : ShortGivens givens p.wanted) where
  -- what is known where the compiler's answer passes no limit
  abbrev Within : Type 0
  Within = (made : Compiled) → by.compiled (input_of p givens) ≡ Ok made → is_too_large n made ≡ false
      → Contains texts made.interface

  abbrev of_size : Compiled → Bool → Result PlainUnit Diag
  of_size made large =
      cond large (Err (whole_file 12 p.unit)) (Ok (record { input = input_of p givens; made = made }))

  -- a unit that is compiled
  sized : (made : Compiled) (large : Bool) → is_too_large n made ≡ large → by.compiled (input_of p givens) ≡ Ok made → Within
      → IsTurn by texts files p (input_of p givens) false (of_size made large) (compiled_turn files p (of_size made large))
  sized made true size is inside = record { gives = (refl, refl); asked = refl; good = good }
  sized made false size is inside =
      let limits = within n made size in
      let makes : IsMade by.compiled texts p givens made =
      record { made_is = is; givens_are = known; known = inside made is size; small = limits.interface } in
      record {
        gives = (refl, put_is_with by texts apart p skeleton givens made makes files good, refl, inside made is size);
        asked = refl;
        good = good_put by texts apart p skeleton givens made makes files (spelled texts n p givens made small short known size) good;
      }

  compiled_is : (answer : Result Compiled Diag) → by.compiled (input_of p givens) ≡ answer → Within
      → IsTurn by texts files p (input_of p givens) false (plain_unit n (input_of p givens) answer)
      (compiled_turn files p (plain_unit n (input_of p givens) answer))
  compiled_is (Err diag) is inside = record { gives = (refl, refl); asked = refl; good = good }
  compiled_is (Ok made) is inside = sized made (is_too_large n made) refl is inside

  -- a unit that is loaded
  load_sized : (made : Compiled) (large : Bool) → IsAsMade by texts files p givens (marked_unit true (made_unit p givens made))
      → Contains texts made.interface → with_unit files p (made_unit p givens made) ≡ files
      → IsTurn by texts files p (input_of p givens) true (of_size made large)
      (loaded_turn files (cond large (Err (whole_file 12 p.unit)) (Ok (marked_unit true (made_unit p givens made)))))
  load_sized made true is here stands = record { gives = (refl, refl); asked = refl; good = good }
  load_sized made false is here stands = record { gives = (refl, sym stands, refl, here); asked = refl; good = good }

  loaded_is : (u : BuiltUnit) → IsAsMade by texts files p givens u
      → IsTurn by texts files p (input_of p givens) true (plain_unit n (input_of p givens) (by.compiled (input_of p givens)))
      (loaded_turn files (limited n u))
  loaded_is u is =
      subst (λ r. IsTurn by texts files p (input_of p givens) true (plain_unit n (input_of p givens) r) (loaded_turn files (limited n u)))
      (sym is.is.made_is)
      (subst (λ v. IsTurn by texts files p (input_of p givens) true (plain_unit n (input_of p givens) (Ok is.made)) (loaded_turn files (limited n v)))
      (sym is.unit_is)
      (load_sized is.made (is_too_large n is.made) (subst (IsAsMade by texts files p givens) is.unit_is is) is.is.known
      (stands_already files p (made_unit p givens is.made) is.text_stands is.bin_stands)))

  -- whatever the store has of it
  pub turn_is : Within
      → IsTurn by texts files p (input_of p givens) (is_some (loaded_for files (input_of p givens)))
      (plain_unit n (input_of p givens) (by.compiled (input_of p givens)))
      (turn_by by.compiled files n p (input_of p givens) (loaded_for files (input_of p givens)))
  turn_is inside = by_loaded (loaded_for files (input_of p givens)) refl
    where
      by_loaded : (l : Option BuiltUnit) → loaded_for files (input_of p givens) ≡ l
          → IsTurn by texts files p (input_of p givens) (is_some l) (plain_unit n (input_of p givens) (by.compiled (input_of p givens)))
          (turn_by by.compiled files n p (input_of p givens) l)
      by_loaded None is = compiled_is (by.compiled (input_of p givens)) refl inside
      by_loaded (Some u) is = loaded_is u (fresh_is_made by texts files good apart p givens u skeleton known is)
