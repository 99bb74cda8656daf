-- From what a build does over a store to the theorem.
use Rattle.std.proofs.Common.{◌∙◌, sym, ap, subst, ℕ, List, ◌++◌, Option, Some}
use Rattle.std.specs.Prelude.{Result, Ok, Err, Contains}
use Rattle.std.specs.List.{AllByRecursion}
use Rattle.std.proofs.lemmas.List.Elements.{Contains-append_left, Contains-append_right}
use Rattle.cm_base.specs.Definitions.{Definitions}
use Rattle.cm_base.specs.Files.{Files}
use Rattle.cm_base.specs.Keeping.{Keeps}
use Rattle.cm_base.specs.declared.diag.Diag.{Diag}
use Rattle.cm_base.specs.declared.record.Built.{Built}
use Rattle.cm_base.specs.declared.record.CompileInput.{CompileInput}
use Rattle.cm_base.specs.declared.record.Compiled.{Compiled}
use Rattle.cm_base.specs.declared.record.PlannedUnit.{PlannedUnit}
use Rattle.cm_bytes.specs.Hashes.{HashesApart}
use Rattle.bin_store.specs.GoodStore.{IsGoodStore, StoreIsGood}
use Rattle.bin_store.proofs.GoodAfter.{store_is_good}
use Rattle.bin_store.proofs.StoreLaws.{good_more}
use Rattle.build_laws.specs.CutBuild.{cut_build}
use Rattle.build_laws.specs.Left.{KeepsProject}
use Rattle.build_laws.specs.PlainBuild.{Build, plain_build}
use Rattle.build_laws.specs.Planned.{interfaces_of, paths_of, ArePlanned}
use Rattle.build_laws.specs.Storing.{IsSmallPlanned}
use Rattle.build_laws.proofs.Building.{IsPlain}
use Rattle.build_laws.proofs.Leaving.{build_is_plain, frame_ended, good_left, frame_left}
use Rattle.build_laws.proofs.Outside.{project_kept, project_left}
use Rattle.cutoff_builder.specs.Answers.{BuildAsked, BuildLeaves, Cuts}
use Rattle.cutoff_builder.specs.Theorem.{Builds, CutsOff, GivesPlain, LeavesPlain}
use Rattle.cutoff_builder.specs.declared.builder.BuildFault.{BuildFault}
use Rattle.cutoff_builder.specs.declared.builder.BuildFault.TheVariants as stop

module _ (by : Definitions) (known : List (List ℕ)) (files : Files) (planned : List PlannedUnit) (are : ArePlanned by planned)
    (apart : HashesApart (known ++ interfaces_of (plain_build by.compiled planned).units)) (good : IsGoodStore by known files)
    (new : Option Files) where
  abbrev plain : Build
  plain = plain_build by.compiled planned

  abbrev texts : List (List ℕ)
  texts = known ++ interfaces_of plain.units

  inside : (t : List ℕ) → Contains (interfaces_of plain.units) t → Contains texts t
  inside t h = Contains-append_right known (interfaces_of plain.units) t h

  start : IsGoodStore by texts files
  start = good_more (λ t h. Contains-append_left known (interfaces_of plain.units) t h) good

  is : IsPlain by texts files files planned plain (cut_build by.compiled files planned)
  is = build_is_plain by texts apart files start planned are inside

  gives : (r : Result Built BuildFault) → BuildLeaves r by.compiled files planned (cut_build by.compiled files planned) new
      → GivesPlain r files plain
  gives (Ok built) l = (sym l.0 ∙ is.units, sym is.ended ∙ l.1)
  gives (Err (stop.Stop diag done)) l = (sym l.0 ∙ is.units, sym is.ended ∙ l.1)
  gives (Err stop.Folder) l = tt
  gives (Err stop.NoMemory) l = tt

  leaves : (r : Result Built BuildFault) → BuildLeaves r by.compiled files planned (cut_build by.compiled files planned) new
      → LeavesPlain r files planned plain new
  leaves (Ok built) l = l.2 ∙ ap Some is.leaves
  leaves (Err (stop.Stop diag done)) l = l.2 ∙ ap Some is.leaves
  leaves (Err stop.Folder) l = tt
  leaves (Err stop.NoMemory) l = tt

  frame : (r : Result Built BuildFault) → BuildLeaves r by.compiled files planned (cut_build by.compiled files planned) new
      → Keeps (Some files) new (paths_of plain.units)
  frame (Ok built) l = frame_ended by texts apart files start planned are inside new l.2
  frame (Err (stop.Stop diag done)) l = frame_ended by texts apart files start planned are inside new l.2
  frame (Err stop.Folder) l = frame_left by texts apart files start planned are inside new l
  frame (Err stop.NoMemory) l = frame_left by texts apart files start planned are inside new l

  good_after : (r : Result Built BuildFault) → BuildLeaves r by.compiled files planned (cut_build by.compiled files planned) new
      → StoreIsGood by texts new
  good_after (Ok built) l = store_is_good l.2 is.good
  good_after (Err (stop.Stop diag done)) l = store_is_good l.2 is.good
  good_after (Err stop.Folder) l = good_left by texts apart files start planned are inside new l
  good_after (Err stop.NoMemory) l = good_left by texts apart files start planned are inside new l

  cuts_off : (result : Result Built BuildFault) (asked now : List (List ℕ))
      → Cuts result by.compiled files planned (cut_build by.compiled files planned) new asked now
      → CutsOff by known files planned plain result new asked now
  cuts_off result asked now cuts = record {
    gives = gives result cuts.leaves;
    leaves = leaves result cuts.leaves;
    asks = subst (BuildAsked result asked now) is.asked cuts.asks;
    frame = frame result cuts.leaves;
    good = good_after result cuts.leaves;
  }

pub builds_plain : (by : Definitions) (files : Files) (planned : List PlannedUnit) (result : Result Built BuildFault)
    (new : Option Files) (asked now : List (List ℕ)) → AllByRecursion IsSmallPlanned planned
    → Cuts result by.compiled files planned (cut_build by.compiled files planned) new asked now
    → Builds by files planned result new asked now
builds_plain by files planned result new asked now small cuts = λ known names skeletons apart good.
    cuts_off by known files planned (record { names = names; skeletons = skeletons; small = small }) apart good new result asked now cuts

-- whatever it answers, the project is as it was
pub keeps_project : (compiled : CompileInput → Result Compiled Diag) (files : Files) (planned : List PlannedUnit)
    (result : Result Built BuildFault) (new : Option Files) (asked now : List (List ℕ))
    → Cuts result compiled files planned (cut_build compiled files planned) new asked now → KeepsProject files new
keeps_project compiled files planned result new asked now cuts = by_result result cuts.leaves
  where
    by_result : (r : Result Built BuildFault) → BuildLeaves r compiled files planned (cut_build compiled files planned) new
        → KeepsProject files new
    by_result (Ok built) l = project_kept compiled files planned new l.2
    by_result (Err (stop.Stop diag done)) l = project_kept compiled files planned new l.2
    by_result (Err stop.Folder) l = project_left compiled files planned new l
    by_result (Err stop.NoMemory) l = project_left compiled files planned new l
