-- What a build over a store leaves that was cut off: the first units are done, and perhaps the next one was begun.
use Rattle.std.specs.Prelude.{ℕ, ◌≡◌, ◌⊎◌, false, List, ◌∷◌, ◌++◌, Option, Some, None, Result, Ok}
use Rattle.std.specs.FinMap.{get}
use Rattle.cm_base.specs.Files.{Files, is_stored}
use Rattle.cm_base.specs.declared.diag.Diag.{Diag}
use Rattle.cm_base.specs.declared.record.CompileInput.{CompileInput}
use Rattle.cm_base.specs.declared.record.Compiled.{Compiled}
use Rattle.cm_base.specs.declared.record.How.TheVariants as how
use Rattle.cm_base.specs.declared.record.BuiltUnit.{BuiltUnit}
use Rattle.cm_base.specs.declared.record.PlannedUnit.{PlannedUnit}
use Rattle.build_laws.specs.CutBuild.{turn, cut_build}
use Rattle.build_laws.specs.Storing.{StoresUnit}

-- the first units are done, with these files after them
pub record CutSoFar (compiled : CompileInput → Result Compiled Diag) (files : Files) (front : List PlannedUnit)
    (done : List BuiltUnit) (asked : List (List ℕ)) (here : Files) : Type 0 where
  pub is : cut_build compiled files front ≡ record { units = done; ended = None; asked = asked; files = here }

-- the next unit, which is compiled, was stored as far as it came
pub record NextUnit (compiled : CompileInput → Result Compiled Diag) (done : List BuiltUnit) (here : Files)
    (rest : List PlannedUnit) (new : Option Files) : Type 0 where
  pub at : PlannedUnit
  pub later : List PlannedUnit
  pub first : rest ≡ at ∷ later
  pub unit : BuiltUnit
  pub gives : (turn compiled here done at).gives ≡ Ok unit
  pub came : unit.how ≡ how.Compiled
  pub stores : StoresUnit (Some here) new at unit

pub record LeftByCut (compiled : CompileInput → Result Compiled Diag) (files : Files) (planned : List PlannedUnit)
    (new : Option Files) : Type 0 where
  pub front : List PlannedUnit
  pub rest : List PlannedUnit
  pub split : planned ≡ front ++ rest
  pub done : List BuiltUnit
  pub asked : List (List ℕ)
  pub here : Files
  pub so_far : CutSoFar compiled files front done asked here
  pub next : (new ≡ Some here) ⊎ NextUnit compiled done here rest new

-- each path outside the store is as it was
pub record KeepsProject (files : Files) (new : Option Files) : Type 0 where
  pub after : Files
  pub tells : new ≡ Some after
  pub kept : (path : List ℕ) → is_stored path ≡ false → get after path ≡ get files path
